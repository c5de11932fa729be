use mathlib.Core.Path.{◌≡◌, sym, subst}
use Prim.Native.Nat.{ℕ}
use native.Mathlib.Omega.{arith}
use Rattle.wide.specs.Forms.{words_of}
use Rattle.model.specs.Model.{wide_in}
use Rattle.model.specs.Taking.{AmongEntries, IsBest}
use Rattle.model.proofs.Candidates.{taken_by}
use Rattle.model.proofs.EntryRead.{entries_are}
use Rattle.model.proofs.taker.Goals as goal

pub returns : goal.returns
returns c =
    let f = c.args.fabric.now.file.now in
    let l = c.loop-i in
    let n = entries_are f _ c.args.fabric.now.accepted in
    let all : l.i ≡ (wide_in f).entries = omega (arith, n) in
    taken_by (wide_in f) c.args.x (words_of c.args.h) l.best
    (subst (λ (k : ℕ). AmongEntries k l.best) (sym n) l.invariant.among)
    (subst (λ (k : ℕ). IsBest (wide_in f) c.args.x (words_of c.args.h) k l.best) all l.invariant.best)
