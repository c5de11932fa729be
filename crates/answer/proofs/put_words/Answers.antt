use mathlib.Core.List.{List}
use mathlib.Core.Path.{◌≡◌, sym, ap, ◌∙◌}
use Prim.Native.Nat.{ℕ}
use borrow.Author.Rules.{rules}
use lib.ListN.{length, take}
use lib.Seq.{take-length}
use native.Mathlib.Omega.{arith}
use Rattle.answer.specs.Answer.{written_at}
use Rattle.answer.proofs.Written.{written_none, written_more}
use Rattle.answer.proofs.put_words.Goals as goal

pub loop-i-init : goal.loop-i-init
loop-i-init c = sym (written_none c.args.at c.args.area.now (omega arith))

pub loop-i-preserved : goal.loop-i-preserved
loop-i-preserved c =
    let a = c.args in
    let l = c.loop-i in
    c.put_word.ensures ∙ written_more a.at l.i a.words.now a.area.now l.area (search rules) (search rules) l.invariant

pub returns : goal.returns
returns c =
    let a = c.args in
    let all : c.loop-i.i ≡ length a.words.now = omega arith in
    c.loop-i.invariant
    ∙ ap (λ (l : List ℕ). written_at a.at l a.area.now) (ap (λ (k : ℕ). take k a.words.now) all ∙ take-length a.words.now)
