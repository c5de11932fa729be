use mathlib.Core.Path.{◌≡◌, refl, sym, ap, ◌∙◌}
use Prim.Native.Nat.{ℕ, ◌+◌}
use borrow.Author.Rules.{rules}
use native.Mathlib.Omega.{arith}
use Rattle.answer.specs.Answer.{written_at}
use Rattle.events.proofs.FindWords.{entry_words, entries_next, entries_end}
use Rattle.listing.proofs.put_entries.Goals as goal

pub loop-i-init : goal.loop-i-init
loop-i-init c =
    let a = c.args in
    (refl, ap (λ (k : ℕ). written_at k (entry_words a.way.now) a.area.now) (let e : a.at + 0 ≡ a.at = omega arith in e))

pub loop-i-preserved : goal.loop-i-preserved
loop-i-preserved c =
    let l = c.loop-i in
    let a = c.args in (
      search rules,
      entries_next (a.at + l.i) (a.at + (l.i + 1)) l.i a.way.now l.area c.put_word.ensures (omega arith) (omega arith) (omega arith)
          ∙ l.invariant.1,
    )

pub returns : goal.returns
returns c =
    let l = c.loop-i in
    let a = c.args in
    sym (entries_end (a.at + l.i) l.i a.way.now l.area (omega arith) (omega arith)) ∙ l.invariant.1
