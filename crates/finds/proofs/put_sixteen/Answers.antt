-- `put_sixteen` meets its contract: the zeros are written where the entries end.
use mathlib.Core.List.{List}
use mathlib.Core.Path.{refl, sym, ap, ◌∙◌}
use Prim.Native.Nat.{ℕ, ◌-◌}
use lib.ListN.{length, take, replicate}
use native.Mathlib.Omega.{arith}
use Rattle.answer.specs.Answer.{written_at}
use Rattle.events.proofs.FindWords.{written_both, sixteen_are}
use Rattle.finds.proofs.put_sixteen.Goals as goal

pub returns : goal.returns
returns c =
    let a = c.args in
    written_both a.at a.way.now (take (16 - length a.way.now) (replicate 16 0)) a.area.now c.put_words.ensures
    c.put_words-2.ensures refl (omega arith)
    ∙ ap (λ (l : List ℕ). written_at a.at l a.area.now) (sym (sixteen_are c.requires.way))
