-- `put_words` meets its contract. The loop's invariant: the words passed are written.
use mathlib.Core.Path.{◌≡◌}
use lib.ListN.{take}
use Rattle.answer.specs.Answer.{written_at}
use Rattle.answer.proofs.put_words.Given as goal

abbrev pub invariant-loop-i : goal.invariant-loop-i
invariant-loop-i l = l.area ≡ written_at l.at (take l.i l.words) l.initial.area
