-- `put_entries` meets its contract. The loop's invariant: with the entries that are left written from here on, all are.
use mathlib.Core.Path.{◌≡◌}
use Prim.Native.Nat.{◌+◌}
use lib.ListN.{length, drop}
use Rattle.answer.specs.Answer.{written_at}
use Rattle.events.proofs.FindWords.{entry_words}
use Rattle.listing.proofs.put_entries.Given as goal

abbrev pub invariant-loop-i : goal.invariant-loop-i
invariant-loop-i l =
    (length l.area ≡ length l.initial.area)
    × (written_at (l.at + l.i) (entry_words (drop l.i l.way)) l.area ≡ written_at l.at (entry_words l.way) l.initial.area)
