-- The loop has `EntriesSoFar` in hand; each way out is a law of proofs/Loops.antt.
use Rattle.file.proofs.Loops.{EntriesSoFar}
use Prim.Native.Nat.{◌-◌}
use Rattle.file.proofs.entries.Given as goal

abbrev pub invariant-loop-at : goal.invariant-loop-at
invariant-loop-at l = EntriesSoFar l.file l.e l.l l.n l.at l.counts

abbrev pub decreases-loop-at : goal.decreases-loop-at
decreases-loop-at l = l.words - l.at
