-- The loop has `EdgesSoFar` in hand; each way out is a law of proofs/Loops.antt.
use Rattle.file.proofs.Loops.{EdgesSoFar}
use Prim.Native.Nat.{◌-◌}
use Rattle.file.proofs.edges.Given as goal

abbrev pub invariant-loop-at : goal.invariant-loop-at
invariant-loop-at l = EdgesSoFar l.file l.e l.at l.last l.edge_of

abbrev pub decreases-loop-at : goal.decreases-loop-at
decreases-loop-at l = l.words - l.at
