-- The loop has `LinksSoFar` in hand; each way out is a law of proofs/Loops.antt.
use Rattle.file.proofs.Loops.{LinksSoFar}
use Prim.Native.Nat.{◌-◌}
use Rattle.file.proofs.links.Given as goal

abbrev pub invariant-loop-at : goal.invariant-loop-at
invariant-loop-at l = LinksSoFar l.file l.e l.l l.at l.last l.starts l.ends

abbrev pub decreases-loop-at : goal.decreases-loop-at
decreases-loop-at l = l.words - l.at
