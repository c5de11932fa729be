-- `put_parts` ends: each turn leaves one part fewer to carve.
use Rattle.header_examples.proofs.Parts.{Free, parts_left}
use Rattle.header_examples.proofs.put_parts.Given as goal

abbrev pub invariant-loop-b : goal.invariant-loop-b
invariant-loop-b g l = Free l.b l.rest l.free

abbrev pub decreases-loop-b : goal.decreases-loop-b
decreases-loop-b g l = parts_left l.b l.rest
