-- The values agree on the bits that both care for.
use Rattle.sets.proofs.HeaderSet.overlaps.Goals as goal

pub returns : goal.returns
returns c = rw c.both.ensures at c.agree.ensures
