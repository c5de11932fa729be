-- No bit of the value is set outside care.
use Rattle.sets.proofs.HeaderSet.is_tidy.Goals as goal

pub returns : goal.returns
returns c = rw c.outside.ensures at c.none_set.ensures
