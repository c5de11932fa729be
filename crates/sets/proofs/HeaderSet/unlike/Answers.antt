-- `HeaderSet::unlike` meets its contract: the bit is taken from b turned round.
use Rattle.sets.proofs.HeaderSet.unlike.Goals as goal

pub returns : goal.returns
returns c = rw c.turned.ensures at c.taking.ensures
