-- `HeaderSet::untransferred` meets its contract: each transfer has its own way back.
use Rattle.std.proofs.Common.{Some, ap}
use Rattle.sets.proofs.HeaderSet.untransferred.Goals as goal

pub returns-in-Keep : goal.returns-in-Keep
returns-in-Keep c = rw c.in-Keep.is

pub returns-in-Copy : goal.returns-in-Copy
returns-in-Copy c = rw c.in-Copy.is c.uncopied.ensures

pub returns-in-Swap : goal.returns-in-Swap
returns-in-Swap c = rw c.in-Swap.is (ap Some c.unswapped.ensures)
