-- `HeaderSet::unswapped` meets its contract: care and value, both.
use Rattle.sets.proofs.HeaderSet.unswapped.Goals as goal

pub returns : goal.returns
returns c = λ i. record { care = c.swapped.ensures i; value = c.swapped-2.ensures i }
