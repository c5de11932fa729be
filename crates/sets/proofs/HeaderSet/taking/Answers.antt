-- Care and value, each word by word.
use Rattle.sets.proofs.HeaderSet.taking.Goals as goal

pub returns : goal.returns
returns c = λ i. record { care = c.overwritten.ensures i; value = c.overwritten-2.ensures i }
