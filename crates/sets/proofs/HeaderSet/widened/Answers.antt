-- Care and value, each word by word.
use Rattle.sets.proofs.HeaderSet.widened.Goals as goal

pub returns : goal.returns
returns c = λ i. record { care = c.outside.ensures i; value = c.outside-2.ensures i }
