-- Care and value, each word by word.
use Rattle.sets.proofs.HeaderSet.joined.Goals as goal

pub returns : goal.returns
returns c = λ i. record { care = c.either.ensures i; value = c.either-2.ensures i }
