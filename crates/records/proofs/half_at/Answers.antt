-- Care and value as they were read.
use Rattle.records.proofs.half_at.Goals as goal

pub returns : goal.returns
returns c = rw (← c.words.ensures) (λ i. record { care = c.four_at.ensures i; value = c.four_at-2.ensures i })
