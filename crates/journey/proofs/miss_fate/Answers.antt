-- `miss_fate` asks the fabric whether a packet that no entry takes is dropped.
use mathlib.Core.Bool.{Bool, cond}
use mathlib.Core.Path.{sym, ap, ◌∙◌}
use Rattle.journey.proofs.miss_fate.Goals as goal

pub returns-then-miss_drops : goal.returns-then-miss_drops
returns-then-miss_drops c = ap (λ (b : Bool). cond b 1 2) (sym c.if-miss_drops.true ∙ c.miss_drops.ensures)

pub returns-else-miss_drops : goal.returns-else-miss_drops
returns-else-miss_drops c = ap (λ (b : Bool). cond b 1 2) (sym c.if-miss_drops.false ∙ c.miss_drops.ensures)
