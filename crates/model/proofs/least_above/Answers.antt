-- `least_above` meets its contract: strictly above q is from q + 1 on.
use mathlib.Core.Path.{ap}
use Prim.Native.Nat.{ℕ}
use native.Mathlib.Numerals.{add-one}
use lib.Dec.{leb}
use Rattle.model.proofs.least_above.Goals as goal

pub returns : goal.returns
returns c = λ p. ap (λ (k : ℕ). leb k p) (add-one c.args.q)
