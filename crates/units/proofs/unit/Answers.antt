-- `unit` meets its contract.
use native.Mathlib.Omega.{arith}
use Rattle.units.proofs.Units.{unit_refused, unit_counted}
use Rattle.units.proofs.unit.Goals as goal

pub returns-then-from-counters : goal.returns-then-from-counters
returns-then-from-counters c = unit_refused _ _ (omega arith)

pub returns : goal.returns
returns c = unit_counted _ _ _ (omega arith)
