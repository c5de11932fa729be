-- The third table of examples, by computing: only how long the area is is argued.
use mathlib.Core.Path.{refl}
use Rattle.examples.specs.Equals.{EqualsTable}
use Rattle.examples.proofs.Computing.{computing, computing_run, room_then, enough}

pub equals_table : EqualsTable
unfolding computing computing_run room_then
equals_table = record {
  H-words = refl;
  H-accepted = refl;
  one_choice = enough 96 0 _;
  below = enough 96 0 _;
  listed = enough 84 0 _;
  budget_3 = λ area l. refl;
  tied = enough 96 0 _;
  at_the_limit = enough 96 0 _;
  tied_at_once = enough 96 0 _;
  higher_drops = enough 96 0 _;
  one_holds = enough 96 0 _;
}
