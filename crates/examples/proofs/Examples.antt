-- E1 to E10 of document 01, "Checked examples", by computing: only that the area is long enough is argued. Assumes nothing.
use mathlib.Core.Path.{refl}
use Rattle.answer.specs.Answer.{refused, answered}
use Rattle.calls.specs.Verdict.{verdict_call}
use Rattle.calls.specs.List.{list_call}
use Rattle.examples.specs.Examples.{F, listed, reached_there, isolated_there, Always, target2, budget1, target1, Table}
use Rattle.examples.proofs.Computing.{computing, room_then, enough}

E2-by : Always 80 (list_call 4 F target2) (answered listed)
unfolding computing room_then
E2-by area l = enough 80 0 listed area l

E3-by : Always 96 (verdict_call 4 F target2) (answered reached_there)
unfolding computing room_then
E3-by area l = enough 96 0 reached_there area l

E4-by : Always 96 (verdict_call 4 F budget1) (refused 13 0)
unfolding computing room_then
E4-by area l = enough 96 13 reached_there area l

E5-by : Always 96 (verdict_call 4 F (target1 1)) (answered isolated_there)
unfolding computing room_then
E5-by area l = enough 96 0 isolated_there area l

E6-by : Always 96 (verdict_call 4 F (target1 16)) (answered isolated_there)
unfolding computing room_then
E6-by area l = enough 96 0 isolated_there area l

pub table : Table
unfolding computing
table = record {
  E1-words = refl;
  E1 = refl;
  E2 = E2-by;
  E3 = E3-by;
  E4-list = λ area l. refl;
  E4-verdict = E4-by;
  E5 = E5-by;
  E6-17 = λ area l. refl;
  E6-16 = E6-by;
  E7 = refl;
  E8 = refl;
  E9 = refl;
  E10 = refl;
}
