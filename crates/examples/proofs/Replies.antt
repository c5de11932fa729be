-- The fourth table of examples, by computing: only how long the area is is argued.
use mathlib.Core.Path.{refl}
use Rattle.examples.specs.Replies.{RepliesTable}
use Rattle.examples.proofs.Computing.{computing, computing_run, room_then, enough}

pub replies_table : RepliesTable
unfolding computing computing_run room_then
replies_table = record {
  J-words = refl;
  J-accepted = refl;
  swapped_back = enough 96 0 _;
  neither = enough 96 0 _;
  listed = enough 84 0 _;
  budget_5 = λ area l. refl;
  swaps = enough 96 0 _;
  at_the_limit = enough 96 0 _;
  copies = enough 96 0 _;
  swaps_and_drops = enough 96 0 _;
  transfer_3 = refl;
  zero_bit_27 = refl;
  zero_bit_12 = refl;
  refused_3 = λ area l. refl;
}
