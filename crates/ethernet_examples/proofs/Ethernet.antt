-- The sixth table of examples, by computing: only how long the area is is argued.
use mathlib.Core.Path.{refl}
use Rattle.ethernet_examples.specs.Ethernet.{Traced, Ran, Refused, EthernetTable}
use Rattle.examples.proofs.Computing.{computing, computing_run, room_then, enough, short}

traced : Traced
unfolding computing room_then
traced = record {
  reached = enough 112 0 _;
  reached_words_lem = refl;
  isolated = enough 112 0 _;
  verdict_budget_1 = enough 112 13 _;
  verdict_short = short 112 0 _;
  listed = enough 1152 0 _;
  listed_one = enough 72 0 _;
  list_budget_1 = λ area l. refl;
  list_short = short 72 0 _;
}

ran : Ran
unfolding computing_run room_then
ran = record {
  left = enough 112 0 _;
  dropped = enough 112 0 _;
  lost = enough 112 0 _;
  run_short = short 112 0 _;
}

refusals : Refused
unfolding computing computing_run
refusals = record {
  in_admitted = refl;
  in_match = refl;
  in_mask = refl;
  call_5 = λ area l. refl;
  verdict_10 = λ area l. refl;
  list_10 = λ area l. refl;
  run_zeros = λ area l. refl;
  run_not_all = λ area l. refl;
  L-version = refl;
  verdict_L = λ area l. refl;
  list_L = λ area l. refl;
  run_L = λ area l. refl;
  F-version = refl;
  verdict_F = λ area l. refl;
  list_F = λ area l. refl;
  run_F = λ area l. refl;
  long_in_1 = refl;
  long_in_2 = refl;
  long_F_in_2 = refl;
}

pub ethernet_table : EthernetTable
unfolding computing
ethernet_table = record {
  packed = refl;
  L-words = refl;
  L-accepted = refl;
  traced = traced;
  ran = ran;
  refusals = refusals;
}
