-- The second table of examples, by computing: only how long the area is is argued. Assumes nothing.
use mathlib.Core.Path.{refl}
use Rattle.examples.specs.Richer.{Verdicts, Lists, Runs, RicherTable}
use Rattle.examples.proofs.Computing.{computing, computing_run, room_then, enough, short}

verdicts : Verdicts
unfolding computing room_then
verdicts = record {
  three_hops = enough 96 0 _;
  two_hops_lem = enough 96 0 _;
  budget_6 = enough 96 13 _;
  own_traffic = enough 96 0 _;
  one_hop = enough 96 0 _;
  in_turn_8 = λ area l. refl;
  in_turn_9 = λ area l. refl;
  in_turn_10 = λ area l. refl;
  in_turn_12 = short 96 13 _;
}

lists : Lists
unfolding computing room_then
lists = record {
  all_finds = enough 232 0 _;
  budget_12 = λ area l. refl;
  no_finds = enough 0 0 _;
  in_turn_8 = λ area l. refl;
  in_turn_9 = λ area l. refl;
  in_turn_10 = λ area l. refl;
  in_turn_13 = λ area l. refl;
  in_turn_12 = short 232 0 _;
}

runs : Runs
unfolding computing_run room_then
runs = record {
  left = enough 96 0 _;
  dropped = enough 96 0 _;
  lost = enough 96 0 _;
  travelling = enough 96 0 _;
  higher = enough 96 0 _;
  in_turn_9 = λ area l. refl;
  in_turn_10 = λ area l. refl;
  in_turn_11 = λ area l. refl;
  in_turn_12 = short 96 0 _;
}

pub richer_table : RicherTable
unfolding computing
richer_table = record {
  G-words = refl;
  G-accepted = refl;
  verdicts = verdicts;
  lists = lists;
  runs = runs;
}
