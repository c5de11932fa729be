-- Document 01's examples on fabric F and on single entries, and where the published method misleads; each computed. Assumes nothing.
use Rattle.std.specs.Prelude.{Bool, true, false, ◌||◌, cond, ◌≡◌, refl, ℕ, eqb, length, get_or}
use mathlib.Core.List.{List, [], ◌∷◌, ◌++◌, map, flat_map}
use Rattle.std.proofs.Math.Option.{some, none, bind, Option-elim, or_else}
use Rattle.headers.specs.Bits.{bit, bit_at, positions, those, set_bits, single}
use Rattle.headers.specs.Sets.{Header, Set, all_wild, no_rewrite, intersection, undone}
use Rattle.headers.specs.Actions.{Act, no_action, unacted}
use Rattle.headers.specs.declared.Transfer.TheVariants.{Keep, Copy, Swap}
use Rattle.headers.specs.Carving.{parts_at, parts, carve, holders}
use Rattle.forwarding.specs.Fabric.{Entry, Fabric, holds, beats, applied, undoes}
use Rattle.forwarding.specs.Run.{Packet, left, dropped, missed, travelling, tied, unbeaten, takes, takers, hop, run}
use Rattle.forwarding.specs.Run.{fate_of, port_of, header_of, taken_by, hops_made}
use Rattle.forwarding.specs.BackTrace.{back, beaters, survivors, back_traced}
use Rattle.forwarding.specs.Trace.{unit, find, carved, at_in_port, taken_up, stop, trace, lost_at, lost_trace, list_trace}
use Rattle.forwarding.specs.Verdict.{isolated, reached, foreign_packet, verdict, verdict_on, ends_within, verdict_within}
use Rattle.forwarding.specs.Wider.{wider_to}

abbrev pub header : ℕ → ℕ → ℕ → ℕ → Header
header a b c d = a ∷ b ∷ c ∷ d ∷ []

abbrev pub set : Header → Header → Set
set care value = record { care = care; value = value }

abbrev pub tp_dst : ℕ → Set
tp_dst port = set (header 0 0 0xffff 0) (header 0 0 port 0)

abbrev pub set_tp_dst : ℕ → Act
set_tp_dst port = record { transfer = Keep; rewrite = record { mask = header 0 0 0xffff 0; value = header 0 0 port 0 } }

-- priority, in-port, out-port, match and action
abbrev pub entry_of : ℕ → ℕ → ℕ → Set → Act → Entry
entry_of priority in_port out_port matches action = record {
  priority = priority;
  in_port = in_port;
  out_port = out_port;
  matches = matches;
  action = action;
}

-- edge port 1 of group 7 and edge port 2 of group 9, both with an all-wild admitted set, one link, these entries, and what becomes of a
-- packet that no entry takes
abbrev pub linked_under : Bool → ℕ → ℕ → List Entry → Fabric
linked_under drops from to l = record {
  words = 4;
  entries = length l;
  entry = λ e. get_or l e (entry_of 0 0 0 (all_wild 4) (no_action 4));
  is_edge = λ x. eqb x 1 || eqb x 2;
  group = λ x. cond (eqb x 1) 7 9;
  admitted = λ x. all_wild 4;
  link_to = λ x. cond (eqb x from) to 0;
  link_from = λ x. cond (eqb x to) from 0;
  ports = 8;
  miss_drops = drops;
}

-- under OpenFlow 1.0
abbrev pub linked : ℕ → ℕ → List Entry → Fabric
linked from to l = linked_under false from to l

-- the same with no link
abbrev fabric : List Entry → Fabric
fabric l = linked 0 0 l

-- What the examples compute with: to open it is to open all that its line names.
computing_sets : Unit {0}
unfolding bit bit_at positions those set_bits single parts_at parts carve holders intersection undone unacted
computing_sets = tt

computing_run : Unit {0}
unfolding computing_sets holds beats applied unbeaten takes takers hop run fate_of port_of header_of taken_by
computing_run = tt

computing_back : Unit {0}
unfolding computing_run bind Option-elim flat_map undoes back beaters survivors back_traced
computing_back = tt

computing : Unit {0}
unfolding computing_back carved at_in_port taken_up stop lost_at lost_trace or_else foreign_packet verdict ends_within verdict_within
computing = tt

-- ---- fabric F

abbrev F : Fabric
F = fabric
    (entry_of 20 1 0 (set (header 0 0 3 0) (header 0 0 1 0)) (no_action 4)
    ∷ entry_of 10 1 2 (set (header 0 0xffffffff 0 0) (header 0 0x0a000002 0 0)) (no_action 4)
    ∷ [])

-- "list, target 2, limit 1, budget 2, all wild"
E2 : trace F 1 2 (all_wild 4)
    ≡ unit
    ∷ unit
    ∷ find (record { port = 1; path = 1 ∷ []; set = set (header 0 0xffffffff 2 0) (header 0 0x0a000002 2 0) })
    ∷ find (record { port = 1; path = 1 ∷ []; set = set (header 0 0xffffffff 3 0) (header 0 0x0a000002 0 0) })
    ∷ []
unfolding computing
E2 = refl

E2-budget : ends_within 2 0 (trace F 1 2 (all_wild 4)) ≡ true
unfolding computing
E2-budget = refl

-- "verdict there: reached, 2 units, port 1, 1 hop, header 0 0x0a000002 2 0, entry 1"
E3 : verdict_on F 2 1 (all_wild 4) ≡ reached 2 1 (1 ∷ []) (header 0 0x0a000002 2 0)
unfolding computing
E3 = refl

-- its packet by the forwarding rule
E3-run : run F 1 1 (header 0 0x0a000002 2 0) ≡ left 2 (header 0 0x0a000002 2 0) (1 ∷ [])
unfolding computing
E3-run = refl

-- document 02, 2.6: the same in a fabric of eight words, where no entry looks at the last four or changes them
E3-wider : verdict_on (wider_to 8 F) 2 1 (all_wild 8) ≡ reached 2 1 (1 ∷ []) (header 0 0x0a000002 2 0 ++ header 0 0 0 0)
unfolding computing
E3-wider = refl

E3-run-wider : run (wider_to 8 F) 1 1 (header 0 0x0a000002 2 0 ++ header 5 6 7 8)
    ≡ left 2 (header 0 0x0a000002 2 0 ++ header 5 6 7 8) (1 ∷ [])
unfolding computing
E3-run-wider = refl

-- "budget 1: 13"
E4 : verdict_within F 2 1 0 (trace F 1 2 (all_wild 4)) ≡ none
unfolding computing
E4 = refl

-- "verdict, target 1, limit 1, budget 0, all wild: isolated, 0 units"
E5 : verdict_within F 1 0 0 (trace F 1 1 (all_wild 4)) ≡ some (isolated 0)
unfolding computing
E5 = refl

-- ---- two hops over a link

-- entry 0 writes tp_dst 5 and sends from edge port 1 to port 3, from which a link leads to port 4, where entry 1 takes tp_dst 5 to
-- edge port 2
abbrev pub two_hops : Fabric
two_hops = linked 3 4 (entry_of 10 1 3 (all_wild 4) (set_tp_dst 5) ∷ entry_of 10 4 2 (tp_dst 5) (no_action 4) ∷ [])

pub two_hops_back : trace two_hops 2 2 (all_wild 4) ≡ unit ∷ unit ∷ find
    (record { port = 1; path = 0 ∷ 1 ∷ []; set = all_wild 4 }) ∷ []
unfolding computing
two_hops_back = refl

one_hop_back : trace two_hops 1 2 (all_wild 4) ≡ unit ∷ []
unfolding computing
one_hop_back = refl

two_hops_lem : run two_hops 2 1 (header 0 0 22 0) ≡ left 2 (header 0 0 5 0) (1 ∷ 0 ∷ [])
unfolding computing
two_hops_lem = refl

one_hop : run two_hops 1 1 (header 0 0 22 0) ≡ travelling 4 (header 0 0 5 0) (0 ∷ [])
unfolding computing
one_hop = refl

-- ---- copies and swaps

-- from this address, and to that one
abbrev from_to : ℕ → ℕ → Set
from_to src dst = set (header 0xffffffff 0xffffffff 0 0) (header src dst 0 0)

-- entry 0 swaps and sends from edge port 1 over the link, behind which entry 1 takes what is then from 9 to 7 to edge port 2
abbrev swapping : Fabric
swapping = linked 3 4
    (entry_of 10 1 3 (all_wild 4) (record { transfer = Swap; rewrite = no_rewrite 4 })
    ∷ entry_of 10 4 2 (from_to 9 7) (no_action 4)
    ∷ [])

swap_back : trace swapping 2 2 (all_wild 4) ≡ unit ∷ unit ∷ find (record { port = 1; path = 0 ∷ 1 ∷ []; set = from_to 7 9 }) ∷
    []
unfolding computing
swap_back = refl

swap_run : run swapping 2 1 (header 7 9 0 0) ≡ left 2 (header 9 7 0 0) (1 ∷ 0 ∷ [])
unfolding computing
swap_run = refl

unswapped_lost : run swapping 2 1 (header 9 7 0 0) ≡ missed 4 (header 7 9 0 0) (0 ∷ [])
unfolding computing
unswapped_lost = refl

-- an entry that copies: two wants that agree, and two that don't
abbrev copying : Fabric
copying = fabric (entry_of 10 1 2 (all_wild 4) (record { transfer = Copy; rewrite = no_rewrite 4 }) ∷ [])

copy_back : back_traced copying 0 (from_to 7 7) ≡ set (header 0xffffffff 0 0 0) (header 7 0 0 0) ∷ []
unfolding computing
copy_back = refl

copy_disagrees : back_traced copying 0 (from_to 7 9) ≡ []
unfolding computing
copy_disagrees = refl

copy_run : run copying 1 1 (header 7 9 0 0) ≡ left 2 (header 7 7 0 0) (0 ∷ [])
unfolding computing
copy_run = refl

-- ---- equal priorities

-- two entries of one priority: entry 0 drops tp_dst 22, entry 1 sends all to edge port 2
abbrev tie : Fabric
tie = fabric (entry_of 10 1 0 (tp_dst 22) (no_action 4) ∷ entry_of 10 1 2 (all_wild 4) (no_action 4) ∷ [])

-- W16: where both may take the packet, the run stops before the hop
tie_run : run tie 1 1 (header 0 0 22 0) ≡ tied 1 (header 0 0 22 0) []
unfolding computing
tie_run = refl

-- where one alone may, the run goes on
untied_run : run tie 1 1 (header 0 0 80 0) ≡ left 2 (header 0 0 80 0) (1 ∷ [])
unfolding computing
untied_run = refl

-- W1: neither beats the other, so no trial is made, and the find holds tp_dst 22 too
tie_back : trace tie 1 2 (all_wild 4) ≡ unit ∷ find (record { port = 1; path = 1 ∷ []; set = all_wild 4 }) ∷ []
unfolding computing
tie_back = refl

-- 'reached' under one choice only: the run of the packet that it names is tied
tie_verdict : verdict_on tie 2 1 (tp_dst 22) ≡ reached 1 1 (1 ∷ []) (header 0 0 22 0)
unfolding computing
tie_verdict = refl

-- two entries of one priority that both send to edge port 2: one pair, two ways, two finds
abbrev two_ways : Fabric
two_ways = fabric (entry_of 10 1 2 (all_wild 4) (no_action 4) ∷ entry_of 10 1 2 (tp_dst 22) (no_action 4) ∷ [])

two_ways_back : trace two_ways 1 2 (tp_dst 22)
    ≡ unit
    ∷ find (record { port = 1; path = 0 ∷ []; set = tp_dst 22 })
    ∷ unit
    ∷ find (record { port = 1; path = 1 ∷ []; set = tp_dst 22 })
    ∷ []
unfolding computing
two_ways_back = refl

-- it is tied though both do the same
two_ways_run : run two_ways 1 1 (header 0 0 22 0) ≡ tied 1 (header 0 0 22 0) []
unfolding computing
two_ways_run = refl

-- W2: equals below a higher entry that holds the packet don't count
abbrev equals_below : Fabric
equals_below = fabric
    (entry_of 10 1 0 (all_wild 4) (no_action 4)
    ∷ entry_of 10 1 0 (all_wild 4) (no_action 4)
    ∷ entry_of 20 1 2 (tp_dst 22) (no_action 4)
    ∷ [])

below_run : run equals_below 1 1 (header 0 0 22 0) ≡ left 2 (header 0 0 22 0) (2 ∷ [])
unfolding computing
below_run = refl

beside_run : run equals_below 1 1 (header 0 0 80 0) ≡ tied 1 (header 0 0 80 0) []
unfolding computing
beside_run = refl

-- W10: two equals behind a link. At the limit the packet is still travelling, whatever stands there; with a hop left the run is tied.
abbrev tie_behind : Fabric
tie_behind = linked 3 4
    (entry_of 10 1 3 (all_wild 4) (no_action 4)
    ∷ entry_of 10 4 2 (all_wild 4) (no_action 4)
    ∷ entry_of 10 4 0 (all_wild 4) (no_action 4)
    ∷ [])

at_the_limit : run tie_behind 1 1 (header 0 0 0 0) ≡ travelling 4 (header 0 0 0 0) (0 ∷ [])
unfolding computing
at_the_limit = refl

past_the_limit : run tie_behind 2 1 (header 0 0 0 0) ≡ tied 4 (header 0 0 0 0) (0 ∷ [])
unfolding computing
past_the_limit = refl

-- ---- packets that no entry takes

-- entry 0 writes tp_dst 5 and sends from edge port 1 over the link, behind which entry 1 takes only tp_dst 80; none stands at edge port 2
abbrev losing : Bool → Fabric
losing drops = linked_under drops 3 4 (entry_of 10 1 3 (all_wild 4) (set_tp_dst 5) ∷ entry_of 10 4 2 (tp_dst 80) (no_action 4) ∷ [])

-- W7, W9: under OpenFlow 1.0 it is lost, under 1.3 dropped, at its in-port and with no further hop
missed_run : run (losing false) 2 1 (header 0 0 22 0) ≡ missed 4 (header 0 0 5 0) (0 ∷ [])
unfolding computing
missed_run = refl

abbrev fate_under : Bool → ℕ
fate_under drops = fate_of (losing drops) (run (losing drops) 2 1 (header 0 0 22 0))

miss_fates : map fate_under (false ∷ true ∷ []) ≡ 2 ∷ 1 ∷ []
unfolding computing
miss_fates = refl

-- T18: at port 1 entry 0 leaves nothing, at port 2 none takes anything, and what is lost at the link's end with tp_dst 5 had any tp_dst
-- at its start
lost_back : lost_trace (losing false) 2 (tp_dst 5)
    ≡ unit
    ∷ find (record { port = 2; path = []; set = tp_dst 5 })
    ∷ unit
    ∷ unit
    ∷ find (record { port = 1; path = 0 ∷ []; set = all_wild 4 })
    ∷ []
unfolding computing
lost_back = refl

-- with limit 1 the link's end is carved all the same, and no stop follows
lost_at_limit_1 : lost_trace (losing false) 1 (tp_dst 5) ≡ unit ∷ find (record { port = 2; path = []; set = tp_dst 5 }) ∷ unit ∷ []
unfolding computing
lost_at_limit_1 = refl

-- behind a tie, by one choice: entry 1 sends over the link, behind which no entry stands, and its equal 0 to edge port 2
abbrev losing_by_choice : Fabric
losing_by_choice = linked 3 4 (entry_of 10 1 2 (all_wild 4) (no_action 4) ∷ entry_of 10 1 3 (all_wild 4) (no_action 4) ∷ [])

lost_by_choice : list_trace losing_by_choice 2 0 (tp_dst 80)
    ≡ unit
    ∷ find (record { port = 2; path = []; set = tp_dst 80 })
    ∷ unit
    ∷ find (record { port = 1; path = 1 ∷ []; set = tp_dst 80 })
    ∷ []
unfolding computing
lost_by_choice = refl

-- V8: with another target the list is of what arrives there
arriving_by_choice : list_trace losing_by_choice 2 2 (tp_dst 80) ≡ unit ∷ find (record { port = 1; path = 0 ∷ []; set = tp_dst 80 })
    ∷ []
unfolding computing
arriving_by_choice = refl

-- T17: edge ports 1 and 5, and the link's end 4 between them
abbrev end_between : Fabric
end_between = record {
  words = 4;
  entries = 1;
  entry = λ e. entry_of 10 1 3 (tp_dst 22) (no_action 4);
  is_edge = λ x. eqb x 1 || eqb x 5;
  group = λ x. 7;
  admitted = λ x. all_wild 4;
  link_to = λ x. cond (eqb x 3) 4 0;
  link_from = λ x. cond (eqb x 4) 3 0;
  ports = 8;
  miss_drops = false;
}

ports_rise : lost_trace end_between 2 (tp_dst 22)
    ≡ unit
    ∷ unit
    ∷ find (record { port = 1; path = 0 ∷ []; set = tp_dst 22 })
    ∷ find (record { port = 5; path = []; set = tp_dst 22 })
    ∷ []
unfolding computing
ports_rise = refl

-- ---- orders

-- T5, T7: entry 2 is carved by its two beaters in file order, though entry 1 has the higher priority, and a part's whole descent comes
-- before its next sibling
abbrev two_beaters : Fabric
two_beaters = fabric
    (entry_of 20 1 0 (set (header 0 0 3 0) (header 0 0 1 0)) (no_action 4)
    ∷ entry_of 30 1 0 (set (header 0 0 6 0) (header 0 0 2 0)) (no_action 4)
    ∷ entry_of 10 1 2 (all_wild 4) (no_action 4)
    ∷ [])

beaters_in_file_order : trace two_beaters 1 2 (all_wild 4)
    ≡ unit
    ∷ unit
    ∷ unit
    ∷ find (record { port = 1; path = 2 ∷ []; set = set (header 0 0 6 0) (header 0 0 6 0) })
    ∷ unit
    ∷ find (record { port = 1; path = 2 ∷ []; set = set (header 0 0 3 0) (header 0 0 0 0) })
    ∷ []
unfolding computing
beaters_in_file_order = refl

-- T3: entries are taken up in file order, though entry 1 has the higher priority
abbrev two_at_stop : Fabric
two_at_stop = fabric (entry_of 10 1 2 (tp_dst 22) (no_action 4) ∷ entry_of 30 1 2 (tp_dst 80) (no_action 4) ∷ [])

entries_in_file_order : trace two_at_stop 1 2 (all_wild 4)
    ≡ unit
    ∷ unit
    ∷ find (record { port = 1; path = 0 ∷ []; set = tp_dst 22 })
    ∷ unit
    ∷ find (record { port = 1; path = 1 ∷ []; set = tp_dst 80 })
    ∷ []
unfolding computing
entries_in_file_order = refl

-- V3: the lowest header of the first part outside the admitted set; port 1 is in the target's group, and admits tp_dst that end in 01
abbrev own_group : Fabric
own_group = record {
  words = 4;
  entries = 1;
  entry = λ e. entry_of 10 1 2 (all_wild 4) (no_action 4);
  is_edge = λ x. eqb x 1 || eqb x 2;
  group = λ x. 7;
  admitted = λ x. set (header 0 0 3 0) (header 0 0 1 0);
  link_to = λ x. 0;
  link_from = λ x. 0;
  ports = 8;
  miss_drops = false;
}

first_part : verdict_on own_group 2 1 (all_wild 4) ≡ reached 1 1 (0 ∷ []) (header 0 0 2 0)
unfolding computing
first_part = refl

-- ---- the fates

-- a packet that leaves, one that entry 0 of F drops, one that no entry of F takes, one that travels on and one that is tied
abbrev packets : List Packet
packets =
    run F 1 1 (header 0 0x0a000002 2 0)
    ∷ run F 1 1 (header 0 0 1 0)
    ∷ run F 1 1 (header 0 0 2 0)
    ∷ run two_hops 1 1 (header 0 0 22 0)
    ∷ run tie_behind 2 1 (header 0 0 22 0)
    ∷ []

fates : map (fate_of F) packets ≡ 0 ∷ 1 ∷ 2 ∷ 3 ∷ 4 ∷ []
unfolding computing
fates = refl

ports : map port_of packets ≡ 2 ∷ 1 ∷ 1 ∷ 4 ∷ 4 ∷ []
unfolding computing
ports = refl

headers : map header_of packets
    ≡ header 0 0x0a000002 2 0 ∷ header 0 0 1 0 ∷ header 0 0 2 0 ∷ header 0 0 5 0 ∷ header 0 0 22 0 ∷ []
unfolding computing
headers = refl

hops : map hops_made packets ≡ 1 ∷ 1 ∷ 0 ∷ 1 ∷ 1 ∷ []
unfolding computing
hops = refl

-- ---- one entry traced back

-- "rewriting tp_dst to 5 with an all-wild match, exit tp_dst 5: all wild"
abbrev rewriting : Fabric
rewriting = fabric (entry_of 0 1 2 (all_wild 4) (set_tp_dst 5) ∷ [])

E8 : back_traced rewriting 0 (tp_dst 5) ≡ all_wild 4 ∷ []
unfolding computing
E8 = refl

-- "exit tp_dst 6: empty"
E9 : back_traced rewriting 0 (tp_dst 6) ≡ []
unfolding computing
E9 = refl

-- "match tp_dst 80, rewrite to 5, all-wild exit: tp_dst 80"
E10 : back_traced (fabric (entry_of 0 1 2 (tp_dst 80) (set_tp_dst 5) ∷ [])) 0 (all_wild 4) ≡ tp_dst 80 ∷ []
unfolding computing
E10 = refl

-- ---- where the published method misleads

-- "Forwarding a back-traced set need not give the whole exit set": with the all-wild exit set every header is traced back, and
-- by E9 none of them is forwarded to tp_dst 6
whole_exit_traced : back_traced rewriting 0 (all_wild 4) ≡ all_wild 4 ∷ []
unfolding computing
whole_exit_traced = refl

-- "A beater on nw_src 10.0.0.1 and tp_dst 80 leaves tp_dst 80 from other sources."
abbrev two_attributes : Fabric
two_attributes = fabric
    (entry_of 20 1 0 (set (header 0xffffffff 0 0xffff 0) (header 0x0a000001 0 80 0)) (no_action 4)
    ∷ entry_of 10 1 2 (all_wild 4) (no_action 4)
    ∷ [])

other_source_held : holders 4 (back_traced two_attributes 1 (all_wild 4)) (header 0x0a000002 0 80 0) ≡ 1
unfolding computing
other_source_held = refl

other_source_leaves : run two_attributes 1 1 (header 0x0a000002 0 80 0) ≡ left 2 (header 0x0a000002 0 80 0) (1 ∷ [])
unfolding computing
other_source_leaves = refl

-- "Looking for a beater at the exit, with the rewritten header.": entry 0 beats entry 1 and holds what entry 1 makes of tp_dst 22, but
-- not tp_dst 22, so entry 1 takes it
abbrev beater_at_exit : Fabric
beater_at_exit = fabric
    (entry_of 20 1 0 (tp_dst 80) (no_action 4)
    ∷ entry_of 10 1 2 (all_wild 4) (set_tp_dst 80)
    ∷ [])

rewritten_is_held : holds beater_at_exit 0 (applied beater_at_exit 1 (header 0 0 22 0)) ≡ true
unfolding computing
rewritten_is_held = refl

not_beaten : run beater_at_exit 1 1 (header 0 0 22 0) ≡ left 2 (header 0 0 80 0) (1 ∷ [])
unfolding computing
not_beaten = refl

not_beaten_held : holders 4 (back_traced beater_at_exit 1 (tp_dst 80)) (header 0 0 22 0) ≡ 1
unfolding computing
not_beaten_held = refl

-- and tp_dst 80 goes to entry 0, which drops it
is_beaten : run beater_at_exit 1 1 (header 0 0 80 0) ≡ dropped 1 (header 0 0 80 0) (0 ∷ [])
unfolding computing
is_beaten = refl
