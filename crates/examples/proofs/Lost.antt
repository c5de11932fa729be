-- The fifth table of examples, by computing: only how long the area is is argued. A list of the lost looks at every port; which of them are
-- in-ports is computed once.
use mathlib.Core.List.{List, [], ◌∷◌, ◌++◌, flat_map}
use mathlib.Core.Path.{◌≡◌, refl, ap, ◌∙◌}
use Prim.Native.Nat.{ℕ, suc, ◌*◌}
use lib.Dec.{leb}
use lib.ListN.{length}
use Rattle.answer.specs.Answer.{Outcome, refused, answered}
use Rattle.questions.specs.Questions.{accepted, shape, first_no, ◌asks◌}
use Rattle.questions.specs.Read.{Read}
use Rattle.questions.specs.Read as Reads
use Rattle.forwarding.specs.Fabric.{Fabric}
use Rattle.forwarding.specs.Examples.{tp_dst}
use Rattle.forwarding.specs.Trace.{Event, in_ports, lost_at, lost_trace, stop, units, finds}
use Rattle.model.specs.Model.{fabric_in}
use Rattle.events.specs.Play.{list_words}
use Rattle.queries.specs.Queries.{list_target, trace_questions}
use Rattle.calls.specs.Questions.{Query, or_refused}
use Rattle.calls.specs.List.{list_answer, list_call}
use Rattle.examples.specs.Examples.{Always}
use Rattle.examples.specs.Lost.{K, lost, at_once, after_two_hops, at_the_other, LostTable}
use Rattle.examples.proofs.Computing.{computing, computing_file, computing_lost, computing_run, room_then, enough}

abbrev F : Fabric
F = fabric_in K

K-read : accepted 4 K ≡ Reads.Fabric (shape 4 2 2 4)
unfolding computing_file
K-read = refl

in_ports_lem : in_ports F ≡ 1 ∷ 4 ∷ 6 ∷ 8 ∷ []
unfolding computing_lost
in_ports_lem = refl

-- what a list of some events answers
answer_of : List Event → Query → List ℕ → Outcome
answer_of es q area =
    or_refused
    (first_no
    (trace_questions F.words (list_target F q.port) q.limit q.asked
    ++ (13 asks leb (units es) q.budget ∷ 12 asks leb (4 * length (list_words (finds es))) (length area) ∷ [])))
    area (answered (list_words (finds es)) area)

-- the events at some in-ports
lost_there : ℕ → List ℕ → List Event
lost_there hops ports = flat_map (lost_at F (stop F hops) (tp_dst 5)) ports

by_ports : (hops budget : ℕ) (area : List ℕ)
    → list_call 4 K (lost (suc hops) budget) area ≡ answer_of (lost_there hops (1 ∷ 4 ∷ 6 ∷ 8 ∷ []))
    (lost (suc hops) budget) area
unfolding list_call answer_of lost_there lost_trace
by_ports hops budget area =
    ap (λ (r : Read). list_answer K (lost (suc hops) budget) r area) K-read
    ∙ ap (λ (ports : List ℕ). answer_of (lost_there hops ports) (lost (suc hops) budget) area) in_ports_lem

all_lost : Always 116 (list_call 4 K (lost 3 5)) (answered (at_once ++ after_two_hops ++ at_the_other))
unfolding computing_lost room_then answer_of lost_there
all_lost = λ area l. by_ports 2 5 area ∙ enough 116 0 _ area l

budget_4 : Always 0 (list_call 4 K (lost 3 4)) (refused 13 0)
unfolding computing_lost answer_of lost_there
budget_4 = λ area l. by_ports 2 4 area ∙ refl

limit_2 : Always 72 (list_call 4 K (lost 2 4)) (answered (at_once ++ at_the_other))
unfolding computing_lost room_then answer_of lost_there
limit_2 = λ area l. by_ports 1 4 area ∙ enough 72 0 _ area l

limit_1 : Always 72 (list_call 4 K (lost 1 3)) (answered (at_once ++ at_the_other))
unfolding computing_lost room_then answer_of lost_there
limit_1 = λ area l. by_ports 0 3 area ∙ enough 72 0 _ area l

limit_1_budget_2 : Always 0 (list_call 4 K (lost 1 2)) (refused 13 0)
unfolding computing_lost answer_of lost_there
limit_1_budget_2 = λ area l. by_ports 0 2 area ∙ refl

pub lost_table : LostTable
unfolding computing computing_run room_then
lost_table = record {
  K-words = refl;
  K-accepted = refl;
  new_k_accepted = refl;
  all_lost = all_lost;
  budget_4 = budget_4;
  limit_2 = limit_2;
  limit_1 = limit_1;
  limit_1_budget_2 = limit_1_budget_2;
  verdict_refused = λ area l. refl;
  list_refused = λ area l. refl;
  lost_at_once = enough 96 0 _;
  lost_at_6 = enough 96 0 _;
  tied_at_4 = enough 96 0 _;
  dropped_at_once = enough 96 0 _;
  dropped_at_6 = enough 96 0 _;
  travelling_to_6 = enough 96 0 _;
  reached_the_same = enough 96 0 _;
}
