-- What the examples compute with, and that what a call does hangs on the area's length alone once all else is computed. Assumes nothing.
use mathlib.Core.Bool.{Bool}
use mathlib.Core.List.{List, flat_map}
use mathlib.Core.Option.{bind, Option-elim}
use mathlib.Core.Path.{◌≡◌, ap}
use Prim.Native.Nat.{ℕ, ◌≤◌, ◌<◌}
use borrow.Author.Tests.{le-leb, lt-leb}
use lib.Dec.{leb}
use lib.ListN.{length}
use Rattle.headers.specs.Bits.{bit, bit_at, positions, those, set_bits, single}
use Rattle.headers.specs.Sets.{intersection, undone}
use Rattle.headers.specs.Actions.{unacted}
use Rattle.headers.specs.Carving.{parts_at, parts, carve}
use Rattle.answer.specs.Answer.{Outcome, bytes_of, answered, sixteen}
use Rattle.layout.specs.Words.{word_at, bytes_from}
use Rattle.layout.specs.Records.{width_in}
use Rattle.questions.specs.Questions.{pick, accepted, records, passed, asked, sized, started}
use Rattle.questions.specs.Questions.{in_order, ports_right, sets_tidy, link_free, within_limits}
use Rattle.forwarding.specs.Fabric.{holds, beats, applied, undoes}
use Rattle.forwarding.specs.Run.{unbeaten, takes, takers, hop, run, fate_of, port_of, header_of, taken_by}
use Rattle.forwarding.specs.BackTrace.{back, beaters}
use Rattle.forwarding.specs.Trace.{carved, at_in_port, taken_up, stop, lost_at, lost_trace, units, finds}
use Rattle.forwarding.specs.Verdict.{foreign_packet, verdict, units_in}
use Rattle.model.specs.Model.{shape_in, edge_at, link_beginning, link_ending, fabric_of, fabric_in}
use Rattle.events.specs.Play.{find_words, list_words, reached_words}
use Rattle.journey.specs.Journey.{packet_words}
use Rattle.calls.specs.Questions.{or_refused}
use Rattle.calls.specs.Verdict.{verdict_words, verdict_call}
use Rattle.calls.specs.List.{list_call}
use Rattle.calls.specs.Run.{run_call}

-- ---- to open a line is to open all that it names

unfoldable pub computing_file : Unit {0}
unfolding bytes_of accepted records passed asked in_order ports_right sets_tidy link_free within_limits sized started word_at width_in
computing_file = tt

unfoldable pub computing_fabric : Unit {0}
unfolding computing_file bytes_from shape_in edge_at link_beginning link_ending fabric_of fabric_in
computing_fabric = tt

unfoldable pub computing_back : Unit {0}
unfolding bit bit_at positions those set_bits single parts_at parts carve bind intersection undone unacted undoes back
computing_back = tt

unfoldable pub computing_trace : Unit {0}
unfolding computing_fabric computing_back Option-elim flat_map beats beaters carved at_in_port taken_up stop
computing_trace = tt

unfoldable pub computing_words : Unit {0}
unfolding find_words list_words sixteen reached_words verdict_words
computing_words = tt

unfoldable pub computing_hops : Unit {0}
unfolding computing_fabric positions those holds beats applied unbeaten takes takers hop run
computing_hops = tt

unfoldable pub computing_run : Unit {0}
unfolding computing_hops fate_of port_of header_of taken_by sixteen packet_words run_call
computing_run = tt

unfoldable pub computing : Unit {0}
unfolding computing_trace computing_words units finds foreign_packet verdict units_in verdict_call list_call
computing = tt

unfoldable pub computing_lost : Unit {0}
unfolding computing lost_at lost_trace
computing_lost = tt

-- ---- question 12

-- a call that is through but for question 12, which gets the answer b, and the number of the first no after it
unfoldable pub room_then : ℕ → List ℕ → List ℕ → Bool → Outcome
room_then later words area b = or_refused (pick b later 12) area (answered words area)

module _ (bytes later : ℕ) (words area : List ℕ) where
  pub enough : bytes ≤ length area → room_then later words area (leb bytes (length area)) ≡ or_refused later area
      (answered words area)
  unfolding room_then
  enough l = ap (room_then later words area) (le-leb bytes (length area) l)

  pub short : length area < bytes → room_then later words area (leb bytes (length area)) ≡ or_refused 12 area (answered words area)
  unfolding room_then
  short l = ap (room_then later words area) (lt-leb bytes (length area) l)
