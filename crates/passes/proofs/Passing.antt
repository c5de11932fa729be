-- One pass of the back-trace: what its trace knows of the file, and that what `stop` leaves at the target with the limit is the pass.
use mathlib.Core.List.{List, []}
use mathlib.Core.Path.{◌≡◌, ap, ◌∙◌}
use Prim.Native.Nat.{ℕ, ◌-◌, ◌*◌, ◌≤◌, ◌<◌}
use native.Mathlib.Omega.{arith}
use lib.ListN.{length, replicate}
use Rattle.std.specs.Prelude.{Result}
use Rattle.headers.specs.Sets.{Set}
use Rattle.answer.specs.Answer.{answer_words}
use Rattle.layout.specs.Records.{width_in}
use Rattle.layout.specs.Shape.{Shape}
use Rattle.layout.specs.Versions.{header_words}
use Rattle.file.specs.Accepted.{Accepted}
use Rattle.forwarding.specs.Trace.{Event, stop, trace}
use Rattle.model.specs.Model.{fabric_in, wide_in, entries_at}
use Rattle.index.specs.Index.{Index}
use Rattle.events.specs.Play.{play}
use Rattle.events.specs.Asked.{Asked, mode_number, by_mode, found_by}
use Rattle.events.specs.Pass.{begin, played_then, pass_of}
use Rattle.events.specs.declared.Ask.{Ask}
use Rattle.events.specs.declared.Counters.{Counters}
use Rattle.events.specs.declared.Halt.{Halt}
use Rattle.backtrace.specs.Cycle.{Traced, events_at}
use Rattle.backtrace.proofs.Places.{port_events}
use Rattle.backtrace.proofs.Tracings.{InHand, begun}

-- what is known of the file
pub asked : {f : List ℕ} {s : Shape} → Accepted f s → (ask : Ask) → ask.group ≡ (fabric_in f).group ask.target
    → ask.base ≡ entries_at f → header_words ask.version ≡ width_in f → Asked f ask
asked {s = s} ok ask g b w = record {
  fabric = record { shape = s; is_accepted = ok };
  group_is = g;
  base_is = b;
  width_is = w;
}

module _ (f : List ℕ) (ask : Ask)
    (limit : ℕ) (limit-low : 1 ≤ limit) (limit-high : limit ≤ 16) (floor : ask.floor ≡ 16 - limit) where
  -- with no unit made and no entry on the path
  pub tracing : {s : Shape} (index area : List ℕ) → Accepted f s → Index f index → ask.group ≡ (fabric_in f).group ask.target
      → ask.base ≡ entries_at f → header_words ask.version ≡ width_in f
      → (mode_number ask.mode ≡ 3 → 4 * answer_words (width_in f) ≤ length area)
      → InHand f ask index 16 (replicate 16 0) (record { made = 0; words = 0 }) area
  tracing index area ok i g b w room = begun area (asked ok ask g b w) i (omega arith) (λ m. rw w (room m))

  -- "The first stop is the target with the limit."
  first_stop : 1 ≤ ask.target → ask.target < 4096 → (t : Set)
      → events_at f ask.target t (16 - ask.floor) [] ≡ trace (wide_in f) limit ask.target t
  first_stop low high t =
      port_events f ask.target (16 - ask.floor) [] t high (λ z. omega arith)
      ∙ ap (λ (hops : ℕ). stop (wide_in f) hops ask.target t []) (let e : 16 - ask.floor ≡ limit = omega arith in e)

  pub passed : 1 ≤ ask.target → ask.target < 4096 → (t : Set) (area : List ℕ)
      {r : Result (Unit {0}) Halt} {counters : Counters} {last : List ℕ}
      → Traced f ask (events_at f ask.target t (16 - ask.floor) []) (record { made = 0; words = 0 }) area r counters last
      → played_then (record { ended = r; counters = counters }) last
      ≡ pass_of f (mode_number ask.mode) ask.target limit ask.budget t area
  unfolding found_by
  passed low high t area w =
      w.played
      ∙ ap (λ (es : List Event). play ask.budget (by_mode (mode_number ask.mode) f ask.target) es (begin area)) (first_stop low high t)
