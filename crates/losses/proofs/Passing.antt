-- One pass over the packets that are lost: what `lost_ports` needs, and that what it leaves is the pass.
use mathlib.Core.Bool.{false, true≢false}
use mathlib.Core.List.{List}
use mathlib.Core.Path.{◌≡◌, refl, sym, ap, ◌∙◌}
use Prim.Native.Nat.{ℕ, zero, suc, ◌-◌, ◌≤◌}
use native.Mathlib.Omega.{arith}
use borrow.Author.Tests.{lt-ltb}
use lib.Dec.{ltb}
use lib.ListN.{replicate}
use Rattle.std.specs.Prelude.{Result}
use Rattle.headers.specs.Sets.{Set}
use Rattle.layout.specs.Records.{width_in, edge_group, edge_bytes}
use Rattle.layout.specs.Shape.{Shape}
use Rattle.layout.specs.Versions.{header_words}
use Rattle.file.specs.Accepted.{Accepted}
use Rattle.forwarding.specs.Trace.{Event, lost_trace}
use Rattle.model.specs.Model.{shape_in, under, edge_at, fabric_of, fabric_in, wide_in, entries_at}
use Rattle.model.proofs.Soundness.{fabric_sound}
use Rattle.index.specs.Index.{Index}
use Rattle.events.specs.Play.{play, listed}
use Rattle.events.specs.Asked.{Asked, mode_number, by_mode, found_by}
use Rattle.events.specs.declared.Ask.{Ask}
use Rattle.events.specs.declared.Counters.{Counters}
use Rattle.events.specs.declared.Halt.{Halt}
use Rattle.backtrace.specs.Cycle.{Traced}
use Rattle.backtrace.proofs.Tracings.{InHand, begun}
use Rattle.events.specs.Pass.{begin, played_then}
use Rattle.losses.specs.Losses.{lost_events, lost_pass_of}

-- port 0 is no edge port, so it has no group
zero_group : (f : List ℕ) (s : Shape) → Accepted f s → 0 ≡ (fabric_in f).group 0
unfolding fabric_in fabric_of
zero_group f s ok = go (edge_at f (shape_in f) 0) (fabric_sound f s ok).zero_no_edge
  where
    go : (m : ℕ) → ltb 0 m ≡ false → 0 ≡ under 0 (λ i. edge_group (edge_bytes f i)) m
    go zero e = refl
    go (suc m) e = absurd (true≢false (sym (lt-ltb 0 (suc m) (omega arith)) ∙ e))

-- what is known of the file
pub asked : {f : List ℕ} {s : Shape} → Accepted f s → (ask : Ask) → ask.target ≡ 0 → ask.group ≡ 0
    → ask.base ≡ entries_at f → header_words ask.version ≡ width_in f → Asked f ask
asked {f} {s} ok ask t g b w = record {
  fabric = record { shape = s; is_accepted = ok };
  group_is = g ∙ zero_group f s ok ∙ ap (fabric_in f).group (sym t);
  base_is = b;
  width_is = w;
}

module _ (f : List ℕ) (ask : Ask) (limit : ℕ) (limit-low : 1 ≤ limit) (limit-high : limit ≤ 16) (floor : ask.floor ≡ 17 - limit)
    (lists : mode_number ask.mode ≡ 2) where
  -- with no unit made and no entry on the path
  pub lost_tracing : {s : Shape} (index area : List ℕ) → Accepted f s → Index f index → ask.target ≡ 0 → ask.group ≡ 0
      → ask.base ≡ entries_at f → header_words ask.version ≡ width_in f
      → InHand f ask index 16 (replicate 16 0) (record { made = 0; words = 0 }) area
  lost_tracing index area ok i t g b w = begun area (asked ok ask t g b w) i (omega arith) (λ m. absurd (omega (arith, m, lists)))

  -- "after zero or more hops and fewer than the limit"
  lost_events_lem : (t : Set) → lost_events f (16 - ask.floor) t ≡ lost_trace (wide_in f) limit t
  unfolding lost_events
  lost_events_lem t = ap (λ (n : ℕ). lost_trace (wide_in f) n t) (let e : suc (16 - ask.floor) ≡ limit = omega arith in e)

  pub lost_passed : (t : Set) (area : List ℕ) {r : Result (Unit {0}) Halt} {counters : Counters} {last : List ℕ}
      → Traced f ask (lost_events f (16 - ask.floor) t) (record { made = 0; words = 0 }) area r counters last
      → played_then (record { ended = r; counters = counters }) last ≡ lost_pass_of f limit ask.budget t area
  unfolding found_by
  lost_passed t area w =
      w.played
      ∙ ap (λ (mode : ℕ). play ask.budget (by_mode mode f ask.target) (lost_events f (16 - ask.floor) t) (begin area)) lists
      ∙ ap (λ (es : List Event). play ask.budget (listed (width_in f)) es (begin area)) (lost_events_lem t)
