-- Where a part at an in-port comes from: the index's number of the place stands for an edge, for a link, or for nothing.
-- Assumes nothing.
use mathlib.Core.Bool.{Bool, true, false, cond}
use mathlib.Core.List.{List, [], ◌∷◌}
use mathlib.Core.Path.{◌≡◌, refl, ap, ◌∙◌}
use Prim.Native.Nat.{ℕ, zero, suc, ◌+◌, ◌-◌, ◌<◌}
use native.Mathlib.Omega.{arith}
use borrow.Author.Tests.{ltb-true, le-leb, lt-leb}
use lib.Dec.{leb, ltb}
use Rattle.headers.specs.Sets.{Set}
use Rattle.layout.specs.Records.{port_of_edge, from_of_link}
use Rattle.questions.proofs.Lists.{number_has}
use Rattle.file.specs.Accepted.{HasEdge}
use Rattle.forwarding.specs.Trace.{Event, find, stop, from_port, at_in_port}
use Rattle.model.specs.Model.{AFabric, shape_in, under, edge_at, link_ending, fabric_of, fabric_in, wide_in}
use Rattle.index.specs.Index.{place_at}
use Rattle.index.specs.Places.{number_of_place, IsFormed}
use Rattle.index.specs.declared.Place.{Place}
use Rattle.index.specs.declared.Place.TheVariants.{Nowhere, Port, Edge}
use Rattle.entries.proofs.Entries.{shape_is}
use Rattle.backtrace.specs.Cycle.{IsPlace, events_at}

module _ {f : List ℕ} (a : AFabric f) (x : ℕ) where
  -- one more than the number of the edge at this in-port; 0 where there is none
  abbrev edge : ℕ
  edge = edge_at f (shape_in f) x

  edge_has : 0 < edge → (4095 + edge - 4096 < (shape_in f).edges) × (port_of_edge f (4095 + edge - 4096) ≡ x)
  unfolding edge_at
  edge_has l = number_has (port_of_edge f) (shape_in f).edges x (4095 + edge - 4096) (omega arith)

  link_low : (fabric_in f).link_from x < 4096
  unfolding fabric_in fabric_of
  link_low = go (link_ending f (shape_in f) x)
    where
      go : (n : ℕ) → under 0 (from_of_link f (shape_in f).edges) n < 4096
      go zero = omega arith
      go (suc i) = omega arith

  -- the place, by whether an edge is there
  abbrev place_if : Bool → ℕ
  place_if b = cond b (4095 + edge) ((fabric_in f).link_from x)

  place_has_edge : (k : ℕ) → 4096 + k ≡ place_at f x → HasEdge f k
  unfolding place_at fabric_in fabric_of
  place_has_edge k h = go (ltb 0 edge) refl h
    where
      go : (b : Bool) → ltb 0 edge ≡ b → 4096 + k ≡ place_if b → HasEdge f k
      go true e h =
          let is : 4095 + edge - 4096 ≡ k = omega arith in
          record {
            shape = a.shape;
            is_accepted = a.is_accepted;
            below = rw (← shape_is a) (rw is at (edge_has (ltb-true 0 edge e)).0);
          }
      go false e h = absurd (omega (arith, link_low))

  -- what the index has for the in-port is a place
  pub place_found : (place : Place) → IsFormed place → number_of_place place ≡ place_at f x → IsPlace f place
  place_found Nowhere l h = tt
  place_found (Port y) l h = l
  place_found (Edge k) l h = place_has_edge k h

  -- a part that came to stand there is a part at the in-port
  pub place_events : (hops : ℕ) (path : List ℕ) (t : Set)
      → events_at f (place_at f x) t hops path ≡ at_in_port (wide_in f) (stop (wide_in f) hops) x path t
  unfolding events_at place_at at_in_port fabric_in fabric_of
  place_events hops path t = go (ltb 0 edge) refl
    where
      found : ℕ → List Event
      found p = find (record { port = p; path = path; set = t }) ∷ []

      on : ℕ → List Event
      on y = from_port (wide_in f) (stop (wide_in f) hops) y path t

      go : (b : Bool) → ltb 0 edge ≡ b
          → cond (leb 4096 (place_if b)) (found (port_of_edge f (place_if b - 4096))) (on (place_if b)) ≡ cond b (found x)
          (on ((fabric_in f).link_from x))
      go true e =
          let l : 0 < edge = ltb-true 0 edge e in
          ap (λ (b : Bool). cond b (found (port_of_edge f (4095 + edge - 4096))) (on (4095 + edge)))
          (le-leb 4096 (4095 + edge) (omega arith))
          ∙ ap found (edge_has l).1
      go false e =
          ap
          (λ (b : Bool). cond b (found (port_of_edge f ((fabric_in f).link_from x - 4096))) (on ((fabric_in f).link_from x)))
          (lt-leb 4096 ((fabric_in f).link_from x) link_low)

-- at a port that is no edge's place a stop follows
pub port_events : (f : List ℕ) (y hops : ℕ) (path : List ℕ) (t : Set) → y < 4096 → (y ≡ 0 → ⊥)
    → events_at f y t hops path ≡ stop (wide_in f) hops y t path
unfolding events_at
port_events f y hops path t l nz = rw (lt-leb 4096 y l) (go y nz)
  where
    go : (y : ℕ) → (y ≡ 0 → ⊥) → from_port (wide_in f) (stop (wide_in f) hops) y path t ≡ stop (wide_in f) hops y t path
    go zero z = absurd (z refl)
    go (suc y) z = refl
