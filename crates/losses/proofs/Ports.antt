-- The walk over the ports at which a packet can be lost.
use mathlib.Core.Bool.{Bool, true, false, ◌||◌, cond}
use mathlib.Core.List.{List, [], ◌++◌, flat_map}
use mathlib.Core.Path.{◌≡◌, refl, sym, ap, ap₂, ◌∙◌}
use Prim.Native.Nat.{ℕ, suc, ◌+◌, ◌-◌, ◌≤◌, ◌<◌}
use native.Mathlib.Numerals.{add-one}
use native.Mathlib.Omega.{arith}
use borrow.Author.Tests.{lt-ltb}
use lib.Dec.{ltb}
use Rattle.std.specs.Prelude.{Result, Ok, Err}
use lib.ListN.{length, get_or, drop, drop_of_length-le}
use Rattle.headers.specs.Bits.{positions, those}
use Rattle.headers.specs.Sets.{Set}
use Rattle.forwarding.specs.Fabric.{in_port_of}
use Rattle.forwarding.specs.Trace.{Event, stop, carved, at_in_port, is_in_port, lost_at, lost_trace}
use Rattle.model.specs.Model.{shape_in, edge_at, fabric_of, fabric_in, wide_in}
use Rattle.model.proofs.Shapes.{ports_are}
use Rattle.index.specs.Index.{place_at, first_in}
use Rattle.index.proofs.Chained.{Next}
use Rattle.entries.proofs.Those.{from, from_here, from_end, from_skip}
use Rattle.entries.proofs.Entries.{entries_few}
use Rattle.entries.proofs.InChains.{chain_head}
use Rattle.entries.proofs.Ranked.{all_ranked}
use Rattle.events.specs.Play.{play}
use Rattle.events.specs.Asked.{budget_of, floor_of, world_of, played_of, found_by}
use Rattle.events.specs.declared.Ask.{Ask}
use Rattle.events.specs.declared.Counters.{Counters}
use Rattle.events.specs.declared.Halt.{Halt}
use Rattle.backtrace.specs.Cycle.{Traced, Kept, events_from}
use Rattle.backtrace.proofs.Steps.{run, play_on, play_ended}
use Rattle.backtrace.proofs.Tracings.{InHand, after_call}
use Rattle.losses.specs.Losses.{lost_events}

-- the index has a place for just the ports where a packet can stand
place_there : (f : List ℕ) (x : ℕ) → is_in_port (wide_in f) x ≡ ltb 0 (place_at f x)
unfolding place_at fabric_in fabric_of
place_there f x = go (ltb 0 (edge_at f (shape_in f) x))
  where
    go : (b : Bool) → (b || ltb 0 ((fabric_in f).link_from x)) ≡ ltb 0
        (cond b (4095 + edge_at f (shape_in f) x) ((fabric_in f).link_from x))
    go true = sym (lt-ltb 0 (4095 + edge_at f (shape_in f) x) (omega arith))
    go false = refl

-- the in-ports from a port on
abbrev in_ports_lem : List ℕ → ℕ → List ℕ
in_ports_lem f port = from (is_in_port (wide_in f)) 4096 port

-- what is lost at a port is the asked set, tried against all its entries
lost_here : (f : List ℕ) (x hops : ℕ) (path : List ℕ) (t : Set) → path ≡ []
    → events_from f x 0 0 hops path t ≡ lost_at (wide_in f) (stop (wide_in f) hops) t x
unfolding events_from lost_at
lost_here f x hops path t none =
    ap₂ (λ (p bs : List ℕ). carved (wide_in f) (at_in_port (wide_in f) (stop (wide_in f) hops) x p) bs t) none
    (all_ranked (wide_in f) x)

-- come to a port: what is left to be played is what was to be played at first
pub record AtPort (f : List ℕ) (ask : Ask) (index : List ℕ) (t : Set) (counters₀ : Counters) (area₀ : List ℕ) (port : ℕ)
    (path : List ℕ) (counters : Counters) (area : List ℕ) : Type 0 where
  pub in_hand : InHand f ask index 16 path counters area
  pub area_long : length area ≡ length area₀
  pub left : run f ask (flat_map (lost_at (wide_in f) (stop (wide_in f) (16 - floor_of ask)) t) (in_ports_lem f port)) counters area
      ≡ run f ask (lost_events f (16 - floor_of ask) t) counters₀ area₀

pub ports_begin : {f : List ℕ} {ask : Ask} {index path : List ℕ} {counters : Counters} {area : List ℕ} {t : Set}
    → InHand f ask index 16 path counters area → AtPort f ask index t counters area 0 path counters area
unfolding lost_events lost_trace
ports_begin {f} {ask} {index} {path} {counters} {area} {t} x = record {
  in_hand = x;
  area_long = refl;
  left = ap (λ (n : ℕ). run f ask
      (flat_map (lost_at (wide_in f) (stop (wide_in f) (16 - floor_of ask)) t)
      (those (is_in_port (wide_in f)) (positions n 0))) counters area)
      (sym (ports_are f));
}

module _ {f : List ℕ} {ask : Ask} {index : List ℕ} {t : Set} {counters₀ : Counters} {area₀ : List ℕ} {port : ℕ}
    {path : List ℕ} {counters : Counters} {area : List ℕ} (x : AtPort f ask index t counters₀ area₀ port path counters area) where
  abbrev hops : ℕ
  hops = 16 - floor_of ask

  abbrev of_port : ℕ → List Event
  of_port y = lost_at (wide_in f) (stop (wide_in f) hops) t y

  -- no port is left
  pub ports_end : 4096 ≤ port → (v : Unit {0}) → Traced f ask (lost_events f hops t) counters₀ area₀ (Ok v) counters area
  unfolding play flat_map
  ports_end l v = record {
    played = ap (λ (ps : List ℕ). run f ask (flat_map of_port ps) counters area)
        (sym (from_end (is_in_port (wide_in f)) 4096 port l)) ∙ x.left;
  }

  -- the first of a port's entries
  pub first_there : port < 4096 → {first : ℕ} → first ≡ get_or index (first_in + port) 0
      → Next (in_port_of (wide_in f)) (wide_in f).entries port 0 first
  first_there l {first} g = chain_head (entries_few x.in_hand.asked.fabric) x.in_hand.indexed.by_in_port port first l g

  module _ (l : port < 4096) {place : ℕ} (read : place ≡ get_or index port 0) where
    place_is : place_at f port ≡ place
    place_is = sym (read ∙ x.in_hand.indexed.places port l)

    -- no packet can stand there
    pub port_skipped : place ≡ 0 → AtPort f ask index t counters₀ area₀ (port + 1) path counters area
    port_skipped z = record {
      in_hand = x.in_hand;
      area_long = x.area_long;
      left =
          ap (λ (ps : List ℕ). run f ask (flat_map of_port ps) counters area)
          (sym (from_skip (is_in_port (wide_in f)) 4096 port (port + 1) (omega arith)
          (λ c a b m. let here : c ≡ port = omega arith in rw here (place_there f port ∙ ap (ltb 0) (place_is ∙ z)))))
          ∙ x.left;
    }

    module _ (there : 0 < place) {r : Result (Unit {0}) Halt} {counters' : Counters} {area' : List ℕ}
        (w : Traced f ask (events_from f port 0 0 hops (drop 16 path) t) counters area r counters' area') where
      no_path : drop 16 path ≡ []
      no_path =
          let short : length path ≤ 16 = omega (arith, x.in_hand.tracing.on_path.long) in
          drop_of_length-le path short

      played : played_of r counters' area' ≡ run f ask (of_port port) counters area
      played = w.played ∙ ap (λ (es : List Event). run f ask es counters area) (lost_here f port hops (drop 16 path) t no_path)

      with_later : run f ask (of_port port ++ flat_map of_port (in_ports_lem f (suc port))) counters area
          ≡ run f ask (lost_events f hops t) counters₀ area₀
      unfolding flat_map
      with_later =
          ap (λ (ps : List ℕ). run f ask (flat_map of_port ps) counters area)
          (sym (from_here (is_in_port (wide_in f)) 4096 port l
          (place_there f port ∙ lt-ltb 0 (place_at f port) (rw place_is there))))
          ∙ x.left

      pub port_ended : {h : Halt} → r ≡ Err h → Traced f ask (lost_events f hops t) counters₀ area₀ r counters' area'
      port_ended {h} z = rw z (record {
        played =
            play_ended (budget_of ask) (found_by f ask) (of_port port) (flat_map of_port (in_ports_lem f (suc port)))
            (world_of counters area) h
            (ap (λ (r : Result (Unit {0}) Halt). played_of r counters' area') (sym z) ∙ played)
            ∙ with_later;
      })

      pub port_through : {v : Unit {0}} → r ≡ Ok v → {path' : List ℕ} → Kept 16 path path' → length area' ≡ length area
          → AtPort f ask index t counters₀ area₀ (port + 1) path' counters' area'
      port_through {v} z k a = record {
        in_hand = after_call x.in_hand w k a;
        area_long = a ∙ x.area_long;
        left =
            ap (λ (j : ℕ). run f ask (flat_map of_port (in_ports_lem f j)) counters' area') (add-one port)
            ∙ play_on (budget_of ask) (found_by f ask) (of_port port) (flat_map of_port (in_ports_lem f (suc port)))
            (world_of counters area) v
            (ap (λ (r : Result (Unit {0}) Halt). played_of r counters' area') (sym z) ∙ played)
            ∙ with_later;
      }
