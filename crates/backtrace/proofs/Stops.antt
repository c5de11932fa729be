-- The ways through `stop`: a part that is a find or ends where it stands, and the loop over the entries with its out-port, which are taken
-- up in file order. Assumes nothing.
use mathlib.Core.Bool.{Bool, cond}
use mathlib.Core.List.{List, [], ◌∷◌, ◌++◌, flat_map}
use mathlib.Core.Option.{Option, some, none, Option-elim}
use mathlib.Core.Path.{◌≡◌, refl, sym, ap, ◌∙◌}
use Prim.Native.Nat.{ℕ, suc, ◌+◌, ◌-◌, ◌≤◌, ◌<◌}
use native.Mathlib.Omega.{arith}
use Rattle.std.specs.Prelude.{Result, Ok, Err, Some}
use Rattle.std.specs.Prelude as std
use borrow.Author.Tests.{le-leb, eq-eqb, ne_eqb}
use lib.Dec.{eqb}
use lib.ListN.{length, get_or, drop}
use Rattle.headers.specs.Bits.{positions, those}
use Rattle.headers.specs.Sets.{Set}
use Rattle.layout.specs.Versions.{header_words}
use Rattle.layout.specs.declared.Version.{Version}
use Rattle.forwarding.specs.Fabric.{out_port_of}
use Rattle.forwarding.specs.BackTrace as BackTrace
use Rattle.forwarding.specs.Trace.{Event, unit, find, stop, from_port, taken_up}
use Rattle.model.specs.Model.{wide_in}
use Rattle.index.specs.Chains.{no_entry}
use Rattle.index.specs.Index.{next_out}
use Rattle.index.specs.Places.{chain_number, IsEntry}
use Rattle.index.proofs.Chained.{Next}
use Rattle.entries.specs.Entries as entries
use Rattle.entries.specs.Entries.{InChain, back_from}
use Rattle.entries.proofs.Those.{from, from_here, from_end, from_skip}
use Rattle.entries.proofs.Entries.{entries_few, back_is}
use Rattle.entries.proofs.InChains.{chain_head, chain_next, next_in_chain}
use Rattle.events.specs.Play.{play}
use Rattle.events.specs.Asked.{budget_of, floor_of, world_of, played_of, found_by, find_at, UnitMade}
use Rattle.events.specs.declared.Ask.{Ask}
use Rattle.events.specs.declared.Counters.{Counters}
use Rattle.events.specs.declared.Halt.{Halt}
use Rattle.backtrace.specs.Cycle.{Traced, Kept, events_at, taken_back}
use Rattle.backtrace.proofs.Places.{port_events}
use Rattle.backtrace.proofs.Steps.{run, play_find, play_on, play_ended, unit_goes_on, unit_ends}
use Rattle.backtrace.proofs.Paths.{kept_same, kept_on}
use Rattle.backtrace.proofs.Tracings.{InHand, after_unit, on_kept, after_call}

-- ---- where no entry is taken up

-- the part is a find
pub at_edge : {f : List ℕ} {ask : Ask} {counters : Counters} (k : ℕ) (way : List ℕ) (t : Set) {r : Result (Unit {0}) Halt}
    (counters₀ : Counters) (area₀ : List ℕ) {area : List ℕ} → {way' : List ℕ} → way' ≡ way
    → played_of r counters area ≡ found_by f ask (find_at f k way' t) (world_of counters₀ area₀)
    → (hops : ℕ) → Traced f ask (events_at f (4096 + k) t hops way) counters₀ area₀ r counters area
unfolding events_at
at_edge {f} {ask} k way t counters₀ area₀ same e hops = record {
  played =
      e
      ∙ ap (λ (way : List ℕ). found_by f ask (find_at f k way t) (world_of counters₀ area₀)) same
      ∙ play_find (budget_of ask) (found_by f ask) (find_at f k way t) (world_of counters₀ area₀)
      ∙ ap (λ (es : List Event). run f ask es counters₀ area₀) (sym there);
}
  where
    there : events_at f (4096 + k) t hops way ≡ find (find_at f k way t) ∷ []
    there =
        ap
        (λ (b : Bool). cond b (find (find_at f (4096 + k - 4096) way t) ∷ [])
        (from_port (wide_in f) (stop (wide_in f) hops) (4096 + k) way t))
        (le-leb 4096 (4096 + k) (omega arith))
        ∙ ap (λ (j : ℕ). find (find_at f j way t) ∷ []) (let is : 4096 + k - 4096 ≡ k = omega arith in is)

module _ (f : List ℕ) (ask : Ask) (counters : Counters) (area : List ℕ) (v : Unit {0}) where
  nothing_played : (es : List Event) → es ≡ [] → Traced f ask es counters area (Ok v) counters area
  unfolding play
  nothing_played es e = record { played = ap (λ (es : List Event). run f ask es counters area) (sym e) }

  -- no link ends there
  pub no_link : (t : Set) (hops : ℕ) (way : List ℕ) → Traced f ask (events_at f 0 t hops way) counters area (Ok v) counters area
  unfolding events_at
  no_link t hops way = nothing_played _ refl

  -- no hop is left
  pub no_hop : (d y : ℕ) → d ≤ floor_of ask → 0 < y → y < 4096 → (t : Set) (way : List ℕ)
      → Traced f ask (events_at f y t (d - floor_of ask) way) counters area (Ok v) counters area
  unfolding stop
  no_hop d y l low high t way =
      let none_left : d - floor_of ask ≡ 0 = omega arith in
      nothing_played _ (rw none_left (port_events f y 0 way t high (λ z. omega arith)))

-- ---- the loop

-- the events that are left where entry e comes next, with so many hops left at its in-port
unfoldable pub events_left : List ℕ → ℕ → ℕ → List ℕ → Set → ℕ → List Event
events_left f place hops path t e =
    flat_map (taken_up (wide_in f) (stop (wide_in f) hops) t path)
    (from (λ c. eqb (out_port_of (wide_in f) c) place) (wide_in f).entries e)

-- entry e comes next: what is left to be played now is what was to be played at first
pub record AtEntry (f : List ℕ) (ask : Ask) (index : List ℕ) (place : ℕ) (t : Set) (d : ℕ) (path₀ : List ℕ)
    (counters₀ : Counters) (area₀ : List ℕ) (e : ℕ) (path : List ℕ) (counters : Counters) (area : List ℕ) : Type 0 where
  pub in_hand : InHand f ask index d path counters area
  pub hop_left : floor_of ask < d
  pub in_chain : InChain (out_port_of (wide_in f)) (wide_in f).entries place e
  pub area_long : length area ≡ length area₀
  pub kept : Kept d path₀ path
  pub left :
      run f ask (events_left f place (d - 1 - floor_of ask) (drop d path₀) t e) counters area
      ≡ run f ask (events_at f place t (d - floor_of ask) (drop d path₀)) counters₀ area₀

-- the next entry, or none, as the index says
pub record AtNext (f : List ℕ) (ask : Ask) (index : List ℕ) (place : ℕ) (t : Set) (d : ℕ) (path₀ : List ℕ)
    (counters₀ : Counters) (area₀ : List ℕ) (next : std.Option ℕ) (path : List ℕ) (counters : Counters) (area : List ℕ)
    : Type 0 where
  pub at : AtEntry f ask index place t d path₀ counters₀ area₀ (chain_number next) path counters area
  pub formed : IsEntry next

-- where the chain goes on, none between has the out-port
left_skips : (f : List ℕ) (place hops : ℕ) (path : List ℕ) (t : Set) (j r : ℕ) → Next (out_port_of (wide_in f))
    (wide_in f).entries place j r
    → events_left f place hops path t j ≡ events_left f place hops path t r
unfolding events_left
left_skips f place hops path t j r n =
    ap (flat_map (taken_up (wide_in f) (stop (wide_in f) hops) t path))
    (from_skip (λ c. eqb (out_port_of (wide_in f) c) place) (wide_in f).entries j r n.low (λ c l m k. ne_eqb _ _ (n.skipped c l m k)))

-- at first all entries are left
left_at_first : (f : List ℕ) (place hops : ℕ) (path : List ℕ) (t : Set) → stop (wide_in f) (suc hops) place t path
    ≡ events_left f place hops path t 0
unfolding events_left stop
left_at_first f place hops path t =
    ap
    (λ (k : ℕ). flat_map (taken_up (wide_in f) (stop (wide_in f) hops) t path)
    (those (λ e. eqb (out_port_of (wide_in f) e) place) (positions k 0)))
    (let whole : (wide_in f).entries ≡ (wide_in f).entries - 0 = omega arith in whole)

-- the loop begins with the first entry of the chain
pub first_entry : {f : List ℕ} {ask : Ask} {index : List ℕ} {d : ℕ} {path : List ℕ} {counters : Counters} {area : List ℕ}
    → InHand f ask index d path counters area → (place : ℕ) (t : Set) (next : std.Option ℕ)
    → 0 < place → place < 4096 → floor_of ask < d → chain_number next ≡ get_or index (4096 + place) 0 → IsEntry next
    → AtNext f ask index place t d path counters area next path counters area
first_entry {f} {ask} {index} {d} {path} {counters} {area} x place t next low l m g formed = record {
  at = record {
    in_hand = x;
    hop_left = m;
    in_chain = next_in_chain (entries_few x.asked.fabric) n;
    area_long = refl;
    kept = kept_same path x.tracing.on_path.long;
    left =
        ap (λ (es : List Event). run f ask es counters area)
        (sym (ap (λ (k : ℕ). events_at f place t k (drop d path))
        (let one_more : d - floor_of ask ≡ suc hops = omega arith in one_more)
        ∙ port_events f place (suc hops) (drop d path) t l (λ z. omega arith)
        ∙ left_at_first f place hops (drop d path) t
        ∙ left_skips f place hops (drop d path) t 0 (chain_number next) n));
  };
  formed = formed;
}
  where
    hops : ℕ
    hops = d - 1 - floor_of ask

    n : Next (out_port_of (wide_in f)) (wide_in f).entries place 0 (chain_number next)
    n = chain_head (entries_few x.asked.fabric) x.indexed.by_out_port place (chain_number next) l g

-- come to an entry
module _ {f : List ℕ} {ask : Ask} {index : List ℕ} {place : ℕ} {t : Set} {d : ℕ} {path₀ : List ℕ} {counters₀ : Counters}
    {area₀ : List ℕ} {next : std.Option ℕ} {path : List ℕ} {counters : Counters} {area : List ℕ}
    (x : AtNext f ask index place t d path₀ counters₀ area₀ next path counters area) {e : ℕ} (is : next ≡ Some e) where
  pub come_to : AtEntry f ask index place t d path₀ counters₀ area₀ e path counters area
  come_to = rw is at x.at

  pub below_none : e < no_entry
  below_none =
      let formed : e ≡ no_entry → ⊥ = rw is at x.formed in
      omega (arith, formed, come_to.in_chain.of_chain.within)

-- the chain ends
pub at_end : {f : List ℕ} {ask : Ask} {index : List ℕ} {place : ℕ} {t : Set} {d : ℕ} {path₀ : List ℕ} {counters₀ : Counters}
    {area₀ : List ℕ} {next : std.Option ℕ} {path : List ℕ} {counters : Counters} {area : List ℕ}
    → AtNext f ask index place t d path₀ counters₀ area₀ next path counters area → next ≡ std.None
    → AtEntry f ask index place t d path₀ counters₀ area₀ no_entry path counters area
at_end x is = rw is at x.at

module _ {f : List ℕ} {ask : Ask} {index : List ℕ} {place : ℕ} {t : Set} {d : ℕ} {path₀ : List ℕ} {counters₀ : Counters}
    {area₀ : List ℕ} {e : ℕ} {path : List ℕ} {counters : Counters} {area : List ℕ}
    (x : AtEntry f ask index place t d path₀ counters₀ area₀ e path counters area) where
  abbrev all_events : List Event
  all_events = events_at f place t (d - floor_of ask) (drop d path₀)

  -- the hops left at an entry's in-port, and the events that are left from an entry on
  abbrev hops : ℕ
  hops = d - 1 - floor_of ask

  abbrev left_from : ℕ → List Event
  left_from j = events_left f place hops (drop d path₀) t j

  few : (wide_in f).entries ≤ no_entry
  few = entries_few x.in_hand.asked.fabric

  -- the chain ends
  pub entries_end : no_entry ≤ e → (v : Unit {0}) → Traced f ask all_events counters₀ area₀ (Ok v) counters area
  unfolding events_left play flat_map
  entries_end l v = record {
    played =
        ap (λ (es : List ℕ). run f ask (flat_map (taken_up (wide_in f) (stop (wide_in f) hops) t (drop d path₀)) es) counters area)
        (sym (from_end (λ c. eqb (out_port_of (wide_in f) c) place) (wide_in f).entries e (let z = few in omega arith)))
        ∙ x.left;
  }

  -- the events of entry e after its unit, by what it takes back
  abbrev taken : Option Set → List Event
  taken o = Option-elim o [] (taken_back f e hops (drop d path₀))

  module _ (l : e < no_entry) where
    next_entry : {n : ℕ} → n ≡ get_or index (next_out + e) 0 → Next (out_port_of (wide_in f)) (wide_in f).entries place (suc e) n
    next_entry {n} g = rw (x.in_chain.has_port l) at
        (chain_next few x.in_hand.indexed.by_out_port e n (x.in_chain.of_chain.is_entry l) g)

    pub later_entry : {n : ℕ} → n ≡ get_or index (next_out + e) 0 → e < n
    later_entry g = (next_entry g).low

    left_is : left_from e ≡ unit ∷ (taken (BackTrace.back (wide_in f) e t) ++ left_from (suc e))
    unfolding events_left flat_map taken_up taken_back
    left_is =
        ap (flat_map (taken_up (wide_in f) (stop (wide_in f) hops) t (drop d path₀)))
        (from_here (λ c. eqb (out_port_of (wide_in f) c) place) (wide_in f).entries e (x.in_chain.of_chain.is_entry l)
        (eq-eqb _ _ (x.in_chain.has_port l)))

    -- the budget is used
    pub entry_refused : {h : Halt} {counters₁ : Counters} → UnitMade {T = Unit {0}} ask counters (Err h) counters₁
        → Traced f ask all_events counters₀ area₀ (Err h) counters₁ area
    entry_refused u = record {
      played = unit_ends (found_by f ask) u area _ ∙ ap (λ (es : List Event). run f ask es counters area) (sym left_is) ∙ x.left;
    }

    module _ {v : Unit {0}} {counters₁ : Counters} (u : UnitMade ask counters (Ok v) counters₁) {y : List ℕ}
        (i : entries.IsEntry f e y) {version : Version} (own : version ≡ ask.version) {o : Option Set}
        (back : o ≡ back_from (header_words version) y t) where
      -- after its unit
      after_its_unit : run f ask (taken o ++ left_from (suc e)) counters₁ area ≡ run f ask all_events counters₀ area₀
      after_its_unit =
          unit_goes_on (found_by f ask) u area _
          ∙ ap (λ (o : Option Set). run f ask (unit ∷ (taken o ++ left_from (suc e))) counters area)
          (back
          ∙ ap (λ (w : ℕ). back_from w y t) (ap header_words own ∙ x.in_hand.asked.width_is)
          ∙ sym (back_is x.in_hand.asked.fabric i t))
          ∙ ap (λ (es : List Event). run f ask es counters area) (sym left_is)
          ∙ x.left

      -- it takes nothing back; it may stand on the path already
      pub entry_empty : o ≡ none → {next : std.Option ℕ} → chain_number next ≡ get_or index (next_out + e) 0 → IsEntry next
          → {path₁ : List ℕ} → Kept d path path₁
          → AtNext f ask index place t d path₀ counters₀ area₀ next path₁ counters₁ area
      unfolding Option-elim
      entry_empty z {next} g formed k = record {
        at = record {
          in_hand = on_kept (after_unit x.in_hand u) k;
          hop_left = x.hop_left;
          in_chain = next_in_chain few (next_entry g);
          area_long = x.area_long;
          kept = kept_on x.kept k;
          left =
              ap (λ (es : List Event). run f ask es counters₁ area)
              (sym (left_skips f place hops (drop d path₀) t (suc e) (chain_number next) (next_entry g)))
              ∙ ap (λ (o : Option Set). run f ask (taken o ++ left_from (suc e)) counters₁ area) (sym z)
              ∙ after_its_unit;
        };
        formed = formed;
      }

      -- it takes a set back, whose events are played
      module _ {p : Set} (some_back : o ≡ some p) {r : Result (Unit {0}) Halt} {counters₂ : Counters} {area₂ : List ℕ}
          (traced : Traced f ask (taken_back f e hops (drop d path) p) counters₁ area r counters₂ area₂) where
        played : played_of r counters₂ area₂ ≡ run f ask (taken o) counters₁ area
        unfolding Option-elim
        played =
            traced.played
            ∙ ap (λ (way : List ℕ). run f ask (taken_back f e hops way p) counters₁ area) x.kept.later
            ∙ ap (λ (o : Option Set). run f ask (taken o) counters₁ area) (sym some_back)

        pub entry_ended : {h : Halt} → r ≡ Err h → Traced f ask all_events counters₀ area₀ r counters₂ area₂
        entry_ended {h} e = rw e (record {
          played =
              play_ended (budget_of ask) (found_by f ask) (taken o) (left_from (suc _)) (world_of counters₁ area) h
              (ap (λ (r : Result (Unit {0}) Halt). played_of r counters₂ area₂) (sym e) ∙ played)
              ∙ after_its_unit;
        })

        pub entry_through : {v : Unit {0}} → r ≡ Ok v
            → {next : std.Option ℕ} → chain_number next ≡ get_or index (next_out + e) 0 → IsEntry next
            → {path₂ : List ℕ} → Kept d path path₂ → length area₂ ≡ length area
            → AtNext f ask index place t d path₀ counters₀ area₀ next path₂ counters₂ area₂
        entry_through {v} z {next} g formed {path₂} k a = record {
          at = record {
            in_hand = after_call (after_unit x.in_hand u) traced k a;
            hop_left = x.hop_left;
            in_chain = next_in_chain few (next_entry g);
            area_long = a ∙ x.area_long;
            kept = kept_on x.kept k;
            left =
                ap (λ (es : List Event). run f ask es counters₂ area₂)
                (sym (left_skips f place hops (drop d path₀) t (suc e) (chain_number next) (next_entry g)))
                ∙ play_on (budget_of ask) (found_by f ask) (taken o) (left_from (suc e)) (world_of counters₁ area) v
                (ap (λ (r : Result (Unit {0}) Halt). played_of r counters₂ area₂) (sym z) ∙ played)
                ∙ after_its_unit;
          };
          formed = formed;
        }

-- fewer entries are left
pub fewer_left : {f : List ℕ} {ask : Ask} {index : List ℕ} {place : ℕ} {t : Set} {d : ℕ} {path₀ : List ℕ}
    {counters₀ : Counters} {area₀ : List ℕ} {next : std.Option ℕ} {path : List ℕ} {counters : Counters} {area : List ℕ}
    → AtNext f ask index place t d path₀ counters₀ area₀ next path counters area → {e : ℕ} → next ≡ Some e
    → (later : std.Option ℕ) → chain_number later ≡ get_or index (next_out + e) 0
    → 512 - chain_number later < 512 - chain_number next
fewer_left {next = next} x {e} is later g =
    let below = below_none x is in
    let on = later_entry (come_to x is) below g in
    let here : chain_number next ≡ e = ap chain_number is in
    omega arith
