-- The events of a part's trials, played: what is left of them goes by how the trials end.
use mathlib.Core.Bool.{Bool, true, false, cond, ◌&&◌}
use mathlib.Core.List.{List, [], ◌∷◌, flat_map, append-nil}
use mathlib.Core.Path.{◌≡◌, refl, sym, ap, ◌∙◌}
use Prim.Native.Nat.{ℕ, zero, suc, ◌+◌, ◌-◌, ◌≤◌}
use native.Mathlib.Omega.{arith}
use borrow.Author.Tests.{le-ltb}
use lib.Dec.{eqb, leb, ltb}
use Rattle.std.specs.Prelude.{Option, Result, Err}
use Rattle.headers.specs.Bits.{positions, keep_if, those}
use Rattle.headers.specs.Sets.{Set}
use Rattle.headers.specs.Carving.{parts, carve}
use Rattle.forwarding.specs.Fabric.{Fabric, in_port_of, priority_of}
use Rattle.forwarding.specs.Trace.{Find, Event, unit, carved}
use Rattle.model.specs.Model.{fabric_in, wide_in}
use Rattle.index.specs.Chains.{no_entry}
use Rattle.index.proofs.Chained.{Next}
use Rattle.entries.specs.Entries.{ranked_from}
use Rattle.entries.proofs.Ranked.{ranked_next}
use Rattle.events.specs.Play.{World, Played, and_then, unit_made, make_unit, step, play}
use Rattle.events.specs.Asked.{budget_of, world_of, played_of, found_by}
use Rattle.events.specs.declared.Ask.{Ask}
use Rattle.events.specs.declared.Counters.{Counters}
use Rattle.events.specs.declared.Halt.{Halt}
use Rattle.trials.specs.Trials.{Ending, met, past, used, ending_said, ending_number_of, answer_of, Tried, tried, meets, trials_from}
use Rattle.trials.specs.Trials.{NextMet}
use Rattle.trials.specs.declared.Ending as Declared
use Rattle.trials.proofs.Next.{trial_refused, trial_met, trial_passed}
use Rattle.trials.proofs.Found.{said_is, said_met, said_used, found_later, ending_halts, budget_halts, budget_ended, units_within}
use Rattle.backtrace.specs.Cycle.{Traced, Ended, survivor_events, events_from, events_cut, events_after}
use Rattle.backtrace.proofs.Steps.{run}
use Rattle.backtrace.proofs.Tracings.{InHand}

-- ---- over any fabric

module _ (f : Fabric) (budget : ℕ) (found : Find → World → Played) (next : Set → List Event) (x q : ℕ) (p : Set) where
  abbrev ranked : ℕ → Bool
  ranked b = eqb (in_port_of f b) x && leb q (priority_of f b)

  -- the events of the parts that entry b leaves, each tried on
  abbrev cut_by : ℕ → List ℕ → List Event
  cut_by b bs = flat_map (carved f next bs) (carve f.words p (f.entry b).matches)

  abbrev left_by : Ending → List Event
  left_by (met b) = cut_by b (ranked_from f x q (suc b))
  left_by past = next p
  left_by used = unit ∷ []

  abbrev with_units : World → ℕ → World
  with_units w n = record { made = n; words = w.words; area = w.area }

  -- what was tried goes on with what is left
  abbrev Goes : List ℕ → World → Type 0
  Goes bs w =
      play budget found (left_by (tried (meets f p) budget bs w.made).ending)
      (with_units w (tried (meets f p) budget bs w.made).made)
      ≡ play budget found (carved f next bs p) w

  -- "if they don't intersect, P alone"
  apart_alone : (b : ℕ) (bs : List ℕ) → meets f p b ≡ false → cut_by b bs ≡ carved f next bs p
  unfolding carve flat_map
  apart_alone b bs e = ap (λ (o : Bool). flat_map (carved f next bs) (cond o (parts f.words p (f.entry b).matches) (p ∷ []))) e
      ∙ append-nil (carved f next bs p)

  module _ (b : ℕ) (later : List ℕ) (is_later : later ≡ ranked_from f x q (suc b)) (w : World) where
    -- by the unit of a trial
    abbrev by_unit : Bool → Played
    by_unit t = and_then (unit_made t w) (play budget found (cut_by b later))

    abbrev after : Tried → Played
    after t = play budget found (left_by t.ending) (with_units w t.made)

    played_first : (t : Bool) → ltb w.made budget ≡ t → play budget found (carved f next (b ∷ later) p) w ≡ by_unit t
    unfolding play step make_unit carved
    played_first t e = ap by_unit e

    goes_refused : ltb w.made budget ≡ false → Goes (b ∷ later) w
    unfolding play step make_unit
    goes_refused e =
        ap after (trial_refused (meets f p) budget b later w.made e)
        ∙ ap (λ (t : Bool). and_then (unit_made t w) (play budget found [])) e
        ∙ sym (played_first false e)

    goes_met : ltb w.made budget ≡ true → meets f p b ≡ true → Goes (b ∷ later) w
    goes_met e m =
        ap after (trial_met (meets f p) budget b later w.made e m)
        ∙ ap (λ (bs : List ℕ). play budget found (cut_by b bs) (with_units w (w.made + 1))) (sym is_later)
        ∙ sym (played_first true e)

    goes_passed : ltb w.made budget ≡ true → meets f p b ≡ false → Goes later (with_units w (w.made + 1))
        → Goes (b ∷ later) w
    goes_passed e m rest =
        ap after (trial_passed (meets f p) budget b later w.made e m)
        ∙ rest
        ∙ ap (λ (es : List Event). play budget found es (with_units w (w.made + 1))) (sym (apart_alone b later m))
        ∙ sym (played_first true e)

    goes_here : Goes later (with_units w (w.made + 1)) → Goes (b ∷ later) w
    goes_here rest = go (ltb w.made budget) refl (meets f p b) refl
      where
        go : (u : Bool) → ltb w.made budget ≡ u → (m : Bool) → meets f p b ≡ m → Goes (b ∷ later) w
        go false e m d = goes_refused e
        go true e true d = goes_met e d
        go true e false d = goes_passed e d rest

  goes_none : (w : World) → Goes [] w
  unfolding tried carved
  goes_none w = refl

  goes_from : (k j : ℕ) → f.entries - j ≡ k → (w : World) → Goes (those ranked (positions k j)) w
  unfolding those positions
  goes_from zero j h w = goes_none w
  goes_from (suc k) j h w = go (ranked j) (goes_from k (suc j) (omega arith) w)
      (goes_from k (suc j) (omega arith) (with_units w (w.made + 1)))
    where
      go : (r : Bool) → Goes (those ranked (positions k (suc j))) w
          → Goes (those ranked (positions k (suc j))) (with_units w (w.made + 1))
          → Goes (keep_if r j (those ranked (positions k (suc j)))) w
      go false skip pass = skip
      go true skip pass =
          goes_here j (those ranked (positions k (suc j)))
          (ap (λ (k : ℕ). those ranked (positions k (suc j))) (let z : k ≡ f.entries - suc j = omega arith in z)) w pass

  pub trials_played : (j : ℕ) (w : World) → Goes (ranked_from f x q j) w
  trials_played j w = goes_from (f.entries - j) j refl w

-- ---- in the trace: entry i of the chain is the first from j on at in-port x, and the part's trials from there were answered

module _ {f : List ℕ} {ask : Ask} {index : List ℕ} {d : ℕ} {path : List ℕ} {counters₀ : Counters} {area : List ℕ}
    (t : InHand f ask index d path counters₀ area)
    (x q : ℕ) (p : Set) {j i : ℕ} (along : Next (in_port_of (fabric_in f)) (fabric_in f).entries x j i) where
  -- the trials of the entries from j on
  abbrev these : Tried
  these = tried (meets (wide_in f) p) (budget_of ask) (ranked_from (wide_in f) x q j) counters₀.made

  -- their answer
  abbrev Answered : Result (Option ℕ) Halt → Counters → Type 0
  Answered r counters = NextMet (trials_from (wide_in f) (budget_of ask) q i p counters₀.made) counters₀ r counters

  of_these : {r : Result (Option ℕ) Halt} {counters : Counters} → Answered r counters → NextMet these counters₀ r counters
  of_these n = rw (ranked_next (wide_in f) q along) n

  pub after_trials : {r : Result (Option ℕ) Halt} {counters : Counters} → Answered r counters
      → InHand f ask index d path counters area
  after_trials n = record {
    asked = t.asked;
    indexed = t.indexed;
    tracing = record {
      above_floor = t.tracing.above_floor;
      on_path = t.tracing.on_path;
      room = record {
        made_within =
            units_within (wide_in f) p (budget_of ask) x q j counters₀.made (of_these n) t.tracing.room.made_within;
        verdict_room = t.tracing.room.verdict_room;
      };
    };
  }

  left_is : (hops : ℕ) (way : List ℕ) (o : Ending)
      → events_after f x q o hops way p ≡ left_by (wide_in f) (budget_of ask) (found_by f ask) (survivor_events f x hops way) x q p o
  unfolding events_from events_cut
  left_is hops way (met b) = refl
  left_is hops way past = refl
  left_is hops way used = refl

  -- what is then left of the part is played: so is the part
  left_played : {r : Result (Option ℕ) Halt} {counters : Counters} → Answered r counters → (hops : ℕ) (way : List ℕ)
      → run f ask (events_after f x q these.ending hops way p) counters area
      ≡ run f ask (events_from f x q j hops way p) counters₀ area
  unfolding events_from
  left_played {counters = counters} n hops way =
      ap (λ (es : List Event). run f ask es counters area) (left_is hops way these.ending)
      ∙ ap (play (budget_of ask) (found_by f ask)
      (left_by (wide_in f) (budget_of ask) (found_by f ask) (survivor_events f x hops way) x q p these.ending)) world_is
      ∙ trials_played (wide_in f) (budget_of ask) (found_by f ask) (survivor_events f x hops way) x q p j (world_of counters₀ area)
    where
      world_is : world_of counters area ≡ record { made = these.made; words = counters₀.words; area = area }
      world_is = λ i. record { made = (of_these n).units_are i; words = (of_these n).words_stay i; area = area }

  -- as the code's ending says
  module _ (e : Declared.Ending) {counters : Counters} (n : Answered (answer_of (ending_said e)) counters) where
    pub part_ended : Ended f ask x p counters (ending_said e)
    part_ended = record {
      entry_met = λ b h. (said_met (wide_in f) p (budget_of ask) x q j counters₀.made e (of_these n) b h).is;
      budget_used = said_used (wide_in f) p (budget_of ask) x q j counters₀.made e (of_these n);
    }

    pub part_later : j ≤ no_entry → j ≤ ending_number_of e
    part_later = found_later (wide_in f) p (budget_of ask) x q j counters₀.made e (of_these n)

    pub part_traced : (hops : ℕ) (way : List ℕ) {r : Result (Unit {0}) Halt} {counters' : Counters} {area' : List ℕ}
        → Traced f ask (events_after f x q (ending_said e) hops way p) counters area r counters' area'
        → Traced f ask (events_from f x q j hops way p) counters₀ area r counters' area'
    part_traced hops way w = record {
      played =
          w.played
          ∙ ap (λ (o : Ending). run f ask (events_after f x q o hops way p) counters area) (said_is e (of_these n))
          ∙ left_played n hops way;
    }

  -- the budget has no unit for the next trial
  pub part_halted : {h : Halt} {counters : Counters} → Answered (Err h) counters → (hops : ℕ) (way : List ℕ)
      → Traced f ask (events_from f x q j hops way p) counters₀ area (Err h) counters area
  unfolding play step make_unit
  part_halted {h} {counters} n hops way =
      let is = budget_halts (wide_in f) p (budget_of ask) x q j counters₀.made (of_these n) in
      let ends = ending_halts (wide_in f) p (budget_of ask) x q j counters₀.made (of_these n) in
      let all = budget_ended (wide_in f) p (budget_of ask) x q j counters₀.made (of_these n) in
      record {
        played =
            ap (λ (h : Halt). played_of {T = Unit {0}} (Err h) counters area) is
            ∙ ap (λ (t : Bool). and_then (unit_made t (world_of counters area)) (play (budget_of ask) (found_by f ask) []))
            (sym (le-ltb counters.made (budget_of ask) all))
            ∙ ap (λ (o : Ending). run f ask (events_after f x q o hops way p) counters area) (sym ends)
            ∙ left_played n hops way;
      }
