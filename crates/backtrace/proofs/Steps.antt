-- Playing events up to a call, and on after it: laws that name what the call returned. Assumes nothing.
use mathlib.Core.List.{List, [], ◌∷◌, ◌++◌}
use mathlib.Core.Path.{◌≡◌, refl, sym, ap, ◌∙◌}
use Prim.Native.Nat.{ℕ}
use Rattle.std.specs.Prelude.{Ok, Err}
use Rattle.forwarding.specs.Trace.{Find, Event, unit, find}
use Rattle.events.specs.Play.{World, Played, and_then, step, play}
use Rattle.events.specs.Asked.{budget_of, world_of, played_of, found_by, UnitMade}
use Rattle.events.specs.declared.Ask.{Ask}
use Rattle.events.specs.declared.Counters.{Counters}
use Rattle.events.specs.declared.Halt.{Halt}
use Rattle.events.specs.declared.Halt.TheVariants.{BudgetUsed, Reached}
use Rattle.events.proofs.Plays.{then_goes_on, play_append}

-- what playing the events makes of the counters and the area
abbrev pub run : List ℕ → Ask → List Event → Counters → List ℕ → Played
run f ask es counters area = play (budget_of ask) (found_by f ask) es (world_of counters area)

-- a trace that was halted is over
stays : (h : Halt) (counters : Counters) (area : List ℕ) (next : World → Played)
    → played_of {T = Unit {0}} (Err h) counters area ≡ and_then (played_of {T = Unit {0}} (Err h) counters area) next
stays BudgetUsed counters area next = refl
stays Reached counters area next = refl

module _ (budget : ℕ) (found : Find → World → Played) where
  pub play_find : (d : Find) (w : World) → found d w ≡ play budget found (find d ∷ []) w
  unfolding play step
  play_find d w = sym (then_goes_on (found d w))

  module _ (a b : List Event) (w : World) {counters : Counters} {area : List ℕ} where
    -- what was played of a goes on with b, if it is through
    pub play_on : (v : Unit {0}) → played_of (Ok v) counters area ≡ play budget found a w
        → play budget found b (world_of counters area) ≡ play budget found (a ++ b) w
    play_on v e = ap (λ (p : Played). and_then p (play budget found b)) e ∙ sym (play_append budget found a b w)

    -- and ends there, if not
    pub play_ended : (h : Halt) → played_of {T = Unit {0}} (Err h) counters area ≡ play budget found a w
        → played_of {T = Unit {0}} (Err h) counters area ≡ play budget found (a ++ b) w
    play_ended h e =
        stays h counters area (play budget found b)
        ∙ ap (λ (p : Played). and_then p (play budget found b)) e
        ∙ sym (play_append budget found a b w)

-- a unit
module _ {ask : Ask} {counters₀ counters : Counters} (found : Find → World → Played) where
  pub unit_goes_on : {v : Unit {0}} → UnitMade ask counters₀ (Ok v) counters → (area : List ℕ) (es : List Event)
      → play (budget_of ask) found es (world_of counters area) ≡ play (budget_of ask) found (unit ∷ es) (world_of counters₀ area)
  unfolding play step
  unit_goes_on u area es = ap (λ (p : Played). and_then p (play (budget_of ask) found es)) (u.played area)

  pub unit_ends : {h : Halt} → UnitMade {T = Unit {0}} ask counters₀ (Err h) counters → (area : List ℕ) (es : List Event)
      → played_of {T = Unit {0}} (Err h) counters area ≡ play (budget_of ask) found (unit ∷ es) (world_of counters₀ area)
  unfolding play step
  unit_ends {h} u area es =
      stays h counters area (play (budget_of ask) found es)
      ∙ ap (λ (p : Played). and_then p (play (budget_of ask) found es)) (u.played area)
