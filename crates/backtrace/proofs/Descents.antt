-- The ways through `descend`: an entry was met, none was, or the budget is used.
use mathlib.Core.Bool.{Bool}
use mathlib.Core.List.{List, []}
use mathlib.Core.Path.{◌≡◌, sym, ap, ◌∙◌}
use Prim.Native.Nat.{ℕ, ◌≤◌, ◌<◌}
use borrow.Author.Tests.{le-ltb}
use Rattle.std.specs.Prelude.{Result, Err}
use lib.ListN.{get_or}
use Rattle.headers.specs.Sets.{Set}
use Rattle.forwarding.specs.Trace.{Event}
use Rattle.model.specs.Model.{AFabric}
use Rattle.index.specs.Index.{Index, place_at}
use Rattle.index.specs.Places.{number_of_place, IsFormed}
use Rattle.index.specs.declared.Place.{Place}
use Rattle.events.specs.Play.{and_then, unit_made, make_unit, step, play}
use Rattle.events.specs.Asked.{budget_of, world_of, found_by}
use Rattle.events.specs.declared.Ask.{Ask}
use Rattle.events.specs.declared.Counters.{Counters}
use Rattle.events.specs.declared.Halt.{Halt}
use Rattle.events.specs.declared.Halt.TheVariants.{BudgetUsed}
use Rattle.trials.specs.Trials.{Ending, met, past, used}
use Rattle.backtrace.specs.Cycle.{Traced, IsPlace, events_at, events_cut, events_after}
use Rattle.backtrace.proofs.Steps.{run}
use Rattle.backtrace.proofs.Places as places

-- a trace of equal events
pub traced_same : {f : List ℕ} {ask : Ask} {es fs : List Event} {counters₀ : Counters} {area₀ : List ℕ}
    {r : Result (Unit {0}) Halt} {counters : Counters} {area : List ℕ}
    → es ≡ fs → Traced f ask es counters₀ area₀ r counters area → Traced f ask fs counters₀ area₀ r counters area
traced_same {f} {ask} {counters₀ = counters₀} {area₀} e x = record {
  played = x.played ∙ ap (λ (es : List Event). run f ask es counters₀ area₀) e;
}

-- an entry was met: the parts that it leaves are left
pub descended_met : {f : List ℕ} {ask : Ask} (x q b hops : ℕ) (path : List ℕ) (p : Set) {counters₀ : Counters} {area₀ : List ℕ}
    {r : Result (Unit {0}) Halt} {counters : Counters} {area : List ℕ}
    → {e : Ending} → e ≡ met b → Traced f ask (events_cut f x q b hops path p) counters₀ area₀ r counters area
    → Traced f ask (events_after f x q e hops path p) counters₀ area₀ r counters area
descended_met {f} x q b hops path p h w = traced_same (ap (λ (o : Ending). events_after f x q o hops path p) (sym h)) w

-- no entry was met: the part is at the place that the index has for the in-port
module _ {f cells : List ℕ} (a : AFabric f) (i : Index f cells) {x : ℕ} (l : x < 4096) (place : Place)
    (h : number_of_place place ≡ get_or cells x 0) where
  at_place : number_of_place place ≡ place_at f x
  at_place = h ∙ i.places x l

  pub place_found : IsFormed place → IsPlace f place
  place_found formed = places.place_found a x place formed at_place

  pub descended_past : {ask : Ask} (q hops : ℕ) (path : List ℕ) (p : Set) {counters₀ : Counters} {area₀ : List ℕ}
      {r : Result (Unit {0}) Halt} {counters : Counters} {area : List ℕ}
      → {e : Ending} → e ≡ past → Traced f ask (events_at f (number_of_place place) p hops path) counters₀ area₀ r counters area
      → Traced f ask (events_after f x q e hops path p) counters₀ area₀ r counters area
  descended_past q hops path p h w = traced_same
      (ap (λ (y : ℕ). events_at f y p hops path) at_place
      ∙ places.place_events a x hops path p
      ∙ ap (λ (o : Ending). events_after f x q o hops path p) (sym h))
      w

-- the budget has no unit for the next trial
pub descended_used : {f : List ℕ} {ask : Ask} (x q hops : ℕ) (path : List ℕ) (p : Set) {counters : Counters} {area : List ℕ}
    → {e : Ending} → e ≡ used → budget_of ask ≤ counters.made
    → Traced f ask (events_after f x q e hops path p) counters area (Err BudgetUsed) counters area
unfolding play step make_unit
descended_used {f} {ask} x q hops path p {counters} {area} h u = record {
  played =
      ap (λ (t : Bool). and_then (unit_made t (world_of counters area)) (play (budget_of ask) (found_by f ask) []))
      (sym (le-ltb counters.made (budget_of ask) u))
      ∙ ap (λ (o : Ending). run f ask (events_after f x q o hops path p) counters area) (sym h);
}
