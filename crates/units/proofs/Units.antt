-- A unit of the budget, as the counters have it. Assumes nothing.
use mathlib.Core.Bool.{Bool}
use mathlib.Core.Path.{sym, ap}
use Prim.Native.Nat.{◌+◌, ◌≤◌, ◌<◌}
use borrow.Author.Tests.{lt-ltb, le-ltb}
use Rattle.std.specs.Prelude.{Ok, Err}
use Rattle.events.specs.Play.{unit_made, make_unit}
use Rattle.events.specs.Asked.{budget_of, world_of, UnitMade}
use Rattle.events.specs.declared.Ask.{Ask}
use Rattle.events.specs.declared.Counters.{Counters}
use Rattle.events.specs.declared.Halt.TheVariants.{BudgetUsed}

module _ {T : Type 0} (ask : Ask) (counters : Counters) where
  pub unit_refused : budget_of ask ≤ counters.made → UnitMade {T = T} ask counters (Err BudgetUsed) counters
  unfolding make_unit
  unit_refused h = record {
    played = λ area. ap (λ (b : Bool). unit_made b (world_of counters area)) (sym (le-ltb counters.made (budget_of ask) h));
  }

  pub unit_counted : (x : T) → counters.made < budget_of ask
      → UnitMade ask counters (Ok x) (record { made = counters.made + 1; words = counters.words })
  unfolding make_unit
  unit_counted x h = record {
    played = λ area. ap (λ (b : Bool). unit_made b (world_of counters area)) (sym (lt-ltb counters.made (budget_of ask) h));
  }
