-- No more units are made than the budget has: not by a unit, nor by what is done with a find, so not by playing events. Assumes nothing.
use mathlib.Core.Bool.{Bool, true, false, cond}
use mathlib.Core.List.{List, [], ◌∷◌}
use mathlib.Core.Option.{Option, some, none}
use mathlib.Core.Path.{◌≡◌, refl}
use Prim.Native.Nat.{ℕ, zero, suc, ◌≤◌}
use native.Mathlib.Omega.{arith}
use borrow.Author.Tests.{ltb-true}
use lib.Dec.{eqb, ltb}
use Rattle.headers.specs.Sets.{Header}
use Rattle.forwarding.specs.Trace.{Find, Event, unit, find}
use Rattle.forwarding.specs.Verdict.{foreign_packet}
use Rattle.layout.specs.Records.{width_in}
use Rattle.model.specs.Model.{wide_in}
use Rattle.events.specs.Play.{World, Played, next_if, unit_made, make_unit, step, play, listed, judged, judged_by}
use Rattle.events.specs.Asked.{mode_of, target_of, found_by}
use Rattle.events.specs.declared.Ask.{Ask}

-- what is done with a find makes no unit
pub found_makes_none : (f : List ℕ) (ask : Ask) (d : Find) (w : World) → (found_by f ask d w).world.made ≡ w.made
unfolding found_by listed judged
found_makes_none f ask d w = by (eqb (mode_of ask) 3)
  where
    if_foreign : (o : Option Header) → (judged_by (wide_in f) (width_in f) (target_of ask) o d w).world.made ≡ w.made
    if_foreign none = refl
    if_foreign (some h) = refl

    by : (b : Bool) → (cond b (judged (wide_in f) (width_in f) (target_of ask)) (listed (width_in f)) d w).world.made ≡ w.made
    by true = if_foreign (foreign_packet (wide_in f) (target_of ask) d)
    by false = refl

pub unit_within : (budget : ℕ) (w : World) → w.made ≤ budget → (make_unit budget w).world.made ≤ budget
unfolding make_unit
unit_within budget w l = go (ltb w.made budget) refl
  where
    go : (b : Bool) → ltb w.made budget ≡ b → (unit_made b w).world.made ≤ budget
    go true h = let m = ltb-true w.made budget h in omega arith
    go false h = l

module _ (budget : ℕ) (found : Find → World → Played) (makes_none : (d : Find) (w : World) → (found d w).world.made ≡ w.made)
  where
    step_within : (e : Event) (w : World) → w.made ≤ budget → (step budget found e w).world.made ≤ budget
    unfolding step
    step_within unit w l = unit_within budget w l
    step_within (find d) w l = rw (makes_none d w) l

    pub play_within : (es : List Event) (w : World) → w.made ≤ budget → (play budget found es w).world.made ≤ budget
    unfolding play
    play_within [] w l = l
    play_within (e ∷ es) w l = go (step budget found e w) (step_within e w l) (play_within es)
      where
        go : (p : Played) → p.world.made ≤ budget
            → ((v : World) → v.made ≤ budget → (play budget found es v).world.made ≤ budget)
            → (next_if p.status p (play budget found es)).world.made ≤ budget
        go p m ih = by p.status
          where
            by : (s : ℕ) → (next_if s p (play budget found es)).world.made ≤ budget
            by zero = ih p.world m
            by (suc s) = m
