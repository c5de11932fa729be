-- The budget: the verdict, and the whole trace, end within it exactly if their units are no more. Assumes nothing.
use mathlib.Core.Bool.{Bool, true, false, ◌&&◌, cond}
use mathlib.Core.List.{List, [], ◌∷◌}
use mathlib.Core.Option.{Option, some, none, map, get_or, or_else}
use mathlib.Core.Path.{◌≡◌, refl, sym, ap, ◌∙◌}
use Prim.Native.Nat.{ℕ, suc, ◌+◌, ◌≤◌}
use native.Mathlib.Omega.{arith}
use borrow.Author.Tests.{ltb-true, ltb-false, le-leb, lt-leb}
use lib.Dec.{ltb, leb}
use Rattle.headers.specs.Sets.{Header}
use Rattle.forwarding.specs.Fabric.{Fabric}
use Rattle.forwarding.specs.Trace.{Event, unit, find, units}
use Rattle.forwarding.specs.Verdict.{Verdict, isolated, reached, units_in, foreign_packet, verdict, ends_within, verdict_within}
use Rattle.forwarding.proofs.Stops.{isolated_events, reached_events}

module _ (budget : ℕ) where
  ends_from : (es : List Event) (u : ℕ) → u ≤ budget → ends_within budget u es ≡ leb (u + units es) budget
  unfolding ends_within units
  ends_from [] u l = sym (le-leb (u + 0) budget (omega arith))
  ends_from (unit ∷ es) u l = go (ltb u budget) refl (ends_from es (suc u))
    where
      go : (b : Bool) → ltb u budget ≡ b → (suc u ≤ budget → ends_within budget (suc u) es ≡ leb (suc u + units es) budget)
          → (b && ends_within budget (suc u) es) ≡ leb (u + suc (units es)) budget
      go true d ih = ih (ltb-true u budget d) ∙ ap (λ (m : ℕ). leb m budget) (let z : suc u + units es ≡ u + suc (units es) =
          omega arith in z)
      go false d ih = let k : budget ≤ u = ltb-false u budget d in sym (lt-leb (u + suc (units es)) budget (omega arith))
  ends_from (find d ∷ es) u l = ends_from es u l

  -- all of the events are gone through within the budget exactly if their units are no more
  pub ends_within_lem : (es : List Event) → ends_within budget 0 es ≡ leb (units es) budget
  ends_within_lem es = ends_from es 0 (omega arith) ∙ ap (λ (m : ℕ). leb m budget) (let z : 0 + units es ≡ units es = omega arith in
      z)

-- a verdict, if its units are within the budget
abbrev pub if_within : ℕ → Verdict → Option Verdict
if_within budget v = cond (leb (units_in v) budget) (some v) none

module _ (f : Fabric) (target budget : ℕ) where
  no_fewer : (es : List Event) (u : ℕ) → u ≤ units_in (verdict f target u es)
  unfolding units_in
  no_fewer es u = go (verdict f target u es) refl
    where
      go : (v : Verdict) → verdict f target u es ≡ v → u ≤ units_in v
      go (isolated m) e = omega (arith, (isolated_events f target es u m e).made)
      go (reached m p q h) e = omega (arith, (reached_events f target es u m p q h e).made)

  within_from : (es : List Event) (u : ℕ) → u ≤ budget → verdict_within f target budget u es ≡ if_within budget
      (verdict f target u es)
  unfolding units_in verdict verdict_within or_else
  within_from [] u l = rw (le-leb u budget l)
  within_from (unit ∷ es) u l = go (ltb u budget) refl (within_from es (suc u))
    where
      go : (b : Bool) → ltb u budget ≡ b
          → (suc u ≤ budget → verdict_within f target budget (suc u) es ≡ if_within budget (verdict f target (suc u) es))
          → cond b (verdict_within f target budget (suc u) es) none ≡ if_within budget (verdict f target (suc u) es)
      go true d ih = ih (ltb-true u budget d)
      go false d ih =
          let m = no_fewer es (suc u) in
          let k : budget ≤ u = ltb-false u budget d in
          rw (lt-leb (units_in (verdict f target (suc u) es)) budget (omega arith))
  within_from (find d ∷ es) u l = go (foreign_packet f target d) (within_from es u l)
    where
      stopped : Option Header → Option Verdict
      stopped o = map (reached u d.port d.path) o

      go : (o : Option Header) → verdict_within f target budget u es ≡ if_within budget (verdict f target u es)
          → or_else (stopped o) (verdict_within f target budget u es) ≡ if_within budget (get_or (stopped o) (verdict f target u es))
      go none ih = ih
      go (some h) ih = rw (le-leb u budget l)

  -- with a budget the verdict is the same if its units are within the budget, and else there is none
  pub verdict_within_lem : (es : List Event) → verdict_within f target budget 0 es ≡ if_within budget (verdict f target 0 es)
  verdict_within_lem es = within_from es 0 (omega arith)
