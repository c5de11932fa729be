-- Playing events: one list after the other, and what a budget makes of it. Assumes nothing.
use mathlib.Core.List.{List, [], ◌∷◌, ◌++◌}
use mathlib.Core.Path.{◌≡◌, refl, sym, ap}
use Prim.Native.Nat.{ℕ, zero, suc}
use Rattle.forwarding.specs.Trace.{Find, Event}
use Rattle.events.specs.Play.{World, Played, goes_on, next_if, and_then, step, play}

pub then_goes_on : (p : Played) → and_then p goes_on ≡ p
then_goes_on p = go p.status refl
  where
    go : (s : ℕ) → p.status ≡ s → next_if s p goes_on ≡ p
    go zero e = λ i. record { status = sym e i; world = p.world }
    go (suc s) e = refl

pub then_then : (p : Played) (f g : World → Played) → and_then (and_then p f) g ≡ and_then p (λ w. and_then (f w) g)
then_then p f g = go p.status refl
  where
    go : (s : ℕ) → p.status ≡ s → and_then (next_if s p f) g ≡ next_if s p (λ w. and_then (f w) g)
    go zero e = refl
    go (suc s) e = ap (λ (k : ℕ). next_if k p g) e

module _ (budget : ℕ) (found : Find → World → Played) where
  -- two lists of events, one after the other
  pub play_append : (a b : List Event) (w : World) → play budget found (a ++ b) w ≡ and_then (play budget found a w)
      (play budget found b)
  unfolding play
  play_append [] b w = refl
  play_append (e ∷ a) b w =
      go (step budget found e w) (play_append a b)
    where
      go : (p : Played) → ((w : World) → play budget found (a ++ b) w ≡ and_then (play budget found a w) (play budget found b))
          → and_then p (play budget found (a ++ b)) ≡ and_then (and_then p (play budget found a)) (play budget found b)
      go p ih = by p.status refl
        where
          by : (s : ℕ) → p.status ≡ s
              → next_if s p (play budget found (a ++ b)) ≡ and_then (next_if s p (play budget found a)) (play budget found b)
          by zero e = ih p.world
          by (suc s) e = sym (ap (λ (k : ℕ). next_if k p (play budget found b)) e)
