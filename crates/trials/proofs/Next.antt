-- What trials come to: the entry met is the next, or there is none; and where the budget ends among them.
use mathlib.Core.Bool.{Bool, true, false, cond}
use mathlib.Core.List.{List, [], ◌∷◌, head?}
use mathlib.Core.Option.{Option, none}
use mathlib.Core.Path.{◌≡◌, refl, sym, ap, ◌∙◌}
use Prim.Native.Nat.{ℕ, suc, ◌+◌, ◌≤◌, ◌<◌}
use native.Mathlib.Decide.{dec_lt}
use native.Mathlib.Omega.{arith}
use borrow.Author.Tests.{ltb-true, ltb-false, lt-ltb, le-ltb}
use lib.Dec.{ltb}
use Rattle.headers.specs.Bits.{keep_if, those}
use Rattle.trials.specs.Trials.{Tried, met, used, tried, trials_of, ending_of}

module _ (meets : ℕ → Bool) (budget : ℕ) where
  -- ---- one trial

  module _ (b : ℕ) (bs : List ℕ) (made : ℕ) where
    -- by whether the part meets b, and by whether there is a unit for it
    abbrev by_meeting : Bool → Tried
    by_meeting t = cond t (record { ending = met b; made = made + 1 }) (tried meets budget bs (made + 1))

    abbrev by_unit : Bool → Tried
    by_unit t = cond t (by_meeting (meets b)) (record { ending = used; made = made })

    pub trial_refused : ltb made budget ≡ false → tried meets budget (b ∷ bs) made ≡ record { ending = used; made = made }
    unfolding tried
    trial_refused u = ap by_unit u

    pub trial_met : ltb made budget ≡ true → meets b ≡ true
        → tried meets budget (b ∷ bs) made ≡ record { ending = met b; made = made + 1 }
    unfolding tried
    trial_met u e = ap by_unit u ∙ ap by_meeting e

    pub trial_passed : ltb made budget ≡ true → meets b ≡ false
        → tried meets budget (b ∷ bs) made ≡ tried meets budget bs (made + 1)
    unfolding tried
    trial_passed u e = ap by_unit u ∙ ap by_meeting e

    -- the trials that are left with it
    trials_met : meets b ≡ true → trials_of meets (b ∷ bs) ≡ 1
    unfolding trials_of
    trials_met e = ap (λ (t : Bool). suc (cond t 0 (trials_of meets bs))) e

    trials_passed : meets b ≡ false → trials_of meets (b ∷ bs) ≡ suc (trials_of meets bs)
    unfolding trials_of
    trials_passed e = ap (λ (t : Bool). suc (cond t 0 (trials_of meets bs))) e

  -- ---- all of them

  abbrev after : Option ℕ → ℕ → Tried
  after o n = record { ending = ending_of o; made = n }

  -- with a unit for each: the first of the entries that the part meets, or none, and a unit for each one up to there
  pub next_met : (bs : List ℕ) (made : ℕ) → made + trials_of meets bs ≤ budget
      → tried meets budget bs made ≡ after (head? (those meets bs)) (made + trials_of meets bs)
  unfolding tried trials_of those
  next_met [] made l = ap (after none) (let z : made ≡ made + 0 = omega arith in z)
  next_met (b ∷ bs) made l = go (meets b) refl (next_met bs (made + 1))
    where
      go : (t : Bool) → meets b ≡ t
          → (made + 1 + trials_of meets bs ≤ budget → tried meets budget bs (made + 1) ≡ after (head? (those meets bs))
          (made + 1 + trials_of meets bs))
          → tried meets budget (b ∷ bs) made ≡ after (head? (keep_if (meets b) b (those meets bs)))
          (made + trials_of meets (b ∷ bs))
      go true e ih =
          let n = trials_met b bs made e in
          trial_met b bs made (lt-ltb made budget (omega arith)) e
          ∙ ap (λ (t : Bool). after (head? (keep_if t b (those meets bs))) (made + 1)) (sym e)
          ∙ ap (after (head? (keep_if (meets b) b (those meets bs))))
          (let z : made + 1 ≡ made + trials_of meets (b ∷ bs) = omega arith in z)
      go false e ih =
          let n = trials_passed b bs made e in
          trial_passed b bs made (lt-ltb made budget (omega arith)) e
          ∙ ih (omega arith)
          ∙ ap (λ (t : Bool). after (head? (keep_if t b (those meets bs))) (made + 1 + trials_of meets bs)) (sym e)
          ∙ ap (after (head? (keep_if (meets b) b (those meets bs))))
          (let z : made + 1 + trials_of meets bs ≡ made + trials_of meets (b ∷ bs) = omega arith in z)

  -- and else the budget is used among them
  pub budget_ends : (bs : List ℕ) (made : ℕ) → made ≤ budget → budget < made + trials_of meets bs
      → tried meets budget bs made ≡ record { ending = used; made = budget }
  unfolding trials_of
  budget_ends [] made l m = absurd (omega arith)
  budget_ends (b ∷ bs) made l m = go (dec_lt made budget) (meets b) refl (budget_ends bs (made + 1))
    where
      go : Dec (made < budget) → (t : Bool) → meets b ≡ t
          → (made + 1 ≤ budget → budget < made + 1 + trials_of meets bs → tried meets budget bs (made + 1) ≡ record
          { ending = used; made = budget })
          → tried meets budget (b ∷ bs) made ≡ record { ending = used; made = budget }
      go (yes k) true e ih = let n = trials_met b bs made e in absurd (omega arith)
      go (yes k) false e ih =
          let n = trials_passed b bs made e in
          trial_passed b bs made (lt-ltb made budget k) e ∙ ih (omega arith) (omega arith)
      go (no k) t e ih =
          trial_refused b bs made (le-ltb made budget (omega arith))
          ∙ ap (λ (n : ℕ). record { ending = used; made = n }) (let z : made ≡ budget = omega arith in z)

  -- ---- whatever the budget

  -- no more units are made than it has
  pub tried_within : (bs : List ℕ) (made : ℕ) → made ≤ budget → (tried meets budget bs made).made ≤ budget
  unfolding tried
  tried_within [] made l = l
  tried_within (b ∷ bs) made l = go (ltb made budget) refl (meets b) (tried_within bs (made + 1))
    where
      go : (u : Bool) → ltb made budget ≡ u → (t : Bool)
          → (made + 1 ≤ budget → (tried meets budget bs (made + 1)).made ≤ budget)
          → (cond u (by_meeting b bs made t) (record { ending = used; made = made })).made ≤ budget
      go false e t ih = l
      go true e true ih = let k = ltb-true made budget e in omega arith
      go true e false ih = let k = ltb-true made budget e in ih (omega arith)

  -- and where it is used, all of it is
  pub tried_used : (bs : List ℕ) (made : ℕ) → (tried meets budget bs made).ending ≡ used
      → budget ≤ (tried meets budget bs made).made
  unfolding tried
  tried_used [] made e = let z : ◌≡◌ {A = ℕ} 0 1 = cc in absurd (omega arith)
  tried_used (b ∷ bs) made e = go (ltb made budget) refl (meets b) (tried_used bs (made + 1)) e
    where
      go : (u : Bool) → ltb made budget ≡ u → (t : Bool)
          → ((tried meets budget bs (made + 1)).ending ≡ used → budget ≤ (tried meets budget bs (made + 1)).made)
          → (cond u (by_meeting b bs made t) (record { ending = used; made = made })).ending ≡ used
          → budget ≤ (cond u (by_meeting b bs made t) (record { ending = used; made = made })).made
      go false d t ih e = ltb-false made budget d
      go true d true ih e = let z : ◌≡◌ {A = ℕ} 0 1 = cc in absurd (omega arith)
      go true d false ih e = ih e
