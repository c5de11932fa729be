-- The ports of the records passed, the latest first: their number, whether a port is among them, and how often. Assumes nothing.
use mathlib.Core.Bool.{Bool, true, false, not, ◌||◌, true≢false}
use mathlib.Core.List.{List, [], ◌∷◌}
use mathlib.Core.Path.{◌≡◌, refl, sym, ap, ◌∙◌}
use Prim.Native.Nat.{ℕ, zero, suc, ◌+◌, ◌≤◌, ◌<◌}
use native.Mathlib.Decide.{ℕ_discrete}
use native.Mathlib.Numerals.{add-one}
use native.Mathlib.Omega.{arith}
use lib.Dec.{eqb}
use lib.ListN.{length}
use borrow.Author.Tests.{eq-eqb, ne_eqb, eqb-true, eqb-false, not-true}
use Rattle.layout.specs.Records.{recent}
use Rattle.questions.specs.Questions.{pick, latest, elem, times}
use Rattle.questions.specs.Tables.{number}

pub recent_more : (g : ℕ → ℕ) (n : ℕ) → recent g (n + 1) ≡ g n ∷ recent g n
recent_more g n = ap (recent g) (add-one n)

pub recent_long : (g : ℕ → ℕ) (n : ℕ) → length (recent g n) ≡ n
recent_long g zero = refl
recent_long g (suc n) = ap suc (recent_long g n)

-- a port is not there exactly if it has no number
pub elem_number : (p : ℕ) (l : List ℕ) → not (elem p l) ≡ eqb (number l p) 0
elem_number p [] = refl
elem_number p (q ∷ l) = go (elem_number p l) (eqb p q)
  where
    go : not (elem p l) ≡ eqb (number l p) 0 → (b : Bool) → not (b || elem p l) ≡ eqb (pick b (suc (length l)) (number l p)) 0
    go later true = sym (ne_eqb (suc (length l)) 0 (λ z. let y : ⊥ = omega arith in y))
    go later false = later

-- ---- of g 0 to g (n - 1)

-- none of them is a port that is not there
pub none_has : (g : ℕ → ℕ) (n p : ℕ) → elem p (recent g n) ≡ false → (i : ℕ) → i < n → g i ≡ p → ⊥
none_has g zero p h i hi e = absurd (omega arith)
none_has g (suc n) p h i hi e = go (λ q j. none_has g n p q i j e) (eqb p (g n)) refl (ℕ_discrete i n)
  where
    go : (elem p (recent g n) ≡ false → i < n → ⊥) → (b : Bool) → eqb p (g n) ≡ b → Dec (i ≡ n) → ⊥
    go later true hb d = true≢false (simp hb at h)
    go later false hb (yes d) = eqb-false _ _ hb (sym e ∙ ap g d)
    go later false hb (no d) = later (simp hb at h) (omega arith)

-- each above the latest before it: strictly rising
pub rising : (g : ℕ → ℕ) (n : ℕ) → ((i : ℕ) → i < n → latest (recent g i) < g i) → (i j : ℕ) → i < j → j < n
    → g i < g j
rising g n h i zero hij hj = absurd (omega arith)
rising g n h i (suc j) hij hj = go (λ q. rising g n h i j q (omega arith)) (ℕ_discrete i j)
  where
    next : g j < g (suc j)
    next = h (suc j) hj

    go : (i < j → g i < g j) → Dec (i ≡ j) → g i < g (suc j)
    go before (yes d) = rw d next
    go before (no d) = let a : g i < g j = before (omega arith) in let b = next in omega arith

-- each the latest of fewer than so many with its port: at most so many with one port
pub times_within : (g : ℕ → ℕ) (most n : ℕ) → ((i : ℕ) → i < n → times (g i) (recent g i) < most) → (p : ℕ)
    → times p (recent g n) ≤ most
times_within g most zero h p = omega arith
times_within g most (suc n) h p = go (times_within g most n (λ i l. h i (omega arith)) p) (eqb p (g n)) refl
  where
    go : times p (recent g n) ≤ most → (b : Bool) → eqb p (g n) ≡ b
        → pick b (times p (recent g n) + 1) (times p (recent g n)) ≤ most
    go before true hb = rw (eqb-true p (g n) hb) (let a : times (g n) (recent g n) < most = h n (omega arith) in omega arith)
    go before false hb = before

-- ---- numbers

-- the record that a number says has the port
pub number_has : (g : ℕ → ℕ) (n p i : ℕ) → number (recent g n) p ≡ suc i → (i < n) × (g i ≡ p)
number_has g zero p i h = absurd (omega arith)
number_has g (suc n) p i h = go (number_has g n p i) (eqb p (g n)) refl
  where
    go : (number (recent g n) p ≡ suc i → (i < n) × (g i ≡ p)) → (b : Bool) → eqb p (g n) ≡ b → (i < suc n) × (g i ≡ p)
    go before true hb =
        let e : suc (length (recent g n)) ≡ suc i = simp hb at h in
        let z : i ≡ n = omega (arith, recent_long g n) in
        (omega arith, ap g z ∙ sym (eqb-true _ _ hb))
    go before false hb =
        let x = before (simp hb at h) in
        (omega (arith, x.0), x.1)

-- and no record has a port without one
pub number_none : (g : ℕ → ℕ) (n p : ℕ) → number (recent g n) p ≡ 0 → (i : ℕ) → i < n → g i ≡ p → ⊥
number_none g n p h = none_has g n p (not-true (elem p (recent g n)) (elem_number p (recent g n) ∙ eq-eqb _ 0 h))

-- where the ports are different, a record's port has its number
pub number_is : (g : ℕ → ℕ) (n : ℕ) → ((i j : ℕ) → i < j → j < n → g i ≡ g j → ⊥) → (i : ℕ) → i < n
    → number (recent g n) (g i) ≡ suc i
number_is g n d i l = go (number (recent g n) (g i)) refl
  where
    go : (m : ℕ) → number (recent g n) (g i) ≡ m → m ≡ suc i
    go zero e = absurd (number_none g n (g i) e i l refl)
    go (suc j) e =
        let h = number_has g n (g i) j e in
        let below : i < j → ⊥ = λ q. d i j q h.0 (sym h.1) in
        let above : j < i → ⊥ = λ q. d j i q l h.1 in
        omega arith
