-- Tables by port after a store. Assumes nothing.
use mathlib.Core.Bool.{Bool, true, false}
use mathlib.Core.List.{List, [], ◌∷◌}
use mathlib.Core.Path.{◌≡◌, refl, sym, ◌∙◌}
use Prim.Native.Nat.{ℕ, suc, ◌+◌, ◌<◌}
use native.Mathlib.Decide.{ℕ_discrete}
use native.Mathlib.Numerals.{add-one}
use native.Mathlib.Omega.{arith}
use lib.Dec.{eqb}
use lib.ListN.{get_or, set, length-set, replicate, length-replicate, get_or-replicate}
use lib.Seq.{get_or-set_same, get_or-set_other}
use borrow.Author.Tests.{eq-eqb, ne_eqb, eqb-true}
use Rattle.layout.specs.Records.{recent}
use Rattle.questions.specs.Questions.{pick, times}
use Rattle.questions.specs.Tables.{Table, number, Numbers, Counts}
use Rattle.questions.proofs.Lists.{recent_more, recent_long, number_has, number_none}
use Rattle.file.specs.Tables.{Empty}

-- a table of zeros holds what is 0 at every port
pub zeros : (g : ℕ → ℕ) → ((p : ℕ) → g p ≡ 0) → Table g (replicate 4096 0)
zeros g z = record { long = length-replicate {A = ℕ} 4096 0; holds = λ p l. get_or-replicate {A = ℕ} 4096 p 0 0 l ∙ sym (z p) }

pub empty : Empty (replicate 4096 0)
empty = zeros (number []) (λ p. refl)

-- a store at i, where the new function has the value v at i and is the old one elsewhere
stored : (g h : ℕ → ℕ) (t : List ℕ) (i v : ℕ) → i < 4096 → Table g t → ((p : ℕ) → h p ≡ pick (eqb p i) v (g p))
    → Table h (set t i v)
stored g h t i v l T e = record { long = length-set t i v ∙ T.long; holds = λ p q. go p q (ℕ_discrete p i) }
  where
    go : (p : ℕ) → p < 4096 → Dec (p ≡ i) → get_or (set t i v) p 0 ≡ h p
    go p q (yes d) =
        rw d (get_or-set_same t i v 0 (omega (arith, T.long)) ∙ sym (e i ∙ simp (eq-eqb i i refl)))
    go p q (no d) = get_or-set_other t i p v 0 d ∙ T.holds p q ∙ sym (e p ∙ simp (ne_eqb p i d))

-- one more record is numbered at its port
pub numbered : (g : ℕ → ℕ) (n p : ℕ) (t : List ℕ) → p ≡ g n → p < 4096 → Numbers (recent g n) t
    → Numbers (recent g (n + 1)) (set t p (n + 1))
numbered g n p t h l T =
    rw (recent_more g n)
    (stored (number (recent g n)) (number (g n ∷ recent g n)) t p (n + 1) l T
    (λ q. rw (recent_long g n, h, ← add-one n)))

-- one more record is counted at its port
pub counted : (g : ℕ → ℕ) (n p : ℕ) (t : List ℕ) → p ≡ g n → p < 4096 → Counts (recent g n) t
    → Counts (recent g (n + 1)) (set t p (get_or t p 0 + 1))
counted g n p t h l T =
    rw (recent_more g n, T.holds p l)
    (stored (λ q. times q (recent g n)) (λ q. times q (g n ∷ recent g n)) t p (times p (recent g n) + 1) l T
    (λ q. rw (← h) (go q (eqb q p) refl)))
  where
    go : (q : ℕ) (b : Bool) → eqb q p ≡ b
        → pick b (times q (recent g n) + 1) (times q (recent g n)) ≡ pick b (times p (recent g n) + 1) (times q (recent g n))
    go q true e = rw (eqb-true q p e)
    go q false e = refl

-- ---- reading a table of numbers

module _ (g : ℕ → ℕ) (n : ℕ) (t : List ℕ) (T : Numbers (recent g n) t) (p : ℕ) (l : p < 4096) where
  -- a number says a record with the port
  pub found : (i : ℕ) → get_or t p 0 ≡ suc i → (i < n) × (g i ≡ p)
  found i h = number_has g n p i (sym (T.holds p l) ∙ h)

  -- and 0 that there is none
  pub missing : get_or t p 0 ≡ 0 → (i : ℕ) → i < n → g i ≡ p → ⊥
  missing h = number_none g n p (sym (T.holds p l) ∙ h)
