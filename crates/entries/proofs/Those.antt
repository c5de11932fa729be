-- Of the numbers below n, those from j on that pass a test. Assumes nothing.
use mathlib.Core.Bool.{Bool, true, false}
use mathlib.Core.List.{List, [], ◌∷◌}
use mathlib.Core.Path.{◌≡◌, sym, ap, ◌∙◌}
use Prim.Native.Nat.{ℕ, zero, suc, ◌+◌, ◌-◌, ◌≤◌, ◌<◌}
use native.Mathlib.Decide.{dec_lt}
use native.Mathlib.Omega.{arith}
use Rattle.headers.specs.Bits.{positions, keep_if, those}

module _ (t : ℕ → Bool) (n : ℕ) where
  abbrev pub from : ℕ → List ℕ
  from j = those t (positions (n - j) j)

  from_first : (j : ℕ) → j < n → from j ≡ keep_if (t j) j (from (suc j))
  unfolding those positions
  from_first j l = rw (let k : n - j ≡ suc (n - suc j) = omega arith in k)

  pub from_here : (j : ℕ) → j < n → t j ≡ true → from j ≡ j ∷ from (suc j)
  from_here j l e = from_first j l ∙ ap (λ (b : Bool). keep_if b j (from (suc j))) e

  pub from_end : (j : ℕ) → n ≤ j → from j ≡ []
  unfolding those positions
  from_end j l = rw (let k : n - j ≡ 0 = omega arith in k)

  -- where none between passes, those from j on are those from r on
  pub from_skip : (j r : ℕ) → j ≤ r → ((c : ℕ) → j ≤ c → c < r → c < n → t c ≡ false) → from j ≡ from r
  from_skip j r l h = go (r - j) j (omega arith) h
    where
      go : (k j : ℕ) → j + k ≡ r → ((c : ℕ) → j ≤ c → c < r → c < n → t c ≡ false) → from j ≡ from r
      go zero j z h = ap from (let e : j ≡ r = omega arith in e)
      go (suc k) j z h = by (dec_lt j n) (go k (suc j) (omega arith) (λ c a b. h c (omega arith) b))
        where
          by : Dec (j < n) → from (suc j) ≡ from r → from j ≡ from r
          by (yes m) later =
              from_first j m ∙ ap (λ (b : Bool). keep_if b j (from (suc j))) (h j (omega arith) (omega arith) m) ∙ later
          by (no m) later = from_end j (omega arith) ∙ sym (from_end r (omega arith))
