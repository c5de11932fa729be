-- Chains of entries through an index: by port the first entry with it, by entry the next one with its port. Assumes nothing.
use Rattle.std.specs.Prelude.{Bool, cond, List, ◌≡◌, ℕ, zero, suc, ◌+◌, ◌-◌, ◌≤◌, ◌<◌, eqb, get_or}

-- what stands for 'no entry': entries are fewer than 512
abbrev pub no_entry : ℕ
no_entry = 512

-- the first of the k numbers from j on that passes the test
unfoldable pub first_of : (ℕ → Bool) → ℕ → ℕ → ℕ
first_of t zero j = no_entry
first_of t (suc k) j = cond (t j) j (first_of t k (suc j))

-- the first of n entries, from entry j on, that has the port p
unfoldable pub next_with : (ℕ → ℕ) → ℕ → ℕ → ℕ → ℕ
next_with port_of n p j = first_of (λ e. eqb (port_of e) p) (n - j) j

-- Cells `first`, `first` + 1, .. hold by port the first entry from entry `from` on with that port, and cells `next`, `next` + 1, .. by
-- entry, from `from` on, the next entry with the same port.
pub record Chain (n : ℕ) (port_of : ℕ → ℕ) (first next from : ℕ) (cells : List ℕ) : Type 0 where
  pub heads : (p : ℕ) → p < 4096 → get_or cells (first + p) 0 ≡ next_with port_of n p from
  pub links : (e : ℕ) → from ≤ e → e < n → get_or cells (next + e) 0 ≡ next_with port_of n (port_of e) (suc e)
