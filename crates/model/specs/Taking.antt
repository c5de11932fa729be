-- What the search for the entries that may take a header promises.
use Rattle.std.specs.Prelude.{Bool, true, false, [], ◌∷◌, ◌≡◌, ℕ, ◌+◌, ◌<◌}
use Rattle.headers.specs.Sets.{Header}
use Rattle.forwarding.specs.Fabric.{Fabric}
use Rattle.forwarding.specs.Run.{takers}
use Rattle.forwarding.specs.Choices as Choices
use Rattle.forwarding.specs.Best.{BestSoFar}
use Rattle.model.specs.declared.Takers.{Takers}
use Rattle.model.specs.declared.Takers.TheVariants.{Nobody, One, Several}

-- r has the one entry that may take h at in-port x, or says that several may, or that none does
abbrev pub Takes : Fabric → ℕ → Header → Takers → Type 0
Takes f x h Nobody = takers f x h ≡ []
Takes f x h (One e) = (e < f.entries) × (takers f x h ≡ e ∷ [])
Takes f x h (Several e) = (e < f.entries) × Choices.Several (takers f x h)

-- the entry that is named is one of n
abbrev pub AmongEntries : ℕ → Takers → Type 0
AmongEntries n Nobody = Unit {0}
AmongEntries n (One e) = e < n
AmongEntries n (Several e) = e < n

-- as the best so far of n entries: one of them, the number of entries standing for 'none', and whether another of its priority matches
abbrev pub best_entry : ℕ → Takers → ℕ
best_entry n Nobody = n
best_entry n (One e) = e
best_entry n (Several e) = e

abbrev pub is_tied : Takers → Bool
is_tied Nobody = false
is_tied (One e) = false
is_tied (Several e) = true

-- b is the best of the entries before i
abbrev pub IsBest : Fabric → ℕ → Header → ℕ → Takers → Type 0
IsBest f x h i b = BestSoFar f x h i (best_entry f.entries b) (is_tied b)

-- if b is the best of the entries before i, r is the best with entry i
pub record Better (f : Fabric) (x : ℕ) (h : Header) (i : ℕ) (b r : Takers) : Type 0 where
  pub best_then : IsBest f x h i b → IsBest f x h (i + 1) r
  pub within : AmongEntries f.entries r
