-- The entries that may take a header, as one pass over them finds them: one of the highest so far, and whether it has a rival.
use Rattle.std.specs.Prelude.{Bool, true, false, ◌&&◌, ◌≡◌, ℕ, ◌≤◌, ◌<◌, eqb}
use Rattle.headers.specs.Sets.{Header}
use Rattle.forwarding.specs.Fabric.{Fabric, in_port_of, priority_of, holds}

module _ (f : Fabric) (x : ℕ) (h : Header) where
  -- entry e stands at in-port x and its match holds the header
  abbrev pub candidate : ℕ → Bool
  candidate e = eqb x (in_port_of f e) && holds f e h

  -- another candidate below i with the priority of b
  pub record Rival (i b : ℕ) : Type 0 where
    pub number : ℕ
    pub low : number < i
    pub other : ¬ (number ≡ b)
    pub is_candidate : candidate number ≡ true
    pub equal : priority_of f number ≡ priority_of f b

  -- b is one of the highest candidates below i, the number of entries where there is none; t says whether it has a rival
  pub record BestSoFar (i b : ℕ) (t : Bool) : Type 0 where
    pub nothing : ¬ (b < f.entries) → (j : ℕ) → j < i → candidate j ≡ false
    pub below : b < f.entries → b < i
    pub is_candidate : b < f.entries → candidate b ≡ true
    pub highest : b < f.entries → (j : ℕ) → j < i → candidate j ≡ true → priority_of f j ≤ priority_of f b
    pub alone : b < f.entries → t ≡ false → (j : ℕ) → j < i → candidate j ≡ true
        → priority_of f j ≡ priority_of f b → j ≡ b
    pub rival : b < f.entries → t ≡ true → Rival i b
