-- Each part of a carving is well-formed. Assumes nothing.
use mathlib.Core.List.Memᴰ
use mathlib.Core.List.{List, [], ◌∷◌, Memᴰ}
use mathlib.Core.Logic.{◌⊎◌, inl, inr}
use mathlib.Core.Path.{◌≡◌, sym, subst}
use Prim.Native.Nat.{ℕ}
use Rattle.headers.specs.Sets.{Set, WellFormed}
use Rattle.headers.specs.Carving.{carve, Each}
use Rattle.headers.proofs.Parts.{carve_well_formed}

pub part_well_formed : (n : ℕ) (p b : Set) → WellFormed n p → WellFormed n b → (s : Set) → Memᴰ s (carve n p b)
    → WellFormed n s
unfolding Each
part_well_formed n p b wp wb s = go (carve n p b) (carve_well_formed n p b wp wb)
  where
    go : (l : List Set) → Each (WellFormed n) l → Memᴰ s l → WellFormed n s
    go [] w m = absurd (Memᴰ.not-nil m)
    go (c ∷ l) w m = at (Memᴰ.cases_cons m) (go l w.1)
      where
        at : (s ≡ c) ⊎ Memᴰ s l → (Memᴰ s l → WellFormed n s) → WellFormed n s
        at (inl e) ih = subst (WellFormed n) (sym e) w.0
        at (inr m) ih = ih m
