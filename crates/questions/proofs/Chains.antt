-- A chain `a && b && .. && z` that holds, taken apart: each of its parts holds. Assumes nothing.
use mathlib.Core.Bool.{Bool, true, ◌&&◌}
use mathlib.Core.List.{List, [], ◌∷◌}
use mathlib.Core.Path.{◌≡◌, refl}
use Prim.Native.Nat.{ℕ, zero, suc}
use lib.ListN.{get_or}
use Rattle.headers.proofs.Booleans.{and_fst, and_snd}

abbrev pub chain : Bool → List Bool → Bool
chain a [] = a
chain a (b ∷ bs) = chain (a && b) bs

pub parts : (a : Bool) (bs : List Bool) → chain a bs ≡ true → (i : ℕ) → get_or (a ∷ bs) i true ≡ true
parts a [] h zero = h
parts a [] h (suc i) = refl
parts a (b ∷ bs) h zero = and_fst a b (parts (a && b) bs h 0)
parts a (b ∷ bs) h (suc zero) = and_snd a b (parts (a && b) bs h 0)
parts a (b ∷ bs) h (suc (suc i)) = parts (a && b) bs h (suc i)
