-- Carving P by B over n words: document 01, "Carving P by B". Assumes nothing.
use Rattle.std.specs.Prelude.{Bool, true, false, ◌||◌, cond, List, [], ◌∷◌, ℕ, ◌+◌}
use Rattle.headers.specs.Bits.{word, words, complement, set_bits, single}
use Rattle.headers.specs.Sets.{Header, Set, overwritten, outside, either, contains, overlaps}

-- "the bits .. that B cares for and P doesn't"
abbrev pub free : ℕ → Set → Set → List ℕ
free n p b = outside n p.care b.care

-- P caring for the bits of a mask too, with x's values there
abbrev pub fixed : ℕ → List ℕ → List ℕ → Set → Set
fixed n m x p = record { care = either n p.care m; value = overwritten n m x p.value }

-- every word turned round
abbrev pub opposite : ℕ → List ℕ → List ℕ
opposite n x = words n (λ w. complement (word x w))

-- B with every bit of its value turned round
abbrev pub turned : ℕ → Set → Set
turned n b = record { care = b.care; value = opposite n b.value }

-- P with the bits of a mask as in B: where B cares for them, this is `fixed`
abbrev pub taking : ℕ → List ℕ → Set → Set → Set
taking n m b p = record { care = overwritten n m b.care p.care; value = overwritten n m b.value p.value }

-- P with the bit at position i as in B
abbrev pub like : ℕ → Set → Set → ℕ → Set
like n p b i = fixed n (single n i) b.value p

-- P with the bit at position i opposite to B's
abbrev pub unlike : ℕ → Set → Set → ℕ → Set
unlike n p b i = fixed n (single n i) (opposite n b.value) p

-- "one part each: P with the earlier such bits as in B and this one opposite"
unfoldable pub parts_at : ℕ → Set → Set → List ℕ → List Set
parts_at n p b [] = []
parts_at n p b (i ∷ later) = unlike n p b i ∷ parts_at n (like n p b i) b later

-- "over the bits from first to last that B cares for and P doesn't"
unfoldable pub parts : ℕ → Set → Set → List Set
parts n p b = parts_at n p b (set_bits n (free n p b))

-- "if they don't intersect, P alone. Else .. No such bit: no part."
unfoldable pub carve : ℕ → Set → Set → List Set
carve n p b = cond (overlaps n p b) (parts n p b) (p ∷ [])

-- ---- what is said of the parts

-- each of the sets has the property
unfoldable pub Each : (Set → Type 0) → List Set → Type 0
Each P [] = Unit {0}
Each P (s ∷ l) = P s × Each P l

-- some one of the sets holds h
unfoldable pub within : ℕ → List Set → Header → Bool
within n [] h = false
within n (s ∷ l) h = contains n s h || within n l h

abbrev pub one : Bool → ℕ
one true = 1
one false = 0

-- how many of the sets hold h
unfoldable pub holders : ℕ → List Set → Header → ℕ
holders n [] h = 0
holders n (s ∷ l) h = one (contains n s h) + holders n l h
