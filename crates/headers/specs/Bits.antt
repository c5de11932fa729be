-- Words of 32 bits, lists of them, and their bits in document 01's order.
-- Everything is over lists of n words, for any n; document 01's headers have four. Assumes nothing.
use Rattle.std.specs.Prelude.{Bool, true, false, ◌&&◌, cond, List, [], ◌∷◌, ℕ, zero, suc, ◌-◌, ◌*◌, ◌/◌, ◌%◌}
use Rattle.std.specs.Prelude.{◌^◌, ◌<◌, ◌≡◌, eqb, length, get_or}

-- word w of a list; 0 past its end
abbrev pub word : List ℕ → ℕ → ℕ
word l w = get_or l w 0

-- the list of the n words f 0, f 1, ..
abbrev pub words : ℕ → (ℕ → ℕ) → List ℕ
words zero f = []
words (suc n) f = f 0 ∷ words n (λ w. f (suc w))

-- f holds at 0, 1, .., n - 1
abbrev pub every : ℕ → (ℕ → Bool) → Bool
every zero f = true
every (suc n) f = every n f && f n

-- a header over n words, or a mask: n words of 32 bits
pub record Words (n : ℕ) (l : List ℕ) : Type 0 where
  pub long : length l ≡ n
  pub fits : (w : ℕ) → w < n → word l w < 2 ^ 32

-- every bit of a word turned round
abbrev pub complement : ℕ → ℕ
complement x = (2 ^ 32 - 1) - x

-- bit k of a word, counted from the low end
unfoldable pub bit : ℕ → ℕ → Bool
bit x k = eqb (x / 2 ^ k % 2) 1

-- "Bits run from word 0 bit 31 to word 3 bit 0": position i is bit 31 - i % 32 of word i / 32
unfoldable pub bit_at : List ℕ → ℕ → Bool
bit_at l i = bit (word l (i / 32)) (31 - i % 32)

-- the k positions from i on
unfoldable pub positions : ℕ → ℕ → List ℕ
positions zero i = []
positions (suc k) i = i ∷ positions k (suc i)

abbrev pub keep_if : Bool → ℕ → List ℕ → List ℕ
keep_if true i l = i ∷ l
keep_if false i l = l

-- those that pass the test, in their order
unfoldable pub those : (ℕ → Bool) → List ℕ → List ℕ
those t [] = []
those t (i ∷ l) = keep_if (t i) i (those t l)

-- the positions of the bits that are set in n words, from first to last
unfoldable pub set_bits : ℕ → List ℕ → List ℕ
set_bits n l = those (bit_at l) (positions (n * 32) 0)

-- n words with the one bit at position i set
unfoldable pub single : ℕ → ℕ → List ℕ
single n i = words n (λ w. cond (eqb w (i / 32)) (2 ^ (31 - i % 32)) 0)

abbrev pub first_of : ℕ → List ℕ → ℕ
first_of otherwise [] = otherwise
first_of otherwise (i ∷ later) = i

-- the position of the first bit that is set in n words; past their end where none is
unfoldable pub first_set : ℕ → List ℕ → ℕ
first_set n l = first_of (n * 32) (set_bits n l)

-- the first bit that is set in n words, alone; no bit where none is
unfoldable pub first_bit : ℕ → List ℕ → List ℕ
first_bit n l = single n (first_set n l)

-- no word has a bit set
abbrev pub no_bit : ℕ → List ℕ → Bool
no_bit n l = every n (λ w. eqb (word l w) 0)
