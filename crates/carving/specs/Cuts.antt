-- A set carved by another part by part, as the code has it: the free bits of the first four words in turn, then those of the last four.
use Rattle.std.specs.Prelude.{true, false, List, ◌≡◌, ℕ}
use Rattle.headers.specs.Bits.{no_bit, first_bit}
use Rattle.headers.specs.Carving.{free}
use Rattle.sets.specs.Forms.{set_of}
use Rattle.layout.specs.Records.{half, low_from, high_from}
use Rattle.wide.specs.Forms.{wide_words, wide_of, stored_at}
use Rattle.carving.specs.declared.Cut.{Cut}

-- the free bits of the whole set that is left
abbrev pub free_left : ℕ → List ℕ → ℕ → Cut → List ℕ
free_left w x k c = free wide_words (wide_of c.set) (stored_at w x k)

-- the first of them
abbrev pub bit_of : ℕ → List ℕ → ℕ → Cut → List ℕ
bit_of w x k c = first_bit wide_words (free_left w x k c)

-- the free bits of the first four words or, those done, of the last four; the first of them; where the file has eight words, the last four
-- come next once none is left of the first four
pub record IsCut (w : ℕ) (x : List ℕ) (k : ℕ) (c : Cut) : Type 0 where
  pub free_low : c.high ≡ false → c.free ≡ free half (set_of c.set.low) (low_from w x k)
  pub free_high : c.high ≡ true → c.free ≡ free half (set_of c.set.high) (high_from w x k)
  pub bit_is : c.bit ≡ first_bit half c.free
  pub low_done : c.high ≡ true → no_bit half (free half (set_of c.set.low) (low_from w x k)) ≡ true
  pub narrow : c.high ≡ false → no_bit half c.free ≡ true → w ≡ half
