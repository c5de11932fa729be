-- Words of the file and of a part of it: each fits 32 bits, and the words of a part are the file's. Assumes nothing.
use mathlib.Core.Bool.{true}
use mathlib.Core.List.{List}
use mathlib.Core.Path.{◌≡◌, sym, ap, ◌∙◌}
use Prim.Native.Nat.{ℕ, ◌+◌, ◌*◌, ◌^◌, ◌≤◌, ◌<◌}
use native.Mathlib.Nat.{add_assoc}
use native.Mathlib.Omega.{arith}
use lib.Dec.{leb}
use borrow.Author.Tests.{le-leb}
use lib.ListN.{length, get_or, drop, length-take, length-drop}
use lib.Seq.{get_or-take, get_or-drop}
use Rattle.headers.specs.Bits.{Words}
use Rattle.headers.proofs.Positions.{words_fit, words_same}
use Rattle.layout.specs.Words.{word_at, words_in, words_from, bytes_from, port_of, from_of}
use Rattle.layout.specs.Records.{set_from}

pub word_fits : (f : List ℕ) (k : ℕ) → word_at f k < 2 ^ 32
unfolding word_at
word_fits f k = omega arith

pub words_from_fit : (n : ℕ) (f : List ℕ) (k : ℕ) → Words n (words_from n f k)
words_from_fit n f k = words_fit n _ (λ w l. word_fits f (k + w))

-- ---- fields of 12 bits

pub port_range : (w : ℕ) → leb (port_of w) 4095 ≡ true
port_range w = le-leb (port_of w) 4095 (omega arith)

pub from_range : (w : ℕ) → leb (from_of w) 4095 ≡ true
from_range w = le-leb (from_of w) 4095 (omega arith)

-- ---- a part

pub part_long : (n : ℕ) (f : List ℕ) (k : ℕ) → k + n ≤ words_in f → length (bytes_from n f k) ≡ 4 * n
unfolding bytes_from
part_long n f k h = simp (length-take, length-drop) (omega arith)

module _ (n : ℕ) (f : List ℕ) (k : ℕ) where
  part_byte : (j : ℕ) → j < 4 * n → get_or (bytes_from n f k) j 0 ≡ get_or f (4 * k + j) 0
  unfolding bytes_from
  part_byte j h = get_or-take (4 * n) (drop (4 * k) f) j 0 h ∙ get_or-drop (4 * k) f j 0

  part_word_byte : (j m : ℕ) → j < n → m < 4 → get_or (bytes_from n f k) (j * 4 + m) 0 ≡ get_or f ((k + j) * 4 + m) 0
  part_word_byte j m h l =
      let e : 4 * k + (j * 4 + m) ≡ (k + j) * 4 + m = omega arith in
      part_byte (j * 4 + m) (omega arith) ∙ ap (λ (i : ℕ). get_or f i 0) e

  -- word j of a part that begins at word k
  pub part_word : (j : ℕ) → j < n → word_at (bytes_from n f k) j ≡ word_at f (k + j)
  unfolding word_at
  part_word j h =
      let e : 4 * k + j * 4 ≡ (k + j) * 4 = omega arith in
      let z : get_or (bytes_from n f k) (j * 4) 0 ≡ get_or f ((k + j) * 4) 0 = part_byte (j * 4) (omega arith)
      ∙ ap (λ (i : ℕ). get_or f i 0) e in
      rw (z, part_word_byte j 1 h (omega arith), part_word_byte j 2 h (omega arith), part_word_byte j 3 h (omega arith))

-- a run of words of a part, and so a set of it
module _ (n m : ℕ) (f : List ℕ) (k : ℕ) where
  pub part_words : (j : ℕ) → j + m ≤ n → words_from m (bytes_from n f k) j ≡ words_from m f (k + j)
  part_words j l = words_same m _ _ (λ w h. part_word n f k (j + w) (omega arith) ∙ ap (word_at f) (sym (add_assoc k j w)))

  pub part_set : (j : ℕ) → j + m + m ≤ n → set_from m (bytes_from n f k) j ≡ set_from m f (k + j)
  part_set j l = λ i. record {
    care = part_words j (omega arith) i;
    value = (part_words (j + m) l ∙ ap (words_from m f) (sym (add_assoc k j m))) i;
  }
