-- Words of 32 bits that were written are read back as they were. Assumes nothing.
use mathlib.Core.List.{List, [], ◌∷◌, ◌++◌}
use mathlib.Core.Path.{◌≡◌, refl, sym, ap, ◌∙◌}
use Prim.Native.Nat.{ℕ, zero, suc, ◌+◌, ◌*◌, ◌/◌, ◌%◌, ◌^◌, ◌<◌}
use native.Mathlib.Nat.{zero-add}
use native.Mathlib.Omega.{arith}
use lib.ListN.{length}
use lib.Seq.{ext_get_or}
use Rattle.headers.specs.Bits.{Words, word, words}
use Rattle.headers.proofs.Positions.{word_of, words_long}
use Rattle.answer.specs.Answer.{bytes_of}
use Rattle.layout.specs.Words.{word_at, words_from}

-- every word has 32 bits
abbrev pub Fit : List ℕ → Type 0
Fit [] = Unit {0}
Fit (w ∷ ws) = (w < 2 ^ 32) × Fit ws

pub fit_append : (us vs : List ℕ) → Fit us → Fit vs → Fit (us ++ vs)
fit_append [] vs a b = b
fit_append (u ∷ us) vs a b = (a.0, fit_append us vs a.1 b)

pub fit_words : (n : ℕ) (l : List ℕ) → Words n l → Fit l
fit_words n l w = each l (λ k h. w.fits k (omega (arith, w.long)))
  where
    each : (l : List ℕ) → ((k : ℕ) → k < length l → word l k < 2 ^ 32) → Fit l
    each [] fits = tt
    each (a ∷ l) fits = (fits 0 (omega arith), each l (λ k h. fits (suc k) (omega arith)))

-- a list is its words
pub words_read : (n : ℕ) (f : ℕ → ℕ) (l : List ℕ) → length l ≡ n → ((w : ℕ) → w < n → f w ≡ word l w)
    → words n f ≡ l
words_read n f l long same =
    ext_get_or 0 (words n f) l (words_long n f ∙ sym long)
    (λ w h. let m : w < n = omega (arith, words_long n f) in word_of n f w m ∙ same w m)

-- ---- written and read back

-- a word is the sum of its bytes
bytes_sum : (w a b c d x y : ℕ) → w ≡ a + x * 256 → x ≡ b + y * 256 → y ≡ c + d * 256
    → a + b * 2 ^ 8 + c * 2 ^ 16 + d * 2 ^ 24 ≡ w
bytes_sum w a b c d x y e₁ e₂ e₃ = omega arith

four_bytes : (w : ℕ) → w < 2 ^ 32
    → w % 256 % 256 + w / 256 % 256 % 256 * 2 ^ 8 + w / 65536 % 256 % 256 * 2 ^ 16 + w / 16777216 % 256 % 256 * 2 ^ 24 ≡ w
four_bytes w l =
    bytes_sum w (w % 256 % 256) (w / 256 % 256 % 256) (w / 65536 % 256 % 256) (w / 16777216 % 256 % 256) (w / 256) (w / 65536)
    (omega arith) (omega arith) (omega arith)

pub word_back : (ws rest : List ℕ) → Fit ws → (k : ℕ) → k < length ws → word_at (bytes_of ws ++ rest) k ≡ word ws k
unfolding word_at bytes_of
word_back [] rest fit k l = absurd (omega arith)
word_back (w ∷ ws) rest fit zero l = four_bytes w fit.0
word_back (w ∷ ws) rest fit (suc k) l =
    let a : suc k * 4 + 1 ≡ suc (suc (suc (suc (k * 4 + 1)))) = omega arith in
    let b : suc k * 4 + 2 ≡ suc (suc (suc (suc (k * 4 + 2)))) = omega arith in
    let c : suc k * 4 + 3 ≡ suc (suc (suc (suc (k * 4 + 3)))) = omega arith in
    let d : suc k * 4 ≡ suc (suc (suc (suc (k * 4)))) = omega arith in
    rw (a, b, c, d) (word_back ws rest fit.1 k (omega arith))

pub words_back : (ws rest : List ℕ) → Fit ws → words_from (length ws) (bytes_of ws ++ rest) 0 ≡ ws
words_back ws rest fit =
    words_read (length ws) _ ws refl (λ w l. ap (word_at (bytes_of ws ++ rest)) (zero-add w) ∙ word_back ws rest fit w l)
