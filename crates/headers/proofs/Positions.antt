-- From words to positions: a test on every word is a test on every position, and lists of words with the same bits are equal. Assumes
-- nothing.
use mathlib.Core.Bool.{Bool, true, false, not, ◌&&◌, cond, false≢true, and-false, and-true}
use mathlib.Core.List.{List, ◌∷◌}
use mathlib.Core.Path.{◌≡◌, refl, sym, ap, ap₂, ◌∙◌}
use Prim.Native.Nat.{ℕ, zero, suc, ◌+◌, ◌-◌, ◌*◌, ◌/◌, ◌%◌, ◌^◌, ◌<◌}
use native.Mathlib.Decide.{ℕ_discrete, dec_lt}
use native.Mathlib.Omega.{arith}
use borrow.Author.Tests.{eq-eqb, ne_eqb, eqb-true, ltb-true}
use lib.Bits.{bit_and}
use mir.Syntax.{w32}
use mir.Val.{Fits}
use lib.Dec.{eqb, ltb}
use lib.ListN.{length}
use lib.Pow.{pow-lt}
use lib.Seq.{ext_get_or}
use Rattle.headers.specs.Bits.{word, words, every, Words, complement, bit, bit_at, single}
use Rattle.headers.specs.Sets.{same_on}
use Rattle.headers.proofs.Booleans.{◌⇒◌, ◌==◌, and_fst, and_snd, both_ways, same_true, true_same, implies}
use Rattle.headers.proofs.BitLaws.{bit_and_lem, bit_not_lem, bit_ext, bit_zero, bit_single, bit_high}

-- ---- a test on every number below n

pub every_at : (n : ℕ) (f : ℕ → Bool) → every n f ≡ true → (i : ℕ) → i < n → f i ≡ true
every_at zero f e i l = absurd (omega arith)
every_at (suc n) f e i l = go (ℕ_discrete i n) (every_at n f (and_fst _ _ e) i)
  where
    go : Dec (i ≡ n) → (i < n → f i ≡ true) → f i ≡ true
    go (yes d) h = rw d (and_snd (every n f) _ e)
    go (no d) h = h (omega arith)

pub every_of : (n : ℕ) (f : ℕ → Bool) → ((i : ℕ) → i < n → f i ≡ true) → every n f ≡ true
every_of zero f h = refl
every_of (suc n) f h = ap₂ ◌&&◌ (every_of n f (λ i l. h i (omega arith))) (h n (omega arith))

pub every_same : (n : ℕ) (f g : ℕ → Bool) → ((i : ℕ) → i < n → f i ≡ g i) → every n f ≡ every n g
every_same zero f g h = refl
every_same (suc n) f g h = ap₂ ◌&&◌ (every_same n f g (λ i l. h i (omega arith))) (h n (omega arith))

pub every_and : (n : ℕ) (f g : ℕ → Bool) → every n (λ i. f i && g i) ≡ (every n f && every n g)
every_and zero f g = refl
every_and (suc n) f g = ap (λ (b : Bool). b && (f n && g n)) (every_and n f g) ∙ swap (every n f) (every n g) (f n) (g n)
  where
    swap : (a b c d : Bool) → ((a && b) && (c && d)) ≡ ((a && c) && (b && d))
    swap true true c d = refl
    swap true false true d = refl
    swap true false false d = refl
    swap false b c d = refl

-- ---- lists of words

pub word_of : (n : ℕ) (f : ℕ → ℕ) (w : ℕ) → w < n → word (words n f) w ≡ f w
word_of zero f w l = absurd (omega arith)
word_of (suc n) f zero l = refl
word_of (suc n) f (suc w) l = word_of n (λ v. f (suc v)) w (omega arith)

pub words_long : (n : ℕ) (f : ℕ → ℕ) → length (words n f) ≡ n
words_long zero f = refl
words_long (suc n) f = ap suc (words_long n (λ v. f (suc v)))

pub words_fit : (n : ℕ) (f : ℕ → ℕ) → ((w : ℕ) → w < n → f w < 2 ^ 32) → Words n (words n f)
words_fit n f h = record { long = words_long n f; fits = λ w l. rw (word_of n f w l) (h w l) }

pub words_same : (n : ℕ) (f g : ℕ → ℕ) → ((w : ℕ) → w < n → f w ≡ g w) → words n f ≡ words n g
words_same zero f g e = refl
words_same (suc n) f g e =
    ap₂ ◌∷◌ (e 0 (omega arith)) (words_same n (λ w. f (suc w)) (λ w. g (suc w)) (λ w l. e (suc w) (omega arith)))

-- a list of words written out again
pub words_whole : (n : ℕ) (l : List ℕ) → length l ≡ n → words n (word l) ≡ l
words_whole n l e = ext_get_or 0 _ _ (words_long n (word l) ∙ sym e) λ w k. word_of n (word l) w (rw (words_long n (word l)) at k)

pub words_again : (n : ℕ) (l : List ℕ) → Words n l → words n (word l) ≡ l
words_again n l f = words_whole n l f.long

-- an array of the code
pub array_words : (n : ℕ) (l : List ℕ) → length l ≡ n → ((w : ℕ) → Fits w32 (word l w)) → Words n l
array_words n l e f = record { long = e; fits = λ w m. (f w).fits }

-- words that are written out
pub literal_words : (n : ℕ) (l : List ℕ) → length l ≡ n → every n (λ w. ltb (word l w) (2 ^ 32)) ≡ true → Words n l
literal_words n l e f = record { long = e; fits = λ w m. ltb-true _ _ (every_at n _ f w m) }

-- ---- positions

-- the bit at position i of the words f 0, f 1, ..
abbrev pub at : (ℕ → ℕ) → ℕ → Bool
at f i = bit (f (i / 32)) (31 - i % 32)

pub bit_of_words : (n : ℕ) (f : ℕ → ℕ) (i : ℕ) → i < n * 32 → bit_at (words n f) i ≡ at f i
unfolding bit_at
bit_of_words n f i l = ap (λ (x : ℕ). bit x (31 - i % 32)) (word_of n f (i / 32) (omega arith))

pub complement_at : (f : ℕ → ℕ) (i : ℕ) → f (i / 32) < 2 ^ 32 → at (λ w. complement (f w)) i ≡ not (at f i)
complement_at f i h = bit_not_lem 32 (f (i / 32)) (31 - i % 32) h (omega arith)

-- what holds at every position of word w holds at each of its bits
module _ (n w k : ℕ) (inside : w < n) (low : k < 32) where
  position : ℕ
  position = w * 32 + (31 - k)

  pub at_position : (P : ℕ → ℕ → Type 0) → ((i : ℕ) → i < n * 32 → P (i / 32) (31 - i % 32)) → P w k
  unfolding position
  at_position P h =
      let a : position / 32 ≡ w = omega arith in
      let b : 31 - position % 32 ≡ k = omega arith in
      rw (a, b) at (h position (omega arith))

-- two words with the same 32 bits are equal
word_ext : (a b : ℕ) → a < 2 ^ 32 → b < 2 ^ 32 → ((k : ℕ) → k < 32 → bit a k ≡ bit b k) → a ≡ b
word_ext a b ha hb h = bit_ext a b (λ k. go k (dec_lt k 32))
  where
    go : (k : ℕ) → Dec (k < 32) → bit a k ≡ bit b k
    go k (yes l) = h k l
    go k (no l) = bit_high 32 k ha (omega arith) ∙ sym (bit_high 32 k hb (omega arith))

-- two lists of words with the same bits are equal
pub words_ext : (n : ℕ) (a b : List ℕ) → Words n a → Words n b → ((i : ℕ) → i < n * 32 → bit_at a i ≡ bit_at b i)
    → a ≡ b
unfolding bit_at
words_ext n a b wa wb h = ext_get_or 0 a b (wa.long ∙ sym wb.long) λ w l.
    let m : w < n = rw wa.long at l in
    word_ext (word a w) (word b w) (wa.fits w m) (wb.fits w m)
    (λ k q. at_position n w k m q (λ v j. bit (word a v) j ≡ bit (word b v) j) h)

-- ---- tests on words, as tests on positions

pub same_on_bits : (n : ℕ) (m a b : ℕ → ℕ) → ((w : ℕ) → w < n → m w < 2 ^ 32)
    → every n (λ w. same_on (m w) (a w) (b w)) ≡ every (n * 32) (λ i. at m i ⇒ at a i == at b i)
same_on_bits n m a b fits = both_ways _ _
    (λ e. every_of (n * 32) _ λ i l. implies _ _ λ c.
    true_same _ _ (on_mask (at a i) (at b i) c (masked (i / 32) (31 - i % 32) (eqb-true _ _ (every_at n _ e (i / 32) (omega arith))))))
    (λ e. every_of n _ λ w l. eq-eqb _ _ (bit_ext _ _ λ k. bit_and_lem (a w) (m w) k ∙ by w k l e (dec_lt k 32)
    ∙ sym (bit_and_lem (b w) (m w) k)))
  where
    masked : (w k : ℕ) → bit_and (a w) (m w) ≡ bit_and (b w) (m w) → (bit (a w) k && bit (m w) k) ≡ (bit (b w) k && bit (m w) k)
    masked w k e = sym (bit_and_lem (a w) (m w) k) ∙ ap (λ (x : ℕ). bit x k) e ∙ bit_and_lem (b w) (m w) k

    on_mask : (x y : Bool) {c : Bool} → c ≡ true → (x && c) ≡ (y && c) → x ≡ y
    on_mask x y {c} h e = sym (and-true x) ∙ ap (λ (z : Bool). x && z) (sym h) ∙ e ∙ ap (λ (z : Bool). y && z) h ∙ and-true y

    masked_same : (x y c : Bool) → (c ⇒ x == y) ≡ true → (x && c) ≡ (y && c)
    masked_same x y true e = ap (λ (z : Bool). z && true) (same_true x y e)
    masked_same x y false e = and-false x ∙ sym (and-false y)

    by : (w k : ℕ) → w < n → every (n * 32) (λ i. at m i ⇒ at a i == at b i) ≡ true → Dec (k < 32)
        → (bit (a w) k && bit (m w) k) ≡ (bit (b w) k && bit (m w) k)
    by w k l e (yes q) =
        masked_same (bit (a w) k) (bit (b w) k) (bit (m w) k)
        (at_position n w k l q (λ v j. (bit (m v) j ⇒ bit (a v) j == bit (b v) j) ≡ true) (every_at (n * 32) _ e))
    by w k l e (no q) =
        let z : bit (m w) k ≡ false = bit_high 32 k (fits w l) (omega arith) in
        ap (λ (x : Bool). bit (a w) k && x) z ∙ and-false (bit (a w) k)
        ∙ sym (and-false (bit (b w) k)) ∙ ap (λ (x : Bool). bit (b w) k && x) (sym z)

pub zero_bits_lem : (n : ℕ) (f : ℕ → ℕ) → ((w : ℕ) → w < n → f w < 2 ^ 32)
    → every n (λ w. eqb (f w) 0) ≡ every (n * 32) (λ i. not (at f i))
zero_bits_lem n f fits = both_ways _ _
    (λ e. every_of (n * 32) _ λ i l.
    ap not (ap (λ (x : ℕ). bit x (31 - i % 32)) (eqb-true _ _ (every_at n _ e (i / 32) (omega arith))) ∙ bit_zero (31 - i % 32)))
    (λ e. every_of n _ λ w l. eq-eqb _ _ (word_ext (f w) 0 (fits w l) (omega arith) λ k q.
    unset _ (at_position n w k l q (λ v j. not (bit (f v) j) ≡ true) (every_at (n * 32) _ e)) ∙ sym (bit_zero k)))
  where
    unset : (b : Bool) → not b ≡ true → b ≡ false
    unset true e = absurd (false≢true e)
    unset false e = refl

-- ---- the word list with one bit

pub single_fits : (n i : ℕ) → Words n (single n i)
unfolding single
single_fits n i = words_fit n _ λ w l. go (eqb w (i / 32))
  where
    go : (b : Bool) → cond b (2 ^ (31 - i % 32)) 0 < 2 ^ 32
    go true = pow-lt {i = 31 - i % 32} {j = 32} (omega arith)
    go false = omega arith

pub single_bit : (n i j : ℕ) → j < n * 32 → bit_at (single n i) j ≡ eqb i j
unfolding single
single_bit n i j l = bit_of_words n _ j l ∙ go (ℕ_discrete i j) (ℕ_discrete (j / 32) (i / 32))
  where
    go : Dec (i ≡ j) → Dec (j / 32 ≡ i / 32)
        → bit (cond (eqb (j / 32) (i / 32)) (2 ^ (31 - i % 32)) 0) (31 - j % 32) ≡ eqb i j
    go (yes d) (yes e) =
        rw (eq-eqb (j / 32) (i / 32) e, eq-eqb i j d)
        (bit_single (31 - i % 32) (31 - j % 32) ∙ eq-eqb (31 - i % 32) (31 - j % 32) (omega arith))
    go (yes d) (no e) = absurd (e (ap (λ (x : ℕ). x / 32) (sym d)))
    go (no d) (yes e) =
        rw (eq-eqb (j / 32) (i / 32) e, ne_eqb i j d)
        (bit_single (31 - i % 32) (31 - j % 32) ∙ ne_eqb (31 - i % 32) (31 - j % 32) (λ z. d (omega arith)))
    go (no d) (no e) = rw (ne_eqb (j / 32) (i / 32) e, ne_eqb i j d) (bit_zero (31 - j % 32))
