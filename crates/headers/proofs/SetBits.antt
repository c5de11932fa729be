-- The set bits of a list of words, from first to last: the first of them, and what is left without it. Assumes nothing.
use mathlib.Core.Bool.{Bool, true, false, not, cond, false≢true}
use mathlib.Core.List.{List, [], ◌∷◌}
use mathlib.Core.Path.{◌≡◌, refl, sym, ap, ◌∙◌}
use Prim.Native.Nat.{ℕ, zero, suc, ◌+◌, ◌-◌, ◌*◌, ◌/◌, ◌%◌, ◌^◌, ◌≤◌, ◌<◌}
use native.Mathlib.Decide.{ℕ_discrete, dec_lt}
use native.Mathlib.Omega.{arith}
use borrow.Author.Tests.{ne_eqb}
use lib.Count.{count_leading_zeros, leading_top}
use lib.Dec.{eqb}
use Rattle.headers.specs.Bits.{word, words, Words, bit, bit_at, positions, keep_if, those, set_bits}
use Rattle.headers.specs.Bits.{single, first_of, first_set, first_bit, no_bit}
use Rattle.headers.proofs.BitLaws.{bit_top, bit_high, bit_zero}
use Rattle.headers.proofs.Positions.{every_at, every_of, words_same, zero_bits_lem, single_fits}

-- ---- those of some positions that pass a test

-- the first one passes, and stands in its place
pub record First (t : ℕ → Bool) (k s i : ℕ) : Type 0 where
  pub low : s ≤ i
  pub high : i < s + k
  pub passes : t i ≡ true

pub first_of_lem : (t : ℕ → Bool) (k s i : ℕ) (later : List ℕ) → those t (positions k s) ≡ i ∷ later → First t k s i
unfolding those positions
first_of_lem t zero s i later e = let z : ◌≡◌ {A = ℕ} 0 1 = cc in absurd (omega arith)
first_of_lem t (suc k) s i later e = go (t s) refl e (first_of_lem t k (suc s) i later)
  where
    go : (b : Bool) → t s ≡ b → keep_if b s (those t (positions k (suc s))) ≡ i ∷ later
        → (those t (positions k (suc s)) ≡ i ∷ later → First t k (suc s) i) → First t (suc k) s i
    go true d e ih = let z : s ≡ i = cc in record { low = omega arith; high = omega arith; passes = ap t (sym z) ∙ d }
    go false d e ih = let f = ih e in record { low = omega (arith, f.low); high = omega (arith, f.high); passes = f.passes }

pub those_same : (t u : ℕ → Bool) (k s : ℕ) → ((i : ℕ) → s ≤ i → i < s + k → t i ≡ u i)
    → those t (positions k s) ≡ those u (positions k s)
unfolding those positions
those_same t u zero s h = refl
those_same t u (suc k) s h =
    ap (λ (b : Bool). keep_if b s (those t (positions k (suc s)))) (h s (omega arith) (omega arith))
    ∙ ap (keep_if (u s) s) (those_same t u k (suc s) (λ i l m. h i (omega arith) (omega arith)))

-- without the first one, the later ones are left
pub those_later : (t u : ℕ → Bool) (k s i : ℕ) (later : List ℕ)
    → ((j : ℕ) → s ≤ j → j < s + k → (i ≡ j → ⊥) → t j ≡ u j) → u i ≡ false
    → those t (positions k s) ≡ i ∷ later → those u (positions k s) ≡ later
unfolding those positions
those_later t u zero s i later h z e = let y : ◌≡◌ {A = ℕ} 0 1 = cc in absurd (omega arith)
those_later t u (suc k) s i later h z e = go (t s) refl e (those_later t u k (suc s) i later (λ j l m. h j (omega arith) (omega arith)) z)
  where
    go : (b : Bool) → t s ≡ b → keep_if b s (those t (positions k (suc s))) ≡ i ∷ later
        → (those t (positions k (suc s)) ≡ i ∷ later → those u (positions k (suc s)) ≡ later)
        → keep_if (u s) s (those u (positions k (suc s))) ≡ later
    go true d e ih =
        let here : s ≡ i = cc in
        let rest : those t (positions k (suc s)) ≡ later = cc in
        ap (λ (b : Bool). keep_if b s (those u (positions k (suc s)))) (ap u here ∙ z)
        ∙ those_same u t k (suc s) (λ j l m. sym (h j (omega arith) (omega arith) (λ q. omega arith)))
        ∙ rest
    go false d e ih =
        let f = first_of_lem t k (suc s) i later e in
        ap (λ (b : Bool). keep_if b s (those u (positions k (suc s))))
        (sym (h s (omega arith) (omega arith) (λ q. let l : suc s ≤ i = f.low in omega arith)) ∙ d)
        ∙ ih e

pub those_none : (t : ℕ → Bool) (k s : ℕ) → ((i : ℕ) → s ≤ i → i < s + k → t i ≡ false)
    → those t (positions k s) ≡ []
unfolding those positions
those_none t zero s h = refl
those_none t (suc k) s h =
    ap (λ (b : Bool). keep_if b s (those t (positions k (suc s)))) (h s (omega arith) (omega arith))
    ∙ those_none t k (suc s) (λ i l m. h i (omega arith) (omega arith))

pub none_passes : (t : ℕ → Bool) (k s : ℕ) → those t (positions k s) ≡ [] → (i : ℕ) → s ≤ i → i < s + k
    → t i ≡ false
unfolding those positions
none_passes t zero s e i l m = absurd (omega arith)
none_passes t (suc k) s e i l m = go (t s) refl e (none_passes t k (suc s))
  where
    go : (b : Bool) → t s ≡ b → keep_if b s (those t (positions k (suc s))) ≡ []
        → (those t (positions k (suc s)) ≡ [] → (i : ℕ) → suc s ≤ i → i < suc s + k → t i ≡ false) → t i ≡ false
    go true d e ih = let z : ◌≡◌ {A = ℕ} 0 1 = cc in absurd (omega arith)
    go false d e ih = at_first (ℕ_discrete i s)
      where
        at_first : Dec (i ≡ s) → t i ≡ false
        at_first (yes q) = ap t q ∙ d
        at_first (no q) = ih e i (omega arith) (omega arith)

first_is : (d : ℕ) (t : ℕ → Bool) (k s i : ℕ) → s ≤ i → i < s + k → t i ≡ true → ((j : ℕ) → j < i → t j ≡ false)
    → first_of d (those t (positions k s)) ≡ i
unfolding those positions
first_is d t zero s i l m e h = absurd (omega arith)
first_is d t (suc k) s i l m e h = go (ℕ_discrete s i) (first_is d t k (suc s) i)
  where
    go : Dec (s ≡ i) → (suc s ≤ i → i < suc s + k → t i ≡ true → ((j : ℕ) → j < i → t j ≡ false)
        → first_of d (those t (positions k (suc s))) ≡ i)
        → first_of d (keep_if (t s) s (those t (positions k (suc s)))) ≡ i
    go (yes q) ih = ap (λ (b : Bool). first_of d (keep_if b s (those t (positions k (suc s))))) (ap t q ∙ e) ∙ q
    go (no q) ih =
        ap (λ (b : Bool). first_of d (keep_if b s (those t (positions k (suc s))))) (h s (omega arith))
        ∙ ih (omega arith) (omega arith) e h

-- ---- the first bit that is set

-- no word has a bit set exactly if there is no set bit
pub no_bit_none : (n : ℕ) (l : List ℕ) → Words n l → no_bit n l ≡ true → set_bits n l ≡ []
unfolding set_bits bit_at
no_bit_none n l w e = those_none _ (n * 32) 0 λ i p m. unset _
    (every_at (n * 32) _ (sym (zero_bits_lem n (word l) w.fits) ∙ e) i (omega arith))
  where
    unset : (b : Bool) → not b ≡ true → b ≡ false
    unset true e = absurd (false≢true e)
    unset false e = refl

pub none_no_bit : (n : ℕ) (l : List ℕ) → Words n l → set_bits n l ≡ [] → no_bit n l ≡ true
unfolding set_bits bit_at
none_no_bit n l w e =
    zero_bits_lem n (word l) w.fits ∙ every_of (n * 32) _ (λ i m. ap not (none_passes _ (n * 32) 0 e i (omega arith) (omega arith)))

-- the highest bit of a word: its place, that it is set, and that none above it is
pub record TopBit (x : ℕ) : Type 0 where
  pub place : ℕ
  pub low : place < 32
  pub is : count_leading_zeros 32 x ≡ 31 - place
  pub is_set : bit x place ≡ true
  pub above : (k : ℕ) → place < k → bit x k ≡ false

pub top_bit : (x : ℕ) → 0 < x → x < 2 ^ 32 → TopBit x
top_bit x p h =
    let t = leading_top 32 x p h in
    record {
      place = t.0;
      low = omega (arith, t.1);
      is = omega (arith, t.1);
      is_set = bit_top x t.0 t.2 t.3;
      above = λ k l. bit_high (suc t.0) k t.3 l;
    }

-- in the first word that is not 0 the first set bit is its highest
pub first_set_in : (n : ℕ) (l : List ℕ) (w : ℕ) → w < n → ((v : ℕ) → v < w → word l v ≡ 0) → 0 < word l w
    → word l w < 2 ^ 32
    → first_set n l ≡ w * 32 + count_leading_zeros 32 (word l w)
unfolding first_set set_bits bit_at
first_set_in n l w inside zeros p h =
    first_is (n * 32) _ (n * 32) 0 i (omega (arith, lo)) (omega (arith, lo)) here before
    ∙ (let e : i ≡ w * 32 + count_leading_zeros 32 (word l w) = omega (arith, lo, t.is) in e)
  where
    t : TopBit (word l w)
    t = top_bit (word l w) p h

    j : ℕ
    j = t.place

    lo : j < 32
    lo = t.low

    i : ℕ
    i = w * 32 + (31 - j)

    here : bit (word l (i / 32)) (31 - i % 32) ≡ true
    here =
        let a : i / 32 ≡ w = omega (arith, lo) in
        let b : 31 - i % 32 ≡ j = omega (arith, lo) in
        rw (a, b) t.is_set

    before : (k : ℕ) → k < i → bit (word l (k / 32)) (31 - k % 32) ≡ false
    before k m = go (dec_lt (k / 32) w)
      where
        go : Dec (k / 32 < w) → bit (word l (k / 32)) (31 - k % 32) ≡ false
        go (yes q) = ap (λ (x : ℕ). bit x (31 - k % 32)) (zeros (k / 32) q) ∙ bit_zero (31 - k % 32)
        go (no q) =
            let a : k / 32 ≡ w = omega (arith, lo) in
            rw a (t.above (31 - k % 32) (omega (arith, lo)))

-- ---- the first bit alone

pub first_bit_fits : (n : ℕ) (l : List ℕ) → Words n (first_bit n l)
unfolding first_bit
first_bit_fits n l = single_fits n (first_set n l)

-- no bit of n words is at the position past them
single_past : (n : ℕ) → single n (n * 32) ≡ words n (λ w. 0)
unfolding single
single_past n = words_same n _ _ λ w l. rw (ne_eqb w (n * 32 / 32) (λ e. omega arith))

-- where no bit is set there is no first one
pub first_bit_none : (n : ℕ) (l : List ℕ) → Words n l → no_bit n l ≡ true → first_bit n l ≡ words n (λ w. 0)
unfolding first_bit first_set
first_bit_none n l w e = ap (λ (k : List ℕ). single n (first_of (n * 32) k)) (no_bit_none n l w e) ∙ single_past n

-- else it is the highest bit of the first word that is not 0
pub first_bit_in : (n : ℕ) (l : List ℕ) (w : ℕ) → w < n → ((v : ℕ) → v < w → word l v ≡ 0) → 0 < word l w
    → word l w < 2 ^ 32 → first_bit n l ≡ words n (λ v. cond (eqb v w) (2 ^ (31 - count_leading_zeros 32 (word l w))) 0)
unfolding first_bit single
first_bit_in n l w inside zeros p h =
    let t = top_bit (word l w) p h in
    let i = first_set_in n l w inside zeros p h in
    let a : first_set n l / 32 ≡ w = omega (arith, t.is) in
    let b : first_set n l % 32 ≡ count_leading_zeros 32 (word l w) = omega (arith, t.is) in
    simp (a, b)

-- ---- from first to last

-- each is above s, and they rise
unfoldable pub RisingFrom : ℕ → List ℕ → Type 0
RisingFrom s [] = Unit {0}
RisingFrom s (i ∷ l) = (s ≤ i) × RisingFrom (suc i) l

rising_later : (s t : ℕ) (l : List ℕ) → s ≤ t → RisingFrom t l → RisingFrom s l
unfolding RisingFrom
rising_later s t [] l r = tt
rising_later s t (i ∷ k) l r = (let a = r.0 in omega arith, r.1)

those_rising : (t : ℕ → Bool) (k s : ℕ) → RisingFrom s (those t (positions k s))
unfolding RisingFrom those positions
those_rising t zero s = tt
those_rising t (suc k) s = go (t s) (those_rising t k (suc s))
  where
    go : (b : Bool) → RisingFrom (suc s) (those t (positions k (suc s))) → RisingFrom s (keep_if b s (those t (positions k (suc s))))
    go true r = (omega arith, r)
    go false r = rising_later s (suc s) (those t (positions k (suc s))) (omega arith) r

-- the set bits are listed from first to last, so carving makes its parts in document 01's order
pub set_bits_rising : (n : ℕ) (l : List ℕ) → RisingFrom 0 (set_bits n l)
unfolding set_bits
set_bits_rising n l = those_rising (bit_at l) (n * 32) 0
