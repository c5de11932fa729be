-- A set with one more bit fixed: its members, and that it stays well-formed. For any number of words. Assumes nothing.
use mathlib.Core.Bool.{Bool, true, false, not, ◌&&◌, ◌||◌}
use mathlib.Core.List.{List}
use mathlib.Core.Path.{◌≡◌, refl, sym, ap, ap₂, ◌∙◌}
use Prim.Native.Nat.{ℕ, ◌*◌, ◌/◌, ◌<◌}
use native.Mathlib.Omega.{arith}
use borrow.Author.Tests.{eq-eqb, eqb-true}
use lib.Bits.{or_lt}
use lib.Dec.{eqb}
use Rattle.headers.specs.Bits.{word, every, Words, bit_at, single}
use Rattle.headers.specs.Sets.{Header, Set, overwritten, contains, WellFormed}
use Rattle.headers.specs.Carving.{free, fixed, opposite, taking}
use Rattle.headers.proofs.Booleans.{◌⇒◌, ◌==◌, both_ways, same_true, implied, implies, always}
use Rattle.headers.proofs.BitLaws.{bit_or_lem}
use Rattle.headers.proofs.Positions.{at, every_at, every_of, every_same, every_and, words_fit, words_ext}
use Rattle.headers.proofs.Positions.{bit_of_words, complement_at, single_fits, single_bit}
use Rattle.headers.proofs.Members.{contains_bits, value_inside, well_formed}
use Rattle.headers.proofs.Members.{outside_bit, outside_fits, overwritten_bit, overwritten_fits}

-- ---- the bits of what carving works with

pub free_bit : (n : ℕ) (p b : Set) → Words n p.care → (i : ℕ) → i < n * 32
    → bit_at (free n p b) i ≡ (bit_at b.care i && not (bit_at p.care i))
free_bit n p b = outside_bit n p.care b.care

pub free_fits : (n : ℕ) (p b : Set) → Words n b.care → Words n (free n p b)
free_fits n p b = outside_fits n p.care b.care

pub opposite_bit : (n : ℕ) (x : List ℕ) → Words n x → (i : ℕ) → i < n * 32 → bit_at (opposite n x) i ≡ not (bit_at x i)
unfolding bit_at
opposite_bit n x f i l = bit_of_words n _ i l ∙ complement_at (word x) i (f.fits (i / 32) (omega arith))

pub opposite_fits : (n : ℕ) (x : List ℕ) → Words n (opposite n x)
opposite_fits n x = words_fit n _ (λ w l. omega arith)

-- ---- one bit overwritten

one_overwritten : (n i j : ℕ) → j < n * 32 → (x a : List ℕ)
    → bit_at (overwritten n (single n i) x a) j ≡ (bit_at a j && not (eqb i j) || bit_at x j && eqb i j)
one_overwritten n i j l x a =
    overwritten_bit n (single n i) x a (single_fits n i) j l
    ∙ ap (λ (b : Bool). bit_at a j && not b || bit_at x j && b) (single_bit n i j l)

-- ---- one bit fixed

module _ (n : ℕ) (p : Set) (x : List ℕ) (i : ℕ) where
  pub fixed_care : Words n p.care → Words n (fixed n (single n i) x p).care
  fixed_care c = words_fit n _ (λ w l. or_lt 32 _ _ (c.fits w l) ((single_fits n i).fits w l))

  pub fixed_care_bit : (j : ℕ) → j < n * 32 → bit_at (fixed n (single n i) x p).care j ≡ (bit_at p.care j || eqb i j)
  unfolding bit_at
  fixed_care_bit j l =
      bit_of_words n _ j l ∙ bit_or_lem _ _ _ ∙ ap (λ (b : Bool). at (word p.care) j || b) (single_bit n i j l)

  pub fixed_value_bit : (j : ℕ) → j < n * 32
      → bit_at (fixed n (single n i) x p).value j ≡ (bit_at p.value j && not (eqb i j) || bit_at x j && eqb i j)
  fixed_value_bit j l = one_overwritten n i j l x p.value

  pub fixed_well_formed : Words n x → WellFormed n p → WellFormed n (fixed n (single n i) x p)
  fixed_well_formed fx w₀ = well_formed n (fixed n (single n i) x p)
      (fixed_care w₀.care) (overwritten_fits n (single n i) x p.value fx) λ j l.
      ap₂ ◌⇒◌ (fixed_value_bit j l) (fixed_care_bit j l)
      ∙ implied _ _
      (always (λ c v x s z. (v ⇒ c) ⇒ (v && not s || x && s ⇒ c || s)) tt (bit_at p.care j) (bit_at p.value j) (bit_at x j)
      (eqb i j) true)
      (value_inside n p w₀ j l)

  -- a header is in it exactly if it is in p and has x's bit there
  pub fixed_exact : Words n p.care → i < n * 32 → bit_at p.care i ≡ false → (h : Header)
      → contains n (fixed n (single n i) x p) h ≡ (contains n p h && (bit_at h i == bit_at x i))
  fixed_exact c inside free h =
      contains_bits n (fixed n (single n i) x p) (fixed_care c) h
      ∙ every_same (n * 32) _ _ (λ j l.
      ap₂ (λ (a b : Bool). a ⇒ bit_at h j == b) (fixed_care_bit j l) (fixed_value_bit j l)
      ∙ same_true _ _ (implied _ _
      (always (λ h c v x s. (s ⇒ not c) ⇒ (c || s ⇒ h == (v && not s || x && s)) == ((c ⇒ h == v) && (s ⇒ h == x))) tt
      (bit_at h j) (bit_at p.care j) (bit_at p.value j) (bit_at x j) (eqb i j))
      (implies _ _ (λ e. ap (λ (k : ℕ). not (bit_at p.care k)) (sym (eqb-true i j e)) ∙ ap not free))))
      ∙ every_and (n * 32) _ _
      ∙ ap₂ ◌&&◌ (sym (contains_bits n p c h)) here
    where
      here : every (n * 32) (λ j. eqb i j ⇒ bit_at h j == bit_at x j) ≡ (bit_at h i == bit_at x i)
      here = both_ways _ _
          (λ e. implied _ _ (every_at (n * 32) _ e i inside) (eq-eqb i i refl))
          (λ e. every_of (n * 32) _ λ j l. implies _ _ λ d. ap (λ (k : ℕ). bit_at h k == bit_at x k) (sym (eqb-true i j d)) ∙ e)

-- ---- the bits of a mask taken from a set

-- taking a bit that b cares for from b is fixing it at b's value
pub taking_fixed : (n : ℕ) (p b : Set) (i : ℕ) → Words n p.care → Words n b.care → bit_at b.care i ≡ true
    → taking n (single n i) b p ≡ fixed n (single n i) b.value p
taking_fixed n p b i cp cb cares =
    ap (λ (c : List ℕ). record { care = c; value = (taking n (single n i) b p).value })
    (words_ext n _ _ (overwritten_fits n (single n i) b.care p.care cb) (fixed_care n p b.value i cp) λ j l.
    one_overwritten n i j l b.care p.care
    ∙ same_true _ _ (implied _ _
    (always (λ c d s y z. (s ⇒ d) ⇒ (c && not s || d && s) == (c || s)) tt (bit_at p.care j) (bit_at b.care j) (eqb i j) true true)
    (implies _ _ (λ e. ap (bit_at b.care) (sym (eqb-true i j e)) ∙ cares)))
    ∙ sym (fixed_care_bit n p b.value i j l))
