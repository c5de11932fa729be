-- Intersection is exact, for any number of words. Assumes nothing.
use mathlib.Core.Bool.{Bool, true, false, ◌&&◌, ◌||◌, cond, true≢false}
use mathlib.Core.Logic.{◌↔◌}
use mathlib.Core.Option.{some, none}
use mathlib.Core.Path.{◌≡◌, refl, sym, ap, ap₂, ◌∙◌, subst}
use Prim.Native.Nat.{ℕ, ◌*◌, ◌<◌}
use native.Mathlib.Nat.{lt_of_le_of_lt}
use native.Mathlib.Omega.{arith}
use lib.Bits.{bit_and, and_le_l, or_lt}
use Rattle.headers.specs.Bits.{word, every, Words, bit_at}
use Rattle.headers.specs.Sets.{Header, Set, contains, WellFormed, overlaps, joined, intersection, among}
use Rattle.headers.proofs.Booleans.{◌⇒◌, ◌==◌, and_fst, and_snd, refuted, same_true, implied, always}
use Rattle.headers.proofs.BitLaws.{bit_and_lem, bit_or_lem}
use Rattle.headers.proofs.Positions.{at, every_at, every_of, every_same, every_and, words_fit, bit_of_words, same_on_bits}
use Rattle.headers.proofs.Members.{contains_bits, value_inside, well_formed, empty_exactly}

module _ (n : ℕ) (a b : Set) (ca : Words n a.care) where
  pub overlaps_bits : overlaps n a b
      ≡ every (n * 32) (λ i. bit_at a.care i && bit_at b.care i ⇒ bit_at a.value i == bit_at b.value i)
  unfolding bit_at
  overlaps_bits =
      same_on_bits n (λ w. bit_and (word a.care w) (word b.care w)) (word a.value) (word b.value)
      (λ w l. lt_of_le_of_lt (and_le_l (word a.care w) _) (ca.fits w l))
      ∙ every_same (n * 32) _ _ λ i l.
      ap (λ (x : Bool). x ⇒ at (word a.value) i == at (word b.value) i) (bit_and_lem _ _ _)

  -- two sets with a header in common overlap
  pub common_overlaps : Words n b.care → (h : Header) → contains n a h ≡ true → contains n b h ≡ true → overlaps n a b ≡ true
  common_overlaps cb h p q = overlaps_bits ∙ every_of (n * 32) _ λ i l.
      implied _ _ (implied _ _
      (always (λ h c v d w. (c ⇒ h == v) ⇒ (d ⇒ h == w) ⇒ (c && d ⇒ v == w)) tt
      (bit_at h i) (bit_at a.care i) (bit_at a.value i) (bit_at b.care i) (bit_at b.value i))
      (every_at (n * 32) _ (sym (contains_bits n a ca h) ∙ p) i l))
      (every_at (n * 32) _ (sym (contains_bits n b cb h) ∙ q) i l)

module _ (n : ℕ) (a b : Set) (wa : WellFormed n a) (wb : WellFormed n b) where
  care_bit : (i : ℕ) → i < n * 32 → bit_at (joined n a b).care i ≡ (bit_at a.care i || bit_at b.care i)
  unfolding bit_at
  care_bit i l = bit_of_words n _ i l ∙ bit_or_lem _ _ _

  value_bit : (i : ℕ) → i < n * 32 → bit_at (joined n a b).value i ≡ (bit_at a.value i || bit_at b.value i)
  unfolding bit_at
  value_bit i l = bit_of_words n _ i l ∙ bit_or_lem _ _ _

  joined_well_formed : WellFormed n (joined n a b)
  joined_well_formed = well_formed n (joined n a b)
      (words_fit n _ (λ w l. or_lt 32 _ _ (wa.care.fits w l) (wb.care.fits w l)))
      (words_fit n _ (λ w l. or_lt 32 _ _ (wa.value.fits w l) (wb.value.fits w l)))
      λ i l. ap₂ ◌⇒◌ (value_bit i l) (care_bit i l)
      ∙ implied _ _ (implied _ _
      (always (λ c v d w z. (v ⇒ c) ⇒ (w ⇒ d) ⇒ (v || w ⇒ c || d)) tt
      (bit_at a.care i) (bit_at a.value i) (bit_at b.care i) (bit_at b.value i) true)
      (value_inside n a wa i l)) (value_inside n b wb i l)

  joined_exact : overlaps n a b ≡ true → (h : Header) → contains n (joined n a b) h ≡ (contains n a h && contains n b h)
  joined_exact o h =
      contains_bits n (joined n a b) joined_well_formed.care h
      ∙ every_same (n * 32) _ _ (λ i l.
      ap₂ (λ (c v : Bool). c ⇒ bit_at h i == v) (care_bit i l) (value_bit i l)
      ∙ same_true _ _ (implied _ _ (implied _ _ (implied _ _
      (always (λ h c v d w. (v ⇒ c) ⇒ (w ⇒ d) ⇒ (c && d ⇒ v == w) ⇒ (c || d ⇒ h == (v || w)) ==
      ((c ⇒ h == v) && (d ⇒ h == w))) tt
      (bit_at h i) (bit_at a.care i) (bit_at a.value i) (bit_at b.care i) (bit_at b.value i))
      (value_inside n a wa i l)) (value_inside n b wb i l)) (every_at (n * 32) _ (sym (overlaps_bits n a b wa.care) ∙ o) i l)))
      ∙ every_and (n * 32) _ _
      ∙ sym (ap₂ ◌&&◌ (contains_bits n a wa.care h) (contains_bits n b wb.care h))

  -- a header is in the intersection exactly if it is in both
  pub intersection_exact : (h : Header) → among n (intersection n a b) h ≡ (contains n a h && contains n b h)
  unfolding intersection
  intersection_exact h = go (overlaps n a b) refl
    where
      go : (o : Bool) → overlaps n a b ≡ o → among n (cond o (some (joined n a b)) none) h ≡ (contains n a h && contains n b h)
      go true e = joined_exact e h
      go false e = sym (refuted _ λ p.
          true≢false (sym (common_overlaps n a b wa.care wb.care h (and_fst _ _ p) (and_snd (contains n a h) _ p)) ∙ e))

  pub intersection_well_formed : (s : Set) → intersection n a b ≡ some s → WellFormed n s
  unfolding intersection
  intersection_well_formed s e = go (overlaps n a b) e
    where
      go : (o : Bool) → cond o (some (joined n a b)) none ≡ some s → WellFormed n s
      go true e = let d : joined n a b ≡ s = cc in subst (WellFormed n) d joined_well_formed
      go false e = let z : ◌≡◌ {A = ℕ} 0 1 = cc in absurd (omega arith)

  -- it is empty exactly if no header is in both
  pub intersection_empty : (intersection n a b ≡ none) ↔ ((h : Header) → Words n h → (contains n a h && contains n b h) ≡ false)
  intersection_empty =
      empty_exactly n (intersection n a b) (λ h. contains n a h && contains n b h) (λ s e. (intersection_well_formed s e).care)
      (λ h w. intersection_exact h)
