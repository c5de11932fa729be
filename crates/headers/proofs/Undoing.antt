-- Undoing a rewrite is exact, for any number of words. Assumes nothing.
use mathlib.Core.Bool.{Bool, true, false, not, ◌&&◌, ◌||◌, cond, true≢false}
use mathlib.Core.Logic.{◌↔◌}
use mathlib.Core.Option.{some, none}
use mathlib.Core.Path.{◌≡◌, refl, sym, ap, ap₂, ◌∙◌, subst}
use Prim.Native.Nat.{ℕ, ◌*◌}
use native.Mathlib.Omega.{arith}
use Rattle.headers.specs.Bits.{Words, bit_at}
use Rattle.headers.specs.Sets.{Header, Set, Rewrite, contains, WellFormed, overlaps, among, rewritten, writes, widened, undone, no_rewrite}
use Rattle.headers.proofs.Booleans.{◌⇒◌, ◌==◌, refuted, same_true, implied, always}
use Rattle.headers.proofs.Positions.{every_at, every_of, every_same}
use Rattle.headers.proofs.Members.{contains_bits, value_inside, well_formed, outside_bit, outside_fits}
use Rattle.headers.proofs.Members.{overwritten_none, rewritten_bit_lem, empty_exactly, no_bits}
use Rattle.headers.proofs.Intersection.{overlaps_bits}

module _ (n : ℕ) (r : Rewrite) (t : Set) (m : Words n r.mask) where
  module _ (c : Words n t.care) where
    -- what rewrites into t agrees with t where t cares for a masked bit
    rewrites_overlap : (h : Header) → contains n t (rewritten n r h) ≡ true → overlaps n t (writes r) ≡ true
    rewrites_overlap h e = overlaps_bits n t (writes r) c ∙ every_of (n * 32) _ λ i l.
        implied _ _
        (always (λ h m x c v. (c ⇒ (h && not m || x && m) == v) ⇒ (c && m ⇒ v == x)) tt
        (bit_at h i) (bit_at r.mask i) (bit_at r.value i) (bit_at t.care i) (bit_at t.value i))
        (ap (λ (x : Bool). bit_at t.care i ⇒ x == bit_at t.value i) (sym (rewritten_bit_lem n r m h i l))
        ∙ every_at (n * 32) _ (sym (contains_bits n t c (rewritten n r h)) ∙ e) i l)

    widened_exact : overlaps n t (writes r) ≡ true → (h : Header) → contains n (widened n r.mask t) h ≡ contains n t
        (rewritten n r h)
    widened_exact o h =
        contains_bits n (widened n r.mask t) (outside_fits n r.mask t.care c) h
        ∙ every_same (n * 32) _ _ (λ i l.
        ap₂ (λ (x y : Bool). x ⇒ bit_at h i == y) (outside_bit n r.mask t.care m i l) (outside_bit n r.mask t.value m i l)
        ∙ same_true _ _ (implied _ _
        (always (λ h m x c v. (c && m ⇒ v == x) ⇒ (c && not m ⇒ h == (v && not m)) == (c ⇒ (h && not m || x && m) == v)) tt
        (bit_at h i) (bit_at r.mask i) (bit_at r.value i) (bit_at t.care i) (bit_at t.value i))
        (every_at (n * 32) _ (sym (overlaps_bits n t (writes r) c) ∙ o) i l))
        ∙ ap (λ (x : Bool). bit_at t.care i ⇒ x == bit_at t.value i) (sym (rewritten_bit_lem n r m h i l)))
        ∙ sym (contains_bits n t c (rewritten n r h))

    -- a header is in the undone set exactly if its rewritten header is in the set
    pub undone_exact : (h : Header) → among n (undone n r t) h ≡ contains n t (rewritten n r h)
    unfolding undone
    undone_exact h = go (overlaps n t (writes r)) refl
      where
        go : (o : Bool) → overlaps n t (writes r) ≡ o → among n (cond o (some (widened n r.mask t)) none) h ≡ contains n t
            (rewritten n r h)
        go true e = widened_exact e h
        go false e = sym (refuted _ λ p. true≢false (sym (rewrites_overlap h p) ∙ e))

  pub undone_well_formed : WellFormed n t → (s : Set) → undone n r t ≡ some s → WellFormed n s
  unfolding undone
  undone_well_formed wt s e = go (overlaps n t (writes r)) e
    where
      widened_well_formed : WellFormed n (widened n r.mask t)
      widened_well_formed = well_formed n (widened n r.mask t)
          (outside_fits n r.mask t.care wt.care) (outside_fits n r.mask t.value wt.value) λ i l.
          ap₂ ◌⇒◌ (outside_bit n r.mask t.value m i l) (outside_bit n r.mask t.care m i l)
          ∙ implied _ _
          (always (λ v c m x y. (v ⇒ c) ⇒ (v && not m ⇒ c && not m)) tt (bit_at t.value i) (bit_at t.care i) (bit_at r.mask i) true
          true)
          (value_inside n t wt i l)

      go : (o : Bool) → cond o (some (widened n r.mask t)) none ≡ some s → WellFormed n s
      go true e = let d : widened n r.mask t ≡ s = cc in subst (WellFormed n) d widened_well_formed
      go false e = let z : ◌≡◌ {A = ℕ} 0 1 = cc in absurd (omega arith)

  -- it is empty exactly if no header's rewrite is in the set
  pub undone_empty : WellFormed n t
      → (undone n r t ≡ none) ↔ ((h : Header) → Words n h → contains n t (rewritten n r h) ≡ false)
  undone_empty wt =
      empty_exactly n (undone n r t) (λ h. contains n t (rewritten n r h)) (λ s e. (undone_well_formed wt s e).care)
      (λ h w. undone_exact wt.care h)

-- the rewrite that masks no bit leaves every header as it is
pub no_rewrite_keeps : (n : ℕ) (h : Header) → Words n h → rewritten n (no_rewrite n) h ≡ h
no_rewrite_keeps n h f = overwritten_none n h f _ (no_bits n)
