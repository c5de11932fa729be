-- Carving is exact, part by part and as a whole, for any number of words. Assumes nothing.
use mathlib.Core.Bool.{Bool, true, false, not, ◌&&◌, ◌||◌, cond, true≢false, false≢true, or-false}
use mathlib.Core.List.{List, [], ◌∷◌, head?}
use mathlib.Core.Option.{some, none}
use mathlib.Core.Path.{◌≡◌, refl, sym, ap, ap₂, ◌∙◌, subst}
use Prim.Native.Nat.{ℕ, zero, suc, ◌+◌, ◌*◌, ◌<◌}
use native.Mathlib.Decide.{ℕ_discrete}
use native.Mathlib.Omega.{arith}
use borrow.Author.Tests.{eq-eqb, ne_eqb}
use lib.Dec.{eqb}
use Rattle.headers.specs.Bits.{Words, bit_at, positions, keep_if, those, set_bits, single, first_of, first_set, first_bit, no_bit}
use Rattle.headers.specs.Sets.{Header, Set, outside, contains, overlaps}
use Rattle.headers.specs.Carving.{free, opposite, turned, taking, like, unlike, parts_at, parts, carve, one, holders}
use Rattle.headers.proofs.Booleans.{◌⇒◌, ◌==◌, and_fst, and_snd, same_true, implied, implies, always}
use Rattle.headers.proofs.Positions.{every_at, every_of, words_ext}
use Rattle.headers.proofs.Members.{contains_bits, member_exactly, outside_bit, outside_fits, overwritten_bit, overwritten_fits}
use Rattle.headers.proofs.Intersection.{overlaps_bits, common_overlaps}
use Rattle.headers.proofs.SetBits.{first_of_lem, those_same, those_later, no_bit_none, none_no_bit}
use Rattle.headers.proofs.Fixed.{free_bit, free_fits, opposite_bit, fixed_care, fixed_care_bit, fixed_value_bit, fixed_exact, taking_fixed}

module _ (n : ℕ) (b : Set) (cb : Words n b.care) (vb : Words n b.value) where
  -- p cares at every position below i at which b does
  Covered : Set → ℕ → Type 0
  Covered p i = (j : ℕ) → j < i → bit_at b.care j ≡ true → bit_at p.care j ≡ true

  -- where p cares for all that b cares for, and they overlap, what is in p is in b
  covered_member : (p : Set) → Words n p.care → overlaps n p b ≡ true → Covered p (n * 32) → (h : Header)
      → contains n p h ≡ true → contains n b h ≡ true
  unfolding Covered
  covered_member p cp o cover h e = contains_bits n b cb h ∙ every_of (n * 32) _ λ i l.
      implied _ _ (implied _ _ (implied _ _
      (always (λ h c v d w. (c ⇒ h == v) ⇒ (c && d ⇒ v == w) ⇒ (d ⇒ c) ⇒ (d ⇒ h == w)) tt
      (bit_at h i) (bit_at p.care i) (bit_at p.value i) (bit_at b.care i) (bit_at b.value i))
      (every_at (n * 32) _ (sym (contains_bits n p cp h) ∙ e) i l))
      (every_at (n * 32) _ (sym (overlaps_bits n p b cp) ∙ o) i l))
      (implies _ _ (cover i l))

  -- ---- one free position

  module _ (p : Set) (cp : Words n p.care) (i : ℕ) (inside : i < n * 32) (is_free : bit_at (free n p b) i ≡ true) where
    b_cares : bit_at b.care i ≡ true
    b_cares = and_fst _ _ (sym (free_bit n p b cp i inside) ∙ is_free)

    p_wild : bit_at p.care i ≡ false
    p_wild = unset _ (and_snd (bit_at b.care i) _ (sym (free_bit n p b cp i inside) ∙ is_free))
      where
        unset : (x : Bool) → not x ≡ true → x ≡ false
        unset true e = absurd (false≢true e)
        unset false e = refl

    like_free : (j : ℕ) → j < n * 32 → (i ≡ j → ⊥) → bit_at (free n p b) j ≡ bit_at (free n (like n p b i) b) j
    like_free j l d =
        free_bit n p b cp j l
        ∙ ap (λ (x : Bool). bit_at b.care j && not x)
        (sym (fixed_care_bit n p b.value i j l ∙ ap (λ (x : Bool). bit_at p.care j || x) (ne_eqb i j d) ∙ or-false (bit_at p.care j)))
        ∙ sym (free_bit n (like n p b i) b (fixed_care n p b.value i cp) j l)

    cares_here : bit_at (like n p b i).care i ≡ true
    cares_here =
        fixed_care_bit n p b.value i i inside
        ∙ ap (λ (x : Bool). bit_at p.care i || x) (eq-eqb i i refl)
        ∙ mathlib.Core.Bool.or-true (bit_at p.care i)

    like_not_free : bit_at (free n (like n p b i) b) i ≡ false
    like_not_free =
        free_bit n (like n p b i) b (fixed_care n p b.value i cp) i inside
        ∙ ap (λ (x : Bool). bit_at b.care i && not x) cares_here
        ∙ mathlib.Core.Bool.and-false (bit_at b.care i)

    like_overlaps : overlaps n p b ≡ true → overlaps n (like n p b i) b ≡ true
    like_overlaps o = overlaps_bits n (like n p b i) b (fixed_care n p b.value i cp) ∙ every_of (n * 32) _ λ j l.
        ap₂ (λ (x y : Bool). x && bit_at b.care j ⇒ y == bit_at b.value j) (fixed_care_bit n p b.value i j l)
        (fixed_value_bit n p b.value i j l)
        ∙ implied _ _
        (always (λ c v d w s. (c && d ⇒ v == w) ⇒ ((c || s) && d ⇒ (v && not s || w && s) == w)) tt
        (bit_at p.care j) (bit_at p.value j) (bit_at b.care j) (bit_at b.value j) (eqb i j))
        (every_at (n * 32) _ (sym (overlaps_bits n p b cp) ∙ o) j l)

    like_covered : Covered p i → Covered (like n p b i) (suc i)
    unfolding Covered
    like_covered c j l e = go (ℕ_discrete i j)
      where
        go : Dec (i ≡ j) → bit_at (like n p b i).care j ≡ true
        go (yes d) = subst (λ (k : ℕ). bit_at (like n p b i).care k ≡ true) d cares_here
        go (no d) =
            fixed_care_bit n p b.value i j (omega arith)
            ∙ ap (λ (x : Bool). x || eqb i j) (c j (omega arith) e)

    -- of p's members outside b, those with b's bit here are left for later, and the others are this part
    split_here : (h : Header)
        → one (contains n (unlike n p b i) h) + one (contains n (like n p b i) h && not (contains n b h)) ≡ one
        (contains n p h && not (contains n b h))
    split_here h =
        ap₂ (λ (x y : Bool). one x + one (y && not (contains n b h)))
        (fixed_exact n p (opposite n b.value) i cp inside p_wild h
        ∙ ap (λ (x : Bool). contains n p h && (bit_at h i == x)) (opposite_bit n b.value vb i inside))
        (fixed_exact n p b.value i cp inside p_wild h)
        ∙ split (contains n p h) (contains n b h) (bit_at h i) (bit_at b.value i)
        (λ e. (member_exactly n b cb h).0 e i inside b_cares)
      where
        split : (P B x y : Bool) → (B ≡ true → x ≡ y) → one (P && (x == not y)) + one ((P && (x == y)) && not B) ≡ one
            (P && not B)
        split false B x y f = refl
        split true true true true f = refl
        split true true false false f = refl
        split true true true false f = absurd (true≢false (f refl))
        split true true false true f = absurd (false≢true (f refl))
        split true false true true f = refl
        split true false true false f = refl
        split true false false true f = refl
        split true false false false f = refl

  still_covered : (p : Set) → Words n p.care → (i : ℕ) → i < n * 32 → bit_at (free n p b) i ≡ false → Covered p i
      → Covered p (suc i)
  unfolding Covered
  still_covered p cp i inside e c j l d = go (ℕ_discrete i j)
    where
      cares : (x y : Bool) → (y && not x) ≡ false → y ≡ true → x ≡ true
      cares true y e d = refl
      cares false true e d = absurd (true≢false e)
      cares false false e d = d

      go : Dec (i ≡ j) → bit_at p.care j ≡ true
      go (yes q) = subst (λ (k : ℕ). bit_at p.care k ≡ true) q
          (cares _ (bit_at b.care i) (sym (free_bit n p b cp i inside) ∙ e) (ap (bit_at b.care) q ∙ d))
      go (no q) = c j (omega arith) d

  -- ---- the parts from position i on

  exact_from : (k i : ℕ) (p : Set) → i + k ≡ n * 32 → Words n p.care → overlaps n p b ≡ true → Covered p i → (h : Header)
      → holders n (parts_at n p b (those (bit_at (free n p b)) (positions k i))) h ≡ one (contains n p h && not (contains n b h))
  unfolding those positions parts_at holders
  exact_from zero i p e cp o c h = none_left (contains n p h) (contains n b h)
      (covered_member p cp o (subst (Covered p) (let z : i ≡ n * 32 = omega arith in z) c) h)
    where
      none_left : (P B : Bool) → (P ≡ true → B ≡ true) → 0 ≡ one (P && not B)
      none_left false B f = refl
      none_left true true f = refl
      none_left true false f = absurd (false≢true (f refl))
  exact_from (suc k) i p e cp o c h = go (bit_at (free n p b) i) refl (exact_from k (suc i))
    where
      inside : i < n * 32
      inside = omega arith

      go : (x : Bool) → bit_at (free n p b) i ≡ x
          → ((q : Set) → suc i + k ≡ n * 32 → Words n q.care → overlaps n q b ≡ true → Covered q (suc i) → (h : Header)
          → holders n (parts_at n q b (those (bit_at (free n q b)) (positions k (suc i)))) h ≡ one
          (contains n q h && not (contains n b h)))
          → holders n (parts_at n p b (keep_if x i (those (bit_at (free n p b)) (positions k (suc i))))) h ≡ one
          (contains n p h && not (contains n b h))
      go true f ih =
          ap (λ (m : ℕ). one (contains n (unlike n p b i) h) + m)
          (ap (λ (l : List ℕ). holders n (parts_at n (like n p b i) b l) h)
          (those_same _ _ k (suc i) (λ j l m. like_free p cp i inside f j (omega arith) (λ q. omega arith)))
          ∙ ih (like n p b i) (omega arith) (fixed_care n p b.value i cp) (like_overlaps p cp i inside f o)
          (like_covered p cp i inside f c) h)
          ∙ split_here p cp i inside f h
      go false f ih = ih p (omega arith) cp o (still_covered p cp i inside f c) h

  -- a header is in just one part if it is in p and not in b, and else in none
  pub carve_exact : (p : Set) → Words n p.care → (h : Header)
      → holders n (carve n p b) h ≡ one (contains n p h && not (contains n b h))
  unfolding carve parts set_bits holders Covered
  carve_exact p cp h = go (overlaps n p b) refl
    where
      apart : (P B : Bool) → (P ≡ true → B ≡ true → ⊥) → one P + 0 ≡ one (P && not B)
      apart false B f = refl
      apart true false f = refl
      apart true true f = absurd (f refl refl)

      go : (o : Bool) → overlaps n p b ≡ o → holders n (cond o (parts n p b) (p ∷ [])) h ≡ one
          (contains n p h && not (contains n b h))
      go true e = exact_from (n * 32) 0 p (omega arith) cp e (λ j l. absurd (omega arith)) h
      go false e = apart (contains n p h) (contains n b h) (λ x y. true≢false (sym (common_overlaps n p b cp cb h x y) ∙ e))

  -- ---- part by part

  -- with no free bit there is no part
  pub parts_none : (p : Set) → no_bit n (free n p b) ≡ true → parts n p b ≡ []
  unfolding parts parts_at
  parts_none p e = ap (parts_at n p b) (no_bit_none n (free n p b) (free_fits n p b cb) e)

  -- else the first part has the first free bit opposite to b's, and the later ones are those of p with that bit as in b
  pub parts_first : (p : Set) → Words n p.care → no_bit n (free n p b) ≡ false
      → parts n p b ≡ taking n (first_bit n (free n p b)) (turned n b) p ∷ parts n (taking n (first_bit n (free n p b)) b p) b
  unfolding parts parts_at set_bits first_bit first_set
  parts_first p cp e = go (those (bit_at (free n p b)) (positions (n * 32) 0)) refl
    where
      go : (l : List ℕ) → those (bit_at (free n p b)) (positions (n * 32) 0) ≡ l
          → parts_at n p b l
          ≡ taking n (single n (first_of (n * 32) l)) (turned n b) p ∷ parts n (taking n (single n (first_of (n * 32) l)) b p) b
      go [] d = absurd (true≢false (sym (none_no_bit n (free n p b) (free_fits n p b cb) d) ∙ e))
      go (i ∷ l) d =
          let f = first_of_lem _ (n * 32) 0 i l d in
          let inside : i < n * 32 = omega (arith, f.high) in
          let cares = b_cares p cp i inside f.passes in
          ap (λ (m : List ℕ). unlike n p b i ∷ parts_at n (like n p b i) b m)
          (sym (those_later _ _ (n * 32) 0 i l
          (λ j a m q. like_free p cp i inside f.passes j (omega arith) q) (like_not_free p cp i inside f.passes) d))
          ∙ ap₂ (λ (s r : Set). s ∷ parts n r b)
          (sym (taking_fixed n p (turned n b) i cp cb cares)) (sym (taking_fixed n p b i cp cb cares))

  -- p with bits as in b can be carved on: its care is words of 32 bits
  pub like_cares : (p : Set) (m : List ℕ) → Words n (taking n m b p).care
  like_cares p m = overwritten_fits n m b.care p.care cb

  -- with the bits of a mask as in b, those outside the mask that were free are free still, and no others
  pub free_later : (p : Set) → Words n p.care → (m : List ℕ) → Words n m
      → free n (taking n m b p) b ≡ outside n m (free n p b)
  free_later p cp m wm = words_ext n _ _ (free_fits n (taking n m b p) b cb) (outside_fits n m (free n p b) (free_fits n p b cb)) λ i l.
      free_bit n (taking n m b p) b (like_cares p m) i l
      ∙ ap (λ (x : Bool). bit_at b.care i && not x) (overwritten_bit n m b.care p.care wm i l)
      ∙ same_true _ _
      (always (λ c d k y z. (d && not (c && not k || d && k)) == ((d && not c) && not k)) tt
      (bit_at p.care i) (bit_at b.care i) (bit_at m i) true true)
      ∙ ap (λ (x : Bool). x && not (bit_at m i)) (sym (free_bit n p b cp i l))
      ∙ sym (outside_bit n m (free n p b) wm i l)

  -- ---- the first part of a carving

  -- where the two don't meet it is p itself
  pub first_apart : (p : Set) → overlaps n p b ≡ false → head? (carve n p b) ≡ some p
  unfolding carve
  first_apart p e = ap (λ (o : Bool). head? (cond o (parts n p b) (p ∷ []))) e

  -- else there is none where no bit is free, and with one the first free bit makes it
  module _ (p : Set) (o : overlaps n p b ≡ true) where
    carve_parts : carve n p b ≡ parts n p b
    unfolding carve
    carve_parts = ap (λ (o : Bool). cond o (parts n p b) (p ∷ [])) o

    pub first_none : no_bit n (free n p b) ≡ true → head? (carve n p b) ≡ none
    first_none e = ap head? (carve_parts ∙ parts_none p e)

    pub first_free : Words n p.care → no_bit n (free n p b) ≡ false
        → head? (carve n p b) ≡ some (taking n (first_bit n (free n p b)) (turned n b) p)
    first_free cp e = ap head? (carve_parts ∙ parts_first p cp e)
