-- The free bits of a set of eight words, carved by one that stands in some bytes: those of the first four words come first, and then those
-- of the last four.
use mathlib.Core.Bool.{Bool, true, false, ◌&&◌}
use mathlib.Core.List.{List, ◌++◌, head?}
use mathlib.Core.Option.{some, none}
use mathlib.Core.Path.{◌≡◌, refl, sym, ap, ap₂, ◌∙◌, subst}
use Prim.Native.Nat.{ℕ}
use Rattle.headers.specs.Bits.{words, Words, no_bit, first_bit}
use Rattle.headers.specs.Sets.{Set, beside, outside, overlaps}
use Rattle.headers.specs.Carving.{free, turned, taking, carve}
use Rattle.sets.specs.Forms.{set_of}
use Rattle.headers.proofs.Booleans.{and_fst, and_snd}
use Rattle.headers.proofs.Members.{no_bits, outside_none, overwritten_none}
use Rattle.headers.proofs.SetBits.{first_bit_fits}
use Rattle.headers.proofs.Fixed.{free_fits, opposite_fits}
use Rattle.headers.proofs.Carved.{free_later, first_apart, first_none, first_free}
use Rattle.headers.proofs.Beside.{no_bit_beside, outside_beside, turned_beside, taking_beside, first_bit_left, first_bit_right}
use Rattle.layout.specs.Records.{half, low_from, high_from}
use Rattle.wide.specs.Forms.{wide_words, wide_of, stored_at, Stored}
use Rattle.carving.specs.Cuts.{free_left, bit_of, IsCut}
use Rattle.carving.specs.declared.Cut.{Cut}
use Rattle.wide.proofs.Halves.{Four, Fours, four_long, beside_care, low_four, high_four, stored_halves, stored_care, stored_value}
use Rattle.wide.proofs.Halves.{wild_free, free_halves, none_free}
use Rattle.wide.proofs.Answers.{refused_first, left_to_last}

abbrev no_bit_lem : List ℕ
no_bit_lem = words half (λ w. 0)

-- no bit is taken from another set
none_taken : (p b : Set) → Four p → Four b → taking half no_bit_lem b p ≡ p
none_taken p b fp fb = λ i. record {
  care = overwritten_none half p.care fp.care b.care fb.care i;
  value = overwritten_none half p.value fp.value b.value fb.value i;
}

turned_four : {s : Set} → Four s → Four (turned half s)
turned_four {s} f = record { care = f.care; value = opposite_fits half s.value }

module _ {x : List ℕ} {k w : ℕ} (stored : Stored x k w) {p q : Set} (fp : Four p) (fq : Four q) where
  abbrev low_free : List ℕ
  low_free = free half p (low_from w x k)

  abbrev high_free : List ℕ
  high_free = free half q (high_from w x k)

  abbrev all_free : List ℕ
  all_free = free wide_words (beside p q) (stored_at w x k)

  low_fits : Words half low_free
  low_fits = free_fits half p (low_from w x k) (low_four stored).care

  high_fits : Words half high_free
  high_fits = free_fits half q (high_from w x k) (high_four stored).care

  -- ---- with the bits of two masks as there

  module _ (m o : List ℕ) (lm : Words half m) (is : first_bit wide_words all_free ≡ m ++ o) where
    part_is : taking wide_words (first_bit wide_words all_free) (turned wide_words (stored_at w x k)) (beside p q)
        ≡ beside (taking half m (turned half (low_from w x k)) p) (taking half o (turned half (high_from w x k)) q)
    part_is =
        ap₂ (λ (b : List ℕ) (s : Set). taking wide_words b s (beside p q)) is
        (ap (turned wide_words) (stored_halves stored)
        ∙ turned_beside half half (low_from w x k) (high_from w x k) (four_long (low_four stored)))
        ∙ taking_beside half half p q (four_long fp) (turned half (low_from w x k)) (turned half (high_from w x k))
        (four_long (turned_four (low_four stored))) m o lm.long

    next_is : taking wide_words (first_bit wide_words all_free) (stored_at w x k) (beside p q)
        ≡ beside (taking half m (low_from w x k) p) (taking half o (high_from w x k) q)
    next_is =
        ap₂ (λ (b : List ℕ) (s : Set). taking wide_words b s (beside p q)) is (stored_halves stored)
        ∙ taking_beside half half p q (four_long fp) (low_from w x k) (high_from w x k) (four_long (low_four stored)) m o lm.long

    last_is : no_bit wide_words (outside wide_words (first_bit wide_words all_free) all_free)
        ≡ (no_bit half (outside half m low_free) && no_bit half (outside half o high_free))
    last_is =
        ap₂ (λ (b f : List ℕ). no_bit wide_words (outside wide_words b f)) is (free_halves stored fp fq)
        ∙ ap (no_bit wide_words) (outside_beside half half m o lm.long low_free high_free low_fits.long)
        ∙ no_bit_beside half half (outside half m low_free) (outside half o high_free) refl

  -- ---- where a bit of the first four words is free

  module _ (more : no_bit half low_free ≡ false) where
    low_bit : first_bit wide_words all_free ≡ first_bit half low_free ++ no_bit_lem
    low_bit =
        ap (first_bit wide_words) (free_halves stored fp fq) ∙ first_bit_left half half low_free high_free low_fits more

    pub low_part : taking wide_words (first_bit wide_words all_free) (turned wide_words (stored_at w x k)) (beside p q)
        ≡ beside (taking half (first_bit half low_free) (turned half (low_from w x k)) p) q
    low_part =
        part_is (first_bit half low_free) no_bit_lem (first_bit_fits half low_free) low_bit
        ∙ ap (beside (taking half (first_bit half low_free) (turned half (low_from w x k)) p))
        (none_taken q (turned half (high_from w x k)) fq (turned_four (high_four stored)))

    pub low_next : taking wide_words (first_bit wide_words all_free) (stored_at w x k) (beside p q)
        ≡ beside (taking half (first_bit half low_free) (low_from w x k) p) q
    low_next =
        next_is (first_bit half low_free) no_bit_lem (first_bit_fits half low_free) low_bit
        ∙ ap (beside (taking half (first_bit half low_free) (low_from w x k) p)) (none_taken q (high_from w x k) fq (high_four stored))

    pub low_last : no_bit wide_words (outside wide_words (first_bit wide_words all_free) all_free)
        ≡ (no_bit half (outside half (first_bit half low_free) low_free) && no_bit half high_free)
    low_last =
        last_is (first_bit half low_free) no_bit_lem (first_bit_fits half low_free) low_bit
        ∙ ap (λ (f : List ℕ). no_bit half (outside half (first_bit half low_free) low_free) && no_bit half f)
        (outside_none half high_free high_fits)

  -- ---- where none is

  module _ (done : no_bit half low_free ≡ true) where
    high_bit : first_bit wide_words all_free ≡ no_bit_lem ++ first_bit half high_free
    high_bit =
        ap (first_bit wide_words) (free_halves stored fp fq) ∙ first_bit_right half half low_free high_free low_fits done

    pub high_part : taking wide_words (first_bit wide_words all_free) (turned wide_words (stored_at w x k)) (beside p q)
        ≡ beside p (taking half (first_bit half high_free) (turned half (high_from w x k)) q)
    high_part =
        part_is no_bit_lem (first_bit half high_free) (no_bits half) high_bit
        ∙ ap (λ (s : Set). beside s (taking half (first_bit half high_free) (turned half (high_from w x k)) q))
        (none_taken p (turned half (low_from w x k)) fp (turned_four (low_four stored)))

    pub high_next : taking wide_words (first_bit wide_words all_free) (stored_at w x k) (beside p q)
        ≡ beside p (taking half (first_bit half high_free) (high_from w x k) q)
    high_next =
        next_is no_bit_lem (first_bit half high_free) (no_bits half) high_bit
        ∙ ap (λ (s : Set). beside s (taking half (first_bit half high_free) (high_from w x k) q))
        (none_taken p (low_from w x k) fp (low_four stored))

    pub high_last : no_bit wide_words (outside wide_words (first_bit wide_words all_free) all_free)
        ≡ no_bit half (outside half (first_bit half high_free) high_free)
    high_last =
        last_is no_bit_lem (first_bit half high_free) (no_bits half) high_bit
        ∙ ap (λ (b : Bool). b && no_bit half (outside half (first_bit half high_free) high_free))
        (ap (no_bit half) (outside_none half low_free low_fits) ∙ done)

  -- ---- the first part of the carving

  -- none, where the set is held whole
  pub all_held : (overlaps wide_words (beside p q) (stored_at w x k) && no_bit wide_words all_free) ≡ true
      → head? (carve wide_words (beside p q) (stored_at w x k)) ≡ none
  all_held e = first_none wide_words (stored_at w x k) (stored_care stored) (stored_value stored) (beside p q)
      (and_fst _ _ e) (and_snd (overlaps wide_words (beside p q) (stored_at w x k)) _ e)

  -- the set itself, where the two don't meet
  pub first_whole : overlaps wide_words (beside p q) (stored_at w x k) ≡ false
      → head? (carve wide_words (beside p q) (stored_at w x k)) ≡ some (beside p q)
  first_whole = first_apart wide_words (stored_at w x k) (stored_care stored) (stored_value stored) (beside p q)

  module _ (meets : overlaps wide_words (beside p q) (stored_at w x k) ≡ true) where
    first_is : no_bit wide_words all_free ≡ false → head? (carve wide_words (beside p q) (stored_at w x k))
        ≡ some (taking wide_words (first_bit wide_words all_free) (turned wide_words (stored_at w x k)) (beside p q))
    first_is = first_free wide_words (stored_at w x k) (stored_care stored) (stored_value stored) (beside p q) meets
        (beside_care fp fq)

    pub first_low : no_bit half low_free ≡ false → head? (carve wide_words (beside p q) (stored_at w x k))
        ≡ some (beside (taking half (first_bit half low_free) (turned half (low_from w x k)) p) q)
    first_low e = first_is (none_free stored fp fq ∙ ap (λ (b : Bool). b && no_bit half high_free) e) ∙ ap some (low_part e)

    pub first_high : no_bit half low_free ≡ true
        → (overlaps wide_words (beside p q) (stored_at w x k) && no_bit wide_words all_free) ≡ false
        → head? (carve wide_words (beside p q) (stored_at w x k))
        ≡ some (beside p (taking half (first_bit half high_free) (turned half (high_from w x k)) q))
    first_high e u = first_is (left_to_last _ _ _ refl meets ∙ u) ∙ ap some (high_part e)

-- ---- a cut as the code has it

module _ {x : List ℕ} {k w : ℕ} {c : Cut} (stored : Stored x k w) (is : IsCut w x k c) (f : Fours c.set) where
  abbrev low : Set
  low = set_of c.set.low

  abbrev high : Set
  high = set_of c.set.high

  -- no bit is left in it exactly if none is left at all
  pub done_exactly : no_bit half c.free ≡ no_bit wide_words (free_left w x k c)
  done_exactly = go c.high refl ∙ sym (none_free stored f.low f.high)
    where
      narrowed : (b : Bool) → c.high ≡ false → no_bit half c.free ≡ b
          → b ≡ (b && no_bit half (free half high (high_from w x k)))
      narrowed true e n = sym (wild_free stored (is.narrow e n) high)
      narrowed false e n = refl

      go : (b : Bool) → c.high ≡ b
          → no_bit half c.free ≡ (no_bit half (free half low (low_from w x k)) && no_bit half (free half high (high_from w x k)))
      go true e =
          ap (no_bit half) (is.free_high e)
          ∙ ap (λ (b : Bool). b && no_bit half (free half high (high_from w x k))) (sym (is.low_done e))
      go false e =
          narrowed (no_bit half c.free) e refl
          ∙ ap (λ (l : List ℕ). no_bit half l && no_bit half (free half high (high_from w x k))) (is.free_low e)

  bit_fits : Words half c.bit
  bit_fits = subst (Words half) (sym is.bit_is) (first_bit_fits half c.free)

  -- ---- among the last four words

  module _ (e : c.high ≡ true) where
    bit_high : c.bit ≡ first_bit half (free half high (high_from w x k))
    bit_high = is.bit_is ∙ ap (first_bit half) (is.free_high e)

    pub cut_high_part : beside low (taking half c.bit (turned half (high_from w x k)) high)
        ≡ taking wide_words (bit_of w x k c) (turned wide_words (stored_at w x k)) (wide_of c.set)
    cut_high_part =
        ap (λ (m : List ℕ). beside low (taking half m (turned half (high_from w x k)) high)) bit_high
        ∙ sym (high_part stored f.low f.high (is.low_done e))

    pub cut_high_next : beside low (taking half c.bit (high_from w x k) high)
        ≡ taking wide_words (bit_of w x k c) (stored_at w x k) (wide_of c.set)
    cut_high_next =
        ap (λ (m : List ℕ). beside low (taking half m (high_from w x k) high)) bit_high
        ∙ sym (high_next stored f.low f.high (is.low_done e))

    pub cut_high_last : no_bit half (outside half c.bit c.free)
        ≡ no_bit wide_words (outside wide_words (bit_of w x k c) (free_left w x k c))
    cut_high_last =
        ap₂ (λ (m l : List ℕ). no_bit half (outside half m l)) bit_high (is.free_high e)
        ∙ sym (high_last stored f.low f.high (is.low_done e))

    -- what is free with that bit as it stands there
    pub cut_high_left : outside half c.bit c.free ≡ free half (taking half c.bit (high_from w x k) high) (high_from w x k)
    cut_high_left =
        ap (outside half c.bit) (is.free_high e)
        ∙ sym (free_later half (high_from w x k) (high_four stored).care (high_four stored).value high f.high.care c.bit bit_fits)

  -- ---- among the first four

  module _ (e : c.high ≡ false) (more : no_bit half c.free ≡ false) where
    bit_low : c.bit ≡ first_bit half (free half low (low_from w x k))
    bit_low = is.bit_is ∙ ap (first_bit half) (is.free_low e)

    some_low : no_bit half (free half low (low_from w x k)) ≡ false
    some_low = ap (no_bit half) (sym (is.free_low e)) ∙ more

    pub cut_low_part : beside (taking half c.bit (turned half (low_from w x k)) low) high
        ≡ taking wide_words (bit_of w x k c) (turned wide_words (stored_at w x k)) (wide_of c.set)
    cut_low_part =
        ap (λ (m : List ℕ). beside (taking half m (turned half (low_from w x k)) low) high) bit_low
        ∙ sym (low_part stored f.low f.high some_low)

    pub cut_low_next : beside (taking half c.bit (low_from w x k) low) high
        ≡ taking wide_words (bit_of w x k c) (stored_at w x k) (wide_of c.set)
    cut_low_next =
        ap (λ (m : List ℕ). beside (taking half m (low_from w x k) low) high) bit_low
        ∙ sym (low_next stored f.low f.high some_low)

    pub cut_low_last : no_bit wide_words (outside wide_words (bit_of w x k c) (free_left w x k c))
        ≡ (no_bit half (outside half c.bit c.free) && no_bit half (free half high (high_from w x k)))
    cut_low_last =
        low_last stored f.low f.high some_low
        ∙ sym (ap₂ (λ (m l : List ℕ). no_bit half (outside half m l) && no_bit half (free half high (high_from w x k)))
        bit_low (is.free_low e))

    pub cut_low_left : outside half c.bit c.free ≡ free half (taking half c.bit (low_from w x k) low) (low_from w x k)
    cut_low_left =
        ap (outside half c.bit) (is.free_low e)
        ∙ sym (free_later half (low_from w x k) (low_four stored).care (low_four stored).value low f.low.care c.bit bit_fits)

  -- ---- is it the last bit?

  module _ (more : no_bit half c.free ≡ false) where
    pub more_here : no_bit half (outside half c.bit c.free) ≡ false
        → false ≡ no_bit wide_words (outside wide_words (bit_of w x k c) (free_left w x k c))
    more_here u = go c.high refl
      where
        go : (b : Bool) → c.high ≡ b → false ≡ no_bit wide_words (outside wide_words (bit_of w x k c) (free_left w x k c))
        go true e = sym u ∙ cut_high_last e
        go false e = refused_first _ _ _ (cut_low_last e more) u

    pub last_of_four : no_bit half (outside half c.bit c.free) ≡ true → w ≡ half
        → true ≡ no_bit wide_words (outside wide_words (bit_of w x k c) (free_left w x k c))
    last_of_four u narrow = go c.high refl
      where
        go : (b : Bool) → c.high ≡ b → true ≡ no_bit wide_words (outside wide_words (bit_of w x k c) (free_left w x k c))
        go true e = sym u ∙ cut_high_last e
        go false e = sym (wild_free stored narrow high) ∙ left_to_last _ _ _ (cut_low_last e more) u
