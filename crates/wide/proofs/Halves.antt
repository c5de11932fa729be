-- A set of w words that stands in some bytes is two sets of four side by side, so what is asked of it is asked of the first four words and
-- of the last four.
use mathlib.Core.Bool.{Bool, true, false, ◌&&◌, cond}
use mathlib.Core.List.{List, ◌++◌}
use mathlib.Core.Option.{Option, some, none, bind, map}
use mathlib.Core.Path.{◌≡◌, refl, sym, ap, ap₂, ◌∙◌, subst}
use Prim.Native.Nat.{ℕ, ◌+◌}
use native.Mathlib.Omega.{arith}
use borrow.Author.Tests.{eq-eqb}
use lib.Dec.{eqb}
use Rattle.headers.specs.Bits.{Words, no_bit}
use Rattle.headers.specs.Sets.{Header, Set, Rewrite, all_wild, beside, rewrite_beside, contains, overlaps, joined, intersection, rewritten}
use Rattle.headers.specs.Sets.{undone}
use Rattle.headers.specs.Actions.{swapped, acted, wild_at, wanted_of, moved_set, untransferred, met_before}
use Rattle.headers.specs.Carving.{free}
use Rattle.sets.specs.Forms.{set_of}
use Rattle.headers.specs.declared.Transfer.{Transfer}
use Rattle.headers.specs.declared.Transfer.TheVariants.{Keep, Copy, Swap}
use Rattle.headers.proofs.Members.{all_wild_contains, no_bits}
use Rattle.headers.proofs.Undoing.{no_rewrite_keeps}
use Rattle.headers.proofs.Beside.{Long, fits_beside, no_bit_beside, contains_beside, overlaps_beside, intersection_beside}
use Rattle.headers.proofs.Beside.{undone_beside, free_beside}
use Rattle.headers.proofs.Padded.{overlaps_wild, met_wild, undone_wild, free_wild}
use Rattle.headers.proofs.ActsBeside.{acted_beside, untransferred_beside}
use Rattle.layout.specs.Records.{half, low_from, high_from, half_from}
use Rattle.layout.proofs.Words.{words_from_fit}
use Rattle.layout.proofs.Widths.{set_halves}
use Rattle.wide.specs.Forms.{wide_words, stored_at, rewrite_stored, Stored}
use Rattle.wide.specs.declared.WideSet.{WideSet}

-- ---- sets of four words

pub record Four (s : Set) : Type 0 where
  pub care : Words half s.care
  pub value : Words half s.value

-- the halves of a set of eight words
pub record Fours (s : WideSet) : Type 0 where
  pub low : Four (set_of s.low)
  pub high : Four (set_of s.high)

pub four_long : {s : Set} → Four s → Long half s
four_long f = record { care = f.care.long; value = f.value.long }

pub beside_care : {p q : Set} → Four p → Four q → Words wide_words (beside p q).care
beside_care {p} {q} fp fq = fits_beside half half p.care q.care fp.care fq.care

pub beside_value : {p q : Set} → Four p → Four q → Words wide_words (beside p q).value
beside_value {p} {q} fp fq = fits_beside half half p.value q.value fp.value fq.value

-- a rewrite whose mask and value stand as care and value of a set do
abbrev pub writing : Set → Rewrite
writing s = record { mask = s.care; value = s.value }

-- two sets, if there are both, side by side
unfoldable pub paired : Option Set → Option Set → Option Set
paired none b = none
paired (some s) none = none
paired (some s) (some t) = some (beside s t)

-- both tests, and what is then made of each half
joint : (a b : Bool) (s t : Set) → cond (a && b) (some (beside s t)) none ≡ paired (cond a (some s) none) (cond b (some t) none)
unfolding paired
joint true true s t = refl
joint true false s t = refl
joint false b s t = refl

-- what a transfer takes into a set has as many words
untransferred_long : (t : Transfer) (p s : Set) → Long half p → untransferred half t p ≡ some s → Long half s
unfolding intersection
untransferred_long Keep p s lp e = let d : p ≡ s = cc in subst (Long half) d lp
untransferred_long Copy p s lp e = go (overlaps half (wild_at half 1 p) (wanted_of half 0 1 p)) e
  where
    go : (o : Bool) → cond o (some (joined half (wild_at half 1 p) (wanted_of half 0 1 p))) none ≡ some s → Long half s
    go true e =
        let d : joined half (wild_at half 1 p) (wanted_of half 0 1 p) ≡ s = cc in
        subst (Long half) d (record { care = refl; value = refl })
    go false e = let z : ◌≡◌ {A = ℕ} 0 1 = cc in absurd (omega arith)
untransferred_long Swap p s lp e =
    let d : moved_set half swapped p ≡ s = cc in subst (Long half) d (record { care = refl; value = refl })

module _ {x : List ℕ} {k w : ℕ} (stored : Stored x k w) where
  pub low_four : Four (low_from w x k)
  low_four = record { care = words_from_fit half x k; value = words_from_fit half x (k + w) }

  pub high_four : Four (high_from w x k)
  high_four = go (eqb w half)
    where
      go : (b : Bool) → Four (cond b (all_wild half) (half_from w x (k + half)))
      go true = record { care = no_bits half; value = no_bits half }
      go false = record { care = words_from_fit half x (k + half); value = words_from_fit half x (k + half + w) }

  pub stored_halves : stored_at w x k ≡ beside (low_from w x k) (high_from w x k)
  stored_halves = sym (set_halves x w stored.width k)

  pub stored_care : Words wide_words (stored_at w x k).care
  stored_care = subst (λ (s : Set). Words wide_words s.care) (sym stored_halves) (beside_care low_four high_four)

  pub stored_value : Words wide_words (stored_at w x k).value
  stored_value = subst (λ (s : Set). Words wide_words s.value) (sym stored_halves) (beside_value low_four high_four)

  rewrite_halves : rewrite_stored w x k ≡ rewrite_beside (writing (low_from w x k)) (writing (high_from w x k))
  rewrite_halves = ap writing stored_halves

  -- ---- of a set of four words the last four are wild: they change nothing

  module _ (narrow : w ≡ half) where
    high_wild : high_from w x k ≡ all_wild half
    high_wild = ap (λ (b : Bool). cond b (all_wild half) (half_from w x (k + half))) (eq-eqb w half narrow)

    pub wild_contains : (h : Header) → contains half (high_from w x k) h ≡ true
    wild_contains h = ap (λ (s : Set). contains half s h) high_wild ∙ all_wild_contains half h

    pub wild_overlaps : (q : Set) → overlaps half q (high_from w x k) ≡ true
    wild_overlaps q = ap (overlaps half q) high_wild ∙ overlaps_wild half q

    pub wild_free : (q : Set) → no_bit half (free half q (high_from w x k)) ≡ true
    wild_free q = ap (λ (s : Set). no_bit half (free half q s)) high_wild ∙ free_wild half q

    pub wild_met : {q : Set} → Four q → intersection half q (high_from w x k) ≡ some q
    wild_met {q} f = ap (intersection half q) high_wild ∙ met_wild half q (four_long f)

    pub wild_undone : {q : Set} → Four q → undone half (writing (high_from w x k)) q ≡ some q
    wild_undone {q} f = ap (λ (s : Set). undone half (writing s) q) high_wild ∙ undone_wild half q f.care f.value

    pub wild_rewritten : {h : Header} → Words half h → rewritten half (writing (high_from w x k)) h ≡ h
    wild_rewritten {h} f = ap (λ (s : Set). rewritten half (writing s) h) high_wild ∙ no_rewrite_keeps half h f

  -- ---- each operation by halves

  module _ {g h : Header} (fg : Words half g) (fh : Words half h) where
    pub holds_halves : contains wide_words (stored_at w x k) (g ++ h)
        ≡ (contains half (low_from w x k) g && contains half (high_from w x k) h)
    holds_halves =
        ap (λ (s : Set). contains wide_words s (g ++ h)) stored_halves
        ∙ contains_beside half half (low_from w x k) (high_from w x k) (four_long low_four) g h fg.long

    pub acted_halves : (t : Transfer) → acted wide_words (record { transfer = t; rewrite = rewrite_stored w x k }) (g ++ h)
        ≡ acted half (record { transfer = t; rewrite = writing (low_from w x k) }) g ++ rewritten half (writing (high_from w x k)) h
    acted_halves t =
        ap (λ (r : Rewrite). acted wide_words (record { transfer = t; rewrite = r }) (g ++ h)) rewrite_halves
        ∙ acted_beside half half (omega arith) g h fg.long fh.long (record { transfer = t; rewrite = writing (low_from w x k) })
        (four_long low_four) (writing (high_from w x k))

  module _ (p q : Set) (lp : Long half p) where
    met_paired : intersection wide_words (beside p q) (stored_at w x k)
        ≡ paired (intersection half p (low_from w x k)) (intersection half q (high_from w x k))
    unfolding intersection
    met_paired =
        ap (intersection wide_words (beside p q)) stored_halves
        ∙ intersection_beside half half p q lp (low_from w x k) (high_from w x k) (four_long low_four)
        ∙ joint (overlaps half p (low_from w x k)) (overlaps half q (high_from w x k)) _ _

  module _ {p q : Set} (fp : Four p) (fq : Four q) where
    pub overlaps_halves : overlaps wide_words (beside p q) (stored_at w x k)
        ≡ (overlaps half p (low_from w x k) && overlaps half q (high_from w x k))
    overlaps_halves =
        ap (overlaps wide_words (beside p q)) stored_halves
        ∙ overlaps_beside half half p q (four_long fp) (low_from w x k) (high_from w x k) (four_long low_four)

    pub met_halves : intersection wide_words (beside p q) (stored_at w x k)
        ≡ paired (intersection half p (low_from w x k)) (intersection half q (high_from w x k))
    met_halves = met_paired p q (four_long fp)

    pub undone_halves : undone wide_words (rewrite_stored w x k) (beside p q)
        ≡ paired (undone half (writing (low_from w x k)) p) (undone half (writing (high_from w x k)) q)
    unfolding undone
    undone_halves =
        ap (λ (r : Rewrite). undone wide_words r (beside p q)) rewrite_halves
        ∙ undone_beside half half p q (four_long fp) (writing (low_from w x k)) (writing (high_from w x k)) (four_long low_four)
        ∙ joint (overlaps half p (low_from w x k)) (overlaps half q (high_from w x k)) _ _

    pub before_halves : (t : Transfer) → met_before wide_words (stored_at w x k) t (beside p q)
        ≡ paired (met_before half (low_from w x k) t p) (intersection half q (high_from w x k))
    unfolding met_before bind paired
    before_halves t =
        ap (λ (o : Option Set). bind o (λ s. intersection wide_words s (stored_at w x k)))
        (untransferred_beside half half (omega arith) p q (four_long fp) (four_long fq) t)
        ∙ go (untransferred half t p) (λ s. untransferred_long t p s (four_long fp))
      where
        go : (o : Option Set) → ((s : Set) → o ≡ some s → Long half s)
            → bind (map (λ s. beside s q) o) (λ s. intersection wide_words s (stored_at w x k))
            ≡ paired (bind o (λ s. intersection half s (low_from w x k))) (intersection half q (high_from w x k))
        go none l = refl
        go (some s) l = met_paired s q (l s refl)

    pub free_halves : free wide_words (beside p q) (stored_at w x k) ≡ free half p (low_from w x k) ++ free half q (high_from w x k)
    free_halves =
        ap (free wide_words (beside p q)) stored_halves
        ∙ free_beside half half p q (four_long fp) (low_from w x k) (high_from w x k) (four_long low_four)

    pub none_free : no_bit wide_words (free wide_words (beside p q) (stored_at w x k))
        ≡ (no_bit half (free half p (low_from w x k)) && no_bit half (free half q (high_from w x k)))
    none_free =
        ap (no_bit wide_words) free_halves
        ∙ no_bit_beside half half (free half p (low_from w x k)) (free half q (high_from w x k)) refl

    pub covers_halves :
        (overlaps wide_words (beside p q) (stored_at w x k) && no_bit wide_words (free wide_words (beside p q) (stored_at w x k)))
        ≡ ((overlaps half p (low_from w x k) && no_bit half (free half p (low_from w x k)))
        && (overlaps half q (high_from w x k) && no_bit half (free half q (high_from w x k))))
    covers_halves = ap₂ ◌&&◌ overlaps_halves none_free
        ∙ regroup (overlaps half p (low_from w x k)) (overlaps half q (high_from w x k)) _ _
      where
        regroup : (a b c d : Bool) → ((a && b) && (c && d)) ≡ ((a && c) && (b && d))
        regroup true true c d = refl
        regroup true false true d = refl
        regroup true false false d = refl
        regroup false b c d = refl
