-- Sets with k more words that are wild: every operation on them is the operation on the sets, with k more wild words. So version 1's sets
-- of four words are handled as sets of eight.
use mathlib.Core.Bool.{Bool, true, false, ◌&&◌, cond, and-true}
use mathlib.Core.List.{List, [], ◌∷◌, ◌++◌, map, append-nil}
use mathlib.Core.Option
use mathlib.Core.Option.{some, none}
use mathlib.Core.Path.{◌≡◌, refl, ap, ap₂, ◌∙◌}
use Prim.Native.Nat.{ℕ, zero, suc, ◌+◌, ◌*◌, ◌≤◌, ◌<◌}
use native.Mathlib.Omega.{arith}
use lib.Bits.{bit_and, bit_or, and_zero_l, and_zero_r, or_zero_r}
use lib.Dec.{eqb}
use lib.ListN.{length}
use Rattle.headers.specs.Bits.{word, words, Words, complement, positions, keep_if, those, set_bits, single, no_bit}
use Rattle.headers.specs.Sets.{Header, Set, Rewrite, overwritten, outside, either, contains, tidy, WellFormed, Written, all_wild}
use Rattle.headers.specs.Sets.{beside, padded, padded_rewrite, overlaps, joined, intersection, rewritten, writes, widened}
use Rattle.headers.specs.Sets.{undone, lowest, no_rewrite}
use Rattle.headers.specs.Carving.{free, fixed, opposite, like, unlike, parts_at, parts, carve}
use Rattle.headers.proofs.Positions.{every_of, word_of, words_long, words_same, words_whole, single_fits}
use Rattle.headers.proofs.Members.{all_wild_well_formed, all_wild_contains, no_bits, outside_none}
use Rattle.headers.proofs.Undoing.{no_rewrite_keeps}
use Rattle.headers.proofs.SetBits.{no_bit_none}
use Rattle.headers.proofs.Beside.{Long, opposite_beside, either_beside, overwritten_beside, tidy_beside, contains_beside}
use Rattle.headers.proofs.Beside.{lowest_beside, overlaps_beside, intersection_beside, free_beside, undone_beside}
use Rattle.headers.proofs.Beside.{well_formed_beside, written_beside, rewritten_beside, set_bits_beside, single_left}

-- ---- no word more

pub padded_none : (s : Set) → padded 0 s ≡ s
padded_none s = λ i. record { care = append-nil s.care i; value = append-nil s.value i }

pub padded_rewrite_none : (r : Rewrite) → padded_rewrite 0 r ≡ r
padded_rewrite_none r = λ i. record { mask = append-nil r.mask i; value = append-nil r.value i }

-- ---- k words that are 0

abbrev zeros : ℕ → List ℕ
zeros k = words k (λ w. 0)

module _ (k : ℕ) where
  at_zero : (w : ℕ) → w < k → word (zeros k) w ≡ 0
  at_zero = word_of k (λ w. 0)

  -- what is made of them word by word
  of_zeros : (g : ℕ → ℕ → ℕ) → words k (λ w. g (word (zeros k) w) (word (zeros k) w)) ≡ words k (λ w. g 0 0)
  of_zeros g = words_same k _ _ (λ w l. ap₂ g (at_zero w l) (at_zero w l))

  outside_zeros : outside k (zeros k) (zeros k) ≡ zeros k
  outside_zeros = of_zeros (λ m x. bit_and x (complement m))

  overwritten_zeros : (x : List ℕ) → overwritten k (zeros k) x (zeros k) ≡ zeros k
  overwritten_zeros x = words_same k _ _ λ w l. rw (at_zero w l, and_zero_r (word x w))

  either_zeros : (a : List ℕ) → length a ≡ k → either k a (zeros k) ≡ a
  either_zeros a la = words_same k _ _ (λ w l. rw (at_zero w l) (or_zero_r (word a w))) ∙ words_whole k a la

  pub overlaps_wild : (s : Set) → overlaps k s (all_wild k) ≡ true
  overlaps_wild s = every_of k _ λ w l. rw (at_zero w l, and_zero_r (word s.care w), and_zero_r (word s.value w))

  joined_wild : (s : Set) → Long k s → joined k s (all_wild k) ≡ s
  joined_wild s ls = λ i. record { care = either_zeros s.care ls.care i; value = either_zeros s.value ls.value i }

  pub wild_long : Long k (all_wild k)
  wild_long = record { care = words_long k _; value = words_long k _ }

  no_bit_zeros : no_bit k (zeros k) ≡ true
  no_bit_zeros = every_of k _ (λ w l. ap (λ (x : ℕ). eqb x 0) (at_zero w l))

  none_set : set_bits k (zeros k) ≡ []
  none_set = no_bit_none k (zeros k) (no_bits k) no_bit_zeros

  -- a set met with the all-wild one is itself, and all of it is held there; and so is a set before the rewrite that masks no bit
  pub met_wild : (s : Set) → Long k s → intersection k s (all_wild k) ≡ some s
  unfolding intersection
  met_wild s ls = λ i. cond (overlaps_wild s i) (some (joined_wild s ls i)) none

  pub free_wild : (s : Set) → no_bit k (free k s (all_wild k)) ≡ true
  free_wild s = every_of k _ λ w l.
      ap (λ (x : ℕ). eqb x 0)
      (word_of k _ w l
      ∙ ap (λ (x : ℕ). bit_and x (complement (word s.care w))) (at_zero w l) ∙ and_zero_l (complement (word s.care w)))

  pub undone_wild : (s : Set) → Words k s.care → Words k s.value → undone k (no_rewrite k) s ≡ some s
  unfolding undone
  undone_wild s c v =
      λ i. cond (overlaps_wild s i) (some (record { care = outside_none k s.care c i; value = outside_none k s.value v i })) none

-- a test that the last k words pass too, and what they then are
passed : (o : Bool) (s q : Set) → cond (o && true) (some (beside s q)) none ≡ Option.map (λ s. beside s q) (cond o (some s) none)
passed true s q = refl
passed false s q = refl

-- ---- sets

module _ (n k : ℕ) (p : Set) where
  pub well_formed_padded : WellFormed n p → WellFormed (n + k) (padded k p)
  well_formed_padded wp = well_formed_beside n k p (all_wild k) wp (all_wild_well_formed k)

  module _ (lp : Long n p) where
    pub tidy_padded : tidy (n + k) (padded k p) ≡ tidy n p
    tidy_padded =
        tidy_beside n k p (all_wild k) lp
        ∙ ap (λ (b : Bool). tidy n p && b) (all_wild_well_formed k).is_tidy ∙ and-true (tidy n p)

    -- whatever a header's last k words are
    pub contains_padded : (g h : Header) → length g ≡ n → contains (n + k) (padded k p) (g ++ h) ≡ contains n p g
    contains_padded g h lg =
        contains_beside n k p (all_wild k) lp g h lg
        ∙ ap (λ (b : Bool). contains n p g && b) (all_wild_contains k h) ∙ and-true (contains n p g)

    pub lowest_padded : lowest (n + k) (padded k p) ≡ lowest n p ++ words k (λ w. 0)
    lowest_padded = lowest_beside n k p (all_wild k) lp ∙ ap (λ (l : List ℕ). lowest n p ++ l) (of_zeros k bit_and)

    pub undone_padded : (r : Rewrite) → Long n (writes r)
        → undone (n + k) (padded_rewrite k r) (padded k p) ≡ Option.map (padded k) (undone n r p)
    unfolding undone
    undone_padded r lr =
        undone_beside n k p (all_wild k) lp r (record { mask = zeros k; value = zeros k }) lr
        ∙ (λ i. cond (overlaps n p (writes r) && overlaps_wild k (all_wild k) i)
        (some (beside (widened n r.mask p) (record { care = outside_zeros k i; value = outside_zeros k i }))) none)
        ∙ passed (overlaps n p (writes r)) (widened n r.mask p) (all_wild k)

    module _ (b : Set) (lb : Long n b) where
      pub overlaps_padded : overlaps (n + k) (padded k p) (padded k b) ≡ overlaps n p b
      overlaps_padded =
          overlaps_beside n k p (all_wild k) lp b (all_wild k) lb
          ∙ ap (λ (o : Bool). overlaps n p b && o) (overlaps_wild k (all_wild k)) ∙ and-true (overlaps n p b)

      -- met with a set that is wild in the last k words, a set keeps its own there
      pub met_padded : (q : Set) → Long k q
          → intersection (n + k) (beside p q) (padded k b) ≡ Option.map (λ s. beside s q) (intersection n p b)
      unfolding intersection
      met_padded q lq =
          intersection_beside n k p q lp b (all_wild k) lb
          ∙ (λ i. cond (overlaps n p b && overlaps_wild k q i) (some (beside (joined n p b) (joined_wild k q lq i))) none)
          ∙ passed (overlaps n p b) (joined n p b) q

      pub intersection_padded : intersection (n + k) (padded k p) (padded k b) ≡ Option.map (padded k) (intersection n p b)
      intersection_padded = met_padded (all_wild k) (wild_long k)

      pub free_padded : free (n + k) (padded k p) (padded k b) ≡ free n p b ++ words k (λ w. 0)
      free_padded = free_beside n k p (all_wild k) lp b (all_wild k) lb ∙ ap (λ (l : List ℕ). free n p b ++ l) (outside_zeros k)

      free_bits_padded : set_bits (n + k) (free (n + k) (padded k p) (padded k b)) ≡ set_bits n (free n p b)
      free_bits_padded =
          ap (set_bits (n + k)) free_padded
          ∙ set_bits_beside n k (free n p b) (zeros k) (words_long n _)
          ∙ ap (λ (l : List ℕ). set_bits n (free n p b) ++ map (λ i. n * 32 + i) l) (none_set k)
          ∙ append-nil (set_bits n (free n p b))

-- ---- rewriting

pub written_padded : (n k : ℕ) (r : Rewrite) → Written n r → Written (n + k) (padded_rewrite k r)
written_padded n k r wr = written_beside n k r _ wr (record { mask = no_bits k; value = no_bits k })

-- whatever a header's last k words are
pub rewritten_padded : (n k : ℕ) (r : Rewrite) → Long n (writes r) → (g h : Header) → length g ≡ n → Words k h
    → rewritten (n + k) (padded_rewrite k r) (g ++ h) ≡ rewritten n r g ++ h
rewritten_padded n k r lr g h lg wh =
    rewritten_beside n k r _ lr g h lg ∙ ap (λ (l : List ℕ). rewritten n r g ++ l) (no_rewrite_keeps k h wh)

-- ---- carving

-- every number of a list is below m
unfoldable Below : ℕ → List ℕ → Type 0
Below m [] = Unit {0}
Below m (i ∷ l) = (i < m) × Below m l

those_below : (t : ℕ → Bool) (m k s : ℕ) → s + k ≤ m → Below m (those t (positions k s))
unfolding Below those positions
those_below t m zero s h = tt
those_below t m (suc k) s h = go (t s) (those_below t m k (suc s) (omega arith))
  where
    go : (b : Bool) → Below m (those t (positions k (suc s))) → Below m (keep_if b s (those t (positions k (suc s))))
    go true r = (omega arith, r)
    go false r = r

module _ (n k : ℕ) (b : Set) (lb : Long n b) where
  module _ (p : Set) (lp : Long n p) (i : ℕ) (inside : i < n * 32) where
    fixed_padded : (x y : List ℕ) → length x ≡ n
        → fixed (n + k) (single (n + k) i) (x ++ y) (padded k p) ≡ padded k (fixed n (single n i) x p)
    fixed_padded x y lx =
        ap (λ (m : List ℕ). fixed (n + k) m (x ++ y) (padded k p)) (single_left n k i inside)
        ∙ λ j. record {
          care = (either_beside n k p.care (zeros k) lp.care (single n i) (zeros k) long
              ∙ ap (λ (l : List ℕ). either n p.care (single n i) ++ l) (of_zeros k bit_or)) j;
          value = (overwritten_beside n k (single n i) (zeros k) long x y lx p.value (zeros k) lp.value
              ∙ ap (λ (l : List ℕ). overwritten n (single n i) x p.value ++ l) (overwritten_zeros k y)) j;
        }
      where
        long : length (single n i) ≡ n
        long = (single_fits n i).long

    like_padded : like (n + k) (padded k p) (padded k b) i ≡ padded k (like n p b i)
    like_padded = fixed_padded b.value (zeros k) lb.value

    unlike_padded : unlike (n + k) (padded k p) (padded k b) i ≡ padded k (unlike n p b i)
    unlike_padded =
        ap (λ (x : List ℕ). fixed (n + k) (single (n + k) i) x (padded k p)) (opposite_beside n k b.value (zeros k) lb.value)
        ∙ fixed_padded (opposite n b.value) (opposite k (zeros k)) (words_long n _)

  parts_padded : (l : List ℕ) → Below (n * 32) l → (p : Set) → Long n p
      → parts_at (n + k) (padded k p) (padded k b) l ≡ map (padded k) (parts_at n p b l)
  unfolding parts_at Below
  parts_padded [] h p lp = refl
  parts_padded (i ∷ l) h p lp =
      ap₂ ◌∷◌ (unlike_padded p lp i h.0)
      (ap (λ (q : Set). parts_at (n + k) q (padded k b) l) (like_padded p lp i h.0)
      ∙ parts_padded l h.1 (like n p b i) (record { care = words_long n _; value = words_long n _ }))

  -- the parts are the same, in the same order
  pub carve_padded : (p : Set) → Long n p → carve (n + k) (padded k p) (padded k b) ≡ map (padded k) (carve n p b)
  unfolding carve parts set_bits
  carve_padded p lp =
      (λ i. cond (overlaps_padded n k p lp b lb i)
      (parts_at (n + k) (padded k p) (padded k b) (free_bits_padded n k p lp b lb i)) (padded k p ∷ []))
      ∙ ap (λ (l : List Set). cond (overlaps n p b) l (padded k p ∷ [])) (parts_padded (set_bits n (free n p b)) below p lp)
      ∙ go (overlaps n p b)
    where
      below : Below (n * 32) (set_bits n (free n p b))
      below = those_below _ (n * 32) (n * 32) 0 (omega arith)

      go : (o : Bool) → cond o (map (padded k) (parts_at n p b (set_bits n (free n p b)))) (padded k p ∷ [])
          ≡ map (padded k) (cond o (parts_at n p b (set_bits n (free n p b))) (p ∷ []))
      go true = refl
      go false = refl
