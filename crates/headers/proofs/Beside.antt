-- Words one after the other, and sets side by side: what is said of n + k words is said of the first n and of the last k. So a set of eight
-- words is made of two of four.
use mathlib.Core.Bool.{Bool, true, false, ◌&&◌, cond, and-true, and_assoc, true≢false}
use mathlib.Core.List.{List, [], ◌∷◌, ◌++◌, map}
use mathlib.Core.Option.{some, none}
use mathlib.Core.Path.{◌≡◌, refl, sym, ap, ap₂, ◌∙◌}
use Prim.Native.Nat.{ℕ, zero, suc, ◌+◌, ◌-◌, ◌*◌, ◌/◌, ◌%◌, ◌^◌, ◌≤◌, ◌<◌}
use native.Mathlib.Nat.{zero-add, add-zero, add-suc, suc-add}
use native.Mathlib.Decide.{ℕ_discrete, dec_lt}
use native.Mathlib.Omega.{arith}
use borrow.Author.Tests.{eq-eqb, ne_eqb}
use lib.Bits.{bit_and, bit_or}
use lib.Dec.{eqb}
use lib.ListN.{length, length-append, get_or-append}
use lib.Seq.{get_or-append-add}
use Rattle.headers.specs.Bits.{word, words, every, Words, complement, bit, bit_at, positions, keep_if, those, set_bits, single}
use Rattle.headers.specs.Bits.{first_of, first_set, first_bit, no_bit}
use Rattle.headers.specs.Sets.{Header, Set, Rewrite, same_on, overwrite, agree, overwritten, outside, both, either, contains, tidy}
use Rattle.headers.specs.Sets.{WellFormed, Written, beside, rewrite_beside, overlaps, joined, intersection, rewritten}
use Rattle.headers.specs.Sets.{writes, widened, undone, lowest}
use Rattle.headers.specs.Carving.{free, opposite, turned, taking}
use Rattle.headers.proofs.Positions.{every_same, words_same}
use Rattle.headers.proofs.SetBits.{first_of_lem, those_same, no_bit_none, none_no_bit}

-- ---- words

pub word_left : (n : ℕ) (a b : List ℕ) → length a ≡ n → (w : ℕ) → w < n → word (a ++ b) w ≡ word a w
word_left n a b e w l = get_or-append a b 0 w (omega arith)

pub word_right : (n : ℕ) (a b : List ℕ) → length a ≡ n → (w : ℕ) → word (a ++ b) (n + w) ≡ word b w
word_right n a b e w = ap (λ (i : ℕ). word (a ++ b) (i + w)) (sym e) ∙ get_or-append-add a b w 0

-- a list of n + k words, by its first n and its last k
pub words_beside : (n k : ℕ) (f g h : ℕ → ℕ) → ((w : ℕ) → w < n → f w ≡ g w)
    → ((w : ℕ) → w < k → f (n + w) ≡ h w)
    → words (n + k) f ≡ words n g ++ words k h
words_beside zero k f g h p q = ap (λ (m : ℕ). words m f) (zero-add k) ∙ words_same k f h (λ w l. ap f (sym (zero-add w)) ∙ q w l)
words_beside (suc n) k f g h p q =
    ap (λ (m : ℕ). words m f) (suc-add n k)
    ∙ ap₂ ◌∷◌ (p 0 (omega arith))
    (words_beside n k (λ w. f (suc w)) (λ w. g (suc w)) h (λ w l. p (suc w) (omega arith)) (λ w l. ap f (sym (suc-add n w)) ∙ q w l))

-- a test on n + k words, by its first n and its last k
pub every_beside : (n k : ℕ) (f g h : ℕ → Bool) → ((w : ℕ) → w < n → f w ≡ g w)
    → ((w : ℕ) → w < k → f (n + w) ≡ h w)
    → every (n + k) f ≡ (every n g && every k h)
every_beside n zero f g h p q = ap (λ (m : ℕ). every m f) (add-zero n) ∙ every_same n f g p ∙ sym (and-true (every n g))
every_beside n (suc k) f g h p q =
    ap (λ (m : ℕ). every m f) (add-suc n k)
    ∙ ap₂ ◌&&◌ (every_beside n k f g h p (λ w l. q w (omega arith))) (q k (omega arith))
    ∙ and_assoc (every n g) (every k h) (h k)

pub fits_beside : (n k : ℕ) (a b : List ℕ) → Words n a → Words k b → Words (n + k) (a ++ b)
fits_beside n k a b wa wb = record {
  long = length-append a b ∙ ap₂ ◌+◌ wa.long wb.long;
  fits = λ w l. go w l (dec_lt w n);
}
  where
    go : (w : ℕ) → w < n + k → Dec (w < n) → word (a ++ b) w < 2 ^ 32
    go w l (yes m) = rw (word_left n a b wa.long w m) (wa.fits w m)
    go w l (no m) =
        let e : w ≡ n + (w - n) = omega arith in
        rw (ap (word (a ++ b)) e ∙ word_right n a b wa.long (w - n)) (wb.fits (w - n) (omega arith))

-- ---- word by word

module _ (n k : ℕ) (a b : List ℕ) (la : length a ≡ n) where
  pub no_bit_beside : no_bit (n + k) (a ++ b) ≡ (no_bit n a && no_bit k b)
  no_bit_beside = every_beside n k _ _ _
      (λ w l. ap (λ (x : ℕ). eqb x 0) (word_left n a b la w l))
      (λ w l. ap (λ (x : ℕ). eqb x 0) (word_right n a b la w))

  pub opposite_beside : opposite (n + k) (a ++ b) ≡ opposite n a ++ opposite k b
  opposite_beside = words_beside n k _ _ _ (λ w l. ap complement (word_left n a b la w l)) (λ w l. ap complement (word_right n a b la w))

  module _ (c d : List ℕ) (lc : length c ≡ n) where
    each : (g : ℕ → ℕ → ℕ)
        → words (n + k) (λ w. g (word (a ++ b) w) (word (c ++ d) w))
        ≡ words n (λ w. g (word a w) (word c w)) ++ words k (λ w. g (word b w) (word d w))
    each g = words_beside n k _ _ _
        (λ w l. ap₂ g (word_left n a b la w l) (word_left n c d lc w l))
        (λ w l. ap₂ g (word_right n a b la w) (word_right n c d lc w))

    pub both_beside : both (n + k) (a ++ b) (c ++ d) ≡ both n a c ++ both k b d
    both_beside = each bit_and

    pub either_beside : either (n + k) (a ++ b) (c ++ d) ≡ either n a c ++ either k b d
    either_beside = each bit_or

    pub outside_beside : outside (n + k) (a ++ b) (c ++ d) ≡ outside n a c ++ outside k b d
    outside_beside = each (λ m x. bit_and x (complement m))

    module _ (x y : List ℕ) (lx : length x ≡ n) where
      pub overwritten_beside : overwritten (n + k) (a ++ b) (c ++ d) (x ++ y) ≡ overwritten n a c x ++ overwritten k b d y
      overwritten_beside = words_beside n k _ _ _
          (λ w l i. overwrite (word_left n a b la w l i) (word_left n c d lc w l i) (word_left n x y lx w l i))
          (λ w l i. overwrite (word_right n a b la w i) (word_right n c d lc w i) (word_right n x y lx w i))

      pub agree_beside : agree (n + k) (a ++ b) (c ++ d) (x ++ y) ≡ (agree n a c x && agree k b d y)
      agree_beside = every_beside n k _ _ _
          (λ w l i. same_on (word_left n a b la w l i) (word_left n c d lc w l i) (word_left n x y lx w l i))
          (λ w l i. same_on (word_right n a b la w i) (word_right n c d lc w i) (word_right n x y lx w i))

-- ---- sets side by side

-- care and value have n words each
pub record Long (n : ℕ) (s : Set) : Type 0 where
  pub care : length s.care ≡ n
  pub value : length s.value ≡ n

pub well_formed_long : {n : ℕ} {s : Set} → WellFormed n s → Long n s
well_formed_long w = record { care = w.care.long; value = w.value.long }

pub written_long : {n : ℕ} {r : Rewrite} → Written n r → Long n (writes r)
written_long w = record { care = w.mask.long; value = w.value.long }

module _ (n k : ℕ) (p q : Set) (lp : Long n p) where
  pub tidy_beside : tidy (n + k) (beside p q) ≡ (tidy n p && tidy k q)
  tidy_beside = every_beside n k _ _ _
      (λ w l i. untidy (word_left n p.value q.value lp.value w l i) (word_left n p.care q.care lp.care w l i))
      (λ w l i. untidy (word_right n p.value q.value lp.value w i) (word_right n p.care q.care lp.care w i))
    where
      untidy : ℕ → ℕ → Bool
      untidy v c = eqb (bit_and v (complement c)) 0

  pub contains_beside : (g h : Header) → length g ≡ n → contains (n + k) (beside p q) (g ++ h) ≡ (contains n p g && contains k q h)
  contains_beside g h lg = agree_beside n k p.care q.care lp.care g h lg p.value q.value lp.value

  pub lowest_beside : lowest (n + k) (beside p q) ≡ lowest n p ++ lowest k q
  lowest_beside = both_beside n k p.value q.value lp.value p.care q.care lp.care

  pub turned_beside : turned (n + k) (beside p q) ≡ beside (turned n p) (turned k q)
  turned_beside = λ i. record { care = p.care ++ q.care; value = opposite_beside n k p.value q.value lp.value i }

  pub widened_beside : (m o : List ℕ) → length m ≡ n → widened (n + k) (m ++ o) (beside p q) ≡ beside (widened n m p)
      (widened k o q)
  widened_beside m o lm = λ i. record {
    care = outside_beside n k m o lm p.care q.care lp.care i;
    value = outside_beside n k m o lm p.value q.value lp.value i;
  }

  module _ (b c : Set) (lb : Long n b) where
    pub overlaps_beside : overlaps (n + k) (beside p q) (beside b c) ≡ (overlaps n p b && overlaps k q c)
    overlaps_beside = every_beside n k _ _ _
        (λ w l i. same_on
        (bit_and (word_left n p.care q.care lp.care w l i) (word_left n b.care c.care lb.care w l i))
        (word_left n p.value q.value lp.value w l i) (word_left n b.value c.value lb.value w l i))
        (λ w l i. same_on
        (bit_and (word_right n p.care q.care lp.care w i) (word_right n b.care c.care lb.care w i))
        (word_right n p.value q.value lp.value w i) (word_right n b.value c.value lb.value w i))

    pub joined_beside : joined (n + k) (beside p q) (beside b c) ≡ beside (joined n p b) (joined k q c)
    joined_beside = λ i. record {
      care = either_beside n k p.care q.care lp.care b.care c.care lb.care i;
      value = either_beside n k p.value q.value lp.value b.value c.value lb.value i;
    }

    pub intersection_beside : intersection (n + k) (beside p q) (beside b c)
        ≡ cond (overlaps n p b && overlaps k q c) (some (beside (joined n p b) (joined k q c))) none
    unfolding intersection
    intersection_beside = λ i. cond (overlaps_beside i) (some (joined_beside i)) none

    pub free_beside : free (n + k) (beside p q) (beside b c) ≡ free n p b ++ free k q c
    free_beside = outside_beside n k p.care q.care lp.care b.care c.care lb.care

    pub taking_beside : (m o : List ℕ) → length m ≡ n
        → taking (n + k) (m ++ o) (beside b c) (beside p q) ≡ beside (taking n m b p) (taking k o c q)
    taking_beside m o lm = λ i. record {
      care = overwritten_beside n k m o lm b.care c.care lb.care p.care q.care lp.care i;
      value = overwritten_beside n k m o lm b.value c.value lb.value p.value q.value lp.value i;
    }

  pub undone_beside : (r s : Rewrite) → Long n (writes r) → undone (n + k) (rewrite_beside r s) (beside p q)
      ≡ cond (overlaps n p (writes r) && overlaps k q (writes s)) (some (beside (widened n r.mask p) (widened k s.mask q))) none
  unfolding undone
  undone_beside r s lr =
      λ i. cond (overlaps_beside (writes r) (writes s) lr i) (some (widened_beside r.mask s.mask lr.care i)) none

pub well_formed_beside : (n k : ℕ) (p q : Set) → WellFormed n p → WellFormed k q → WellFormed (n + k) (beside p q)
well_formed_beside n k p q wp wq = record {
  care = fits_beside n k p.care q.care wp.care wq.care;
  value = fits_beside n k p.value q.value wp.value wq.value;
  is_tidy = tidy_beside n k p q (well_formed_long wp) ∙ ap₂ ◌&&◌ wp.is_tidy wq.is_tidy;
}

pub written_beside : (n k : ℕ) (r s : Rewrite) → Written n r → Written k s → Written (n + k) (rewrite_beside r s)
written_beside n k r s wr ws = record {
  mask = fits_beside n k r.mask s.mask wr.mask ws.mask;
  value = fits_beside n k r.value s.value wr.value ws.value;
}

pub rewritten_beside : (n k : ℕ) (r s : Rewrite) → Long n (writes r) → (g h : Header) → length g ≡ n
    → rewritten (n + k) (rewrite_beside r s) (g ++ h) ≡ rewritten n r g ++ rewritten k s h
rewritten_beside n k r s lr g h lg =
    overwritten_beside n k r.mask s.mask lr.care r.value s.value lr.value g h lg

-- ---- the bits of words one after the other

positions_beside : (j m s : ℕ) → positions (j + m) s ≡ positions j s ++ positions m (s + j)
unfolding positions
positions_beside zero m s = ap₂ positions (zero-add m) (sym (add-zero s))
positions_beside (suc j) m s =
    ap (λ (x : ℕ). positions x s) (suc-add j m)
    ∙ ap (λ (l : List ℕ). s ∷ l) (positions_beside j m (suc s)
    ∙ ap (λ (x : ℕ). positions j (suc s) ++ positions m x) (let e : suc s + j ≡ s + suc j = omega arith in e))

those_beside : (t : ℕ → Bool) (l m : List ℕ) → those t (l ++ m) ≡ those t l ++ those t m
unfolding those
those_beside t [] m = refl
those_beside t (i ∷ l) m = ap (keep_if (t i) i) (those_beside t l m) ∙ go (t i)
  where
    go : (b : Bool) → keep_if b i (those t l ++ those t m) ≡ keep_if b i (those t l) ++ those t m
    go true = refl
    go false = refl

-- the positions from d + s on that pass are those from s on, moved by d
those_moved : (t u : ℕ → Bool) (d m s : ℕ) → ((i : ℕ) → s ≤ i → i < s + m → t (d + i) ≡ u i)
    → those t (positions m (d + s)) ≡ map (λ i. d + i) (those u (positions m s))
unfolding those positions
those_moved t u d zero s h = refl
those_moved t u d (suc m) s h =
    ap (λ (x : ℕ). keep_if (t (d + s)) (d + s) (those t (positions m x))) (let e : suc (d + s) ≡ d + suc s = omega arith in e)
    ∙ ap₂ (λ (b : Bool) (l : List ℕ). keep_if b (d + s) l) (h s (omega arith) (omega arith))
    (those_moved t u d m (suc s) (λ i l j. h i (omega arith) (omega arith)))
    ∙ go (u s)
  where
    go : (b : Bool) → keep_if b (d + s) (map (λ i. d + i) (those u (positions m (suc s))))
        ≡ map (λ i. d + i) (keep_if b s (those u (positions m (suc s))))
    go true = refl
    go false = refl

pub set_bits_beside : (n k : ℕ) (a b : List ℕ) → length a ≡ n
    → set_bits (n + k) (a ++ b) ≡ set_bits n a ++ map (λ i. n * 32 + i) (set_bits k b)
unfolding set_bits bit_at
set_bits_beside n k a b la =
    ap (λ (m : ℕ). those (bit_at (a ++ b)) (positions m 0)) (let e : (n + k) * 32 ≡ n * 32 + k * 32 = omega arith in e)
    ∙ ap (those (bit_at (a ++ b))) (positions_beside (n * 32) (k * 32) 0)
    ∙ those_beside (bit_at (a ++ b)) (positions (n * 32) 0) (positions (k * 32) (0 + n * 32))
    ∙ ap₂ ◌++◌
    (those_same _ _ (n * 32) 0 (λ i l m. ap (λ (x : ℕ). bit x (31 - i % 32)) (word_left n a b la (i / 32) (omega arith))))
    (ap (λ (x : ℕ). those (bit_at (a ++ b)) (positions (k * 32) x)) (let e : 0 + n * 32 ≡ n * 32 + 0 = omega arith in e)
    ∙ those_moved _ _ (n * 32) (k * 32) 0 (λ i l m.
    let q : (n * 32 + i) / 32 ≡ n + i / 32 = omega arith in
    let r : 31 - (n * 32 + i) % 32 ≡ 31 - i % 32 = omega arith in
    ap₂ (λ (w j : ℕ). bit (word (a ++ b) w) j) q r ∙ ap (λ (x : ℕ). bit x (31 - i % 32)) (word_right n a b la (i / 32))))

-- one bit, among the first n words or among the last k
pub single_left : (n k i : ℕ) → i < n * 32 → single (n + k) i ≡ single n i ++ words k (λ w. 0)
unfolding single
single_left n k i l = words_beside n k _ _ _ (λ w m. refl) (λ w m. rw (ne_eqb (n + w) (i / 32) (λ e. omega arith)))

single_right : (n k i : ℕ) → single (n + k) (n * 32 + i) ≡ words n (λ w. 0) ++ single k i
unfolding single
single_right n k i = words_beside n k _ _ _
    (λ w l. rw (ne_eqb w ((n * 32 + i) / 32) (λ e. omega arith)))
    (λ w l.
    let q : (n * 32 + i) / 32 ≡ n + i / 32 = omega arith in
    let r : (n * 32 + i) % 32 ≡ i % 32 = omega arith in
    rw (q, r) (ap (λ (b : Bool). cond b (2 ^ (31 - i % 32)) 0) (moved w (ℕ_discrete w (i / 32)))))
  where
    moved : (w : ℕ) → Dec (w ≡ i / 32) → eqb (n + w) (n + i / 32) ≡ eqb w (i / 32)
    moved w (yes d) = eq-eqb _ _ (ap (λ (v : ℕ). n + v) d) ∙ sym (eq-eqb _ _ d)
    moved w (no d) = ne_eqb (n + w) (n + i / 32) (λ e. d (omega arith)) ∙ sym (ne_eqb _ _ d)

-- the first bit that is set is among the first n words, or else among the last k
module _ (n k : ℕ) (a b : List ℕ) (wa : Words n a) where
  pub first_bit_left : no_bit n a ≡ false → first_bit (n + k) (a ++ b) ≡ first_bit n a ++ words k (λ w. 0)
  unfolding first_bit first_set set_bits
  first_bit_left e =
      ap (λ (l : List ℕ). single (n + k) (first_of ((n + k) * 32) l)) (set_bits_beside n k a b wa.long)
      ∙ go (those (bit_at a) (positions (n * 32) 0)) refl
    where
      go : (l : List ℕ) → set_bits n a ≡ l
          → single (n + k) (first_of ((n + k) * 32) (l ++ map (λ i. n * 32 + i) (set_bits k b)))
          ≡ single n (first_of (n * 32) l) ++ words k (λ w. 0)
      go [] d = absurd (true≢false (sym (none_no_bit n a wa d) ∙ e))
      go (i ∷ l) d = let f = first_of_lem _ (n * 32) 0 i l d in single_left n k i (omega (arith, f.high))

  pub first_bit_right : no_bit n a ≡ true → first_bit (n + k) (a ++ b) ≡ words n (λ w. 0) ++ first_bit k b
  unfolding first_bit first_set
  first_bit_right e =
      ap (λ (l : List ℕ). single (n + k) (first_of ((n + k) * 32) l))
      (set_bits_beside n k a b wa.long ∙ ap (λ (l : List ℕ). l ++ map (λ i. n * 32 + i) (set_bits k b)) (no_bit_none n a wa e))
      ∙ ap (single (n + k)) (go (set_bits k b))
      ∙ single_right n k (first_of (k * 32) (set_bits k b))
    where
      go : (l : List ℕ) → first_of ((n + k) * 32) (map (λ i. n * 32 + i) l) ≡ n * 32 + first_of (k * 32) l
      go [] = let z : (n + k) * 32 ≡ n * 32 + k * 32 = omega arith in z
      go (i ∷ l) = refl
