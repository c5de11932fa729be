-- Membership bit by bit, well-formed sets, the lowest header, what masks make, and sets with the same members. For any number of words.
-- Assumes nothing.
use mathlib.Core.Bool.{Bool, true, false, not, ◌&&◌, ◌||◌, true≢false, false≢true, and-true}
use mathlib.Core.List.{List}
use mathlib.Core.Logic.{◌↔◌}
use mathlib.Core.Option.{Option, some, none}
use mathlib.Core.Path.{◌≡◌, refl, sym, ap, ap₂, ◌∙◌}
use Prim.Native.Nat.{ℕ, ◌-◌, ◌*◌, ◌/◌, ◌%◌, ◌<◌}
use native.Mathlib.Nat.{lt_of_le_of_lt}
use native.Mathlib.Omega.{arith}
use lib.Bits.{bit_and, and_le_l, and_le_r, or_lt}
use lib.Dec.{eqb}
use borrow.Author.Tests.{eq-eqb}
use Rattle.headers.specs.Bits.{word, words, every, Words, complement, bit_at, single}
use Rattle.headers.specs.Sets.{Header, Set, Rewrite, overwritten, outside, contains, tidy, WellFormed, Written, all_wild, among}
use Rattle.headers.specs.Sets.{rewritten, lowest, Lower}
use Rattle.headers.proofs.Booleans.{◌⇒◌, ◌==◌, and_fst, both_ways, same_true, true_same, implied, implies}
use Rattle.headers.proofs.BitLaws.{bit_and_lem, bit_or_lem, bit_zero}
use Rattle.headers.proofs.Positions.{at, every_at, every_of, every_same, words_fit, bit_of_words, complement_at, words_ext, same_on_bits}
use Rattle.headers.proofs.Positions.{zero_bits_lem, single_bit, single_fits}

-- ---- membership

module _ (n : ℕ) (s : Set) (care : Words n s.care) where
  pub contains_bits : (h : Header) → contains n s h ≡ every (n * 32) (λ i. bit_at s.care i ⇒ bit_at h i == bit_at s.value i)
  unfolding bit_at
  contains_bits h = same_on_bits n (word s.care) (word h) (word s.value) care.fits

  -- a header is in a set exactly if it equals the value on every care bit
  pub member_exactly : (h : Header)
      → contains n s h ≡ true ↔ ((i : ℕ) → i < n * 32 → bit_at s.care i ≡ true → bit_at h i ≡ bit_at s.value i)
  member_exactly h = (
    (λ e i l c. same_true _ _ (implied _ _ (every_at (n * 32) _ (sym (contains_bits h) ∙ e) i l) c)),
    λ f. contains_bits h ∙ every_of (n * 32) _ (λ i l. implies _ _ (λ c. true_same _ _ (f i l c))),
  )

-- ---- well-formed sets

only_inside : (v c : Bool) → not (v && not c) ≡ (v ⇒ c)
only_inside true true = refl
only_inside true false = refl
only_inside false c = refl

-- a value bit is set only where the set cares
tidy_bits : (n : ℕ) (s : Set) → Words n s.care → tidy n s ≡ every (n * 32) (λ i. bit_at s.value i ⇒ bit_at s.care i)
unfolding bit_at
tidy_bits n s care =
    zero_bits_lem n (λ w. bit_and (word s.value w) (complement (word s.care w)))
    (λ w l. lt_of_le_of_lt (and_le_r (word s.value w) _) (omega arith))
    ∙ every_same (n * 32) _ _ λ i l.
    ap not (bit_and_lem _ _ _
    ∙ ap (λ (x : Bool). at (word s.value) i && x) (complement_at (word s.care) i (care.fits (i / 32) (omega arith))))
    ∙ only_inside (at (word s.value) i) (at (word s.care) i)

pub value_inside : (n : ℕ) (s : Set) → WellFormed n s → (i : ℕ) → i < n * 32 → (bit_at s.value i ⇒ bit_at s.care i) ≡ true
value_inside n s w = every_at (n * 32) _ (sym (tidy_bits n s w.care) ∙ w.is_tidy)

pub well_formed : (n : ℕ) (s : Set) → Words n s.care → Words n s.value
    → ((i : ℕ) → i < n * 32 → (bit_at s.value i ⇒ bit_at s.care i) ≡ true) → WellFormed n s
well_formed n s c v h = record { care = c; value = v; is_tidy = tidy_bits n s c ∙ every_of (n * 32) _ h }

pub no_bit_lem : (n i : ℕ) → i < n * 32 → bit_at (words n (λ w. 0)) i ≡ false
no_bit_lem n i l = bit_of_words n (λ w. 0) i l ∙ bit_zero (31 - i % 32)

pub no_bits : (n : ℕ) → Words n (words n (λ w. 0))
no_bits n = words_fit n (λ w. 0) (λ w l. omega arith)

pub all_wild_well_formed : (n : ℕ) → WellFormed n (all_wild n)
all_wild_well_formed n = well_formed n (all_wild n) (no_bits n) (no_bits n)
    (λ i l. ap (λ (b : Bool). b ⇒ bit_at (words n (λ w. 0)) i) (no_bit_lem n i l))

-- every header is in the all-wild set
pub all_wild_contains : (n : ℕ) (h : Header) → contains n (all_wild n) h ≡ true
all_wild_contains n h = (member_exactly n (all_wild n) (no_bits n) h).1 (λ i l c. absurd (true≢false (sym c ∙ no_bit_lem n i l)))

-- ---- the lowest header

module _ (n : ℕ) (s : Set) (care : Words n s.care) where
  pub lowest_fits : Words n (lowest n s)
  lowest_fits = words_fit n _ (λ w l. lt_of_le_of_lt (and_le_r (word s.value w) _) (care.fits w l))

  lowest_bit : (i : ℕ) → i < n * 32 → bit_at (lowest n s) i ≡ (bit_at s.value i && bit_at s.care i)
  unfolding bit_at
  lowest_bit i l = bit_of_words n (λ w. bit_and (word s.value w) (word s.care w)) i l ∙ bit_and_lem _ _ _

  -- it is in the set
  pub lowest_member : contains n s (lowest n s) ≡ true
  lowest_member = (member_exactly n s care (lowest n s)).1 λ i l c. lowest_bit i l ∙ ap (λ (x : Bool). bit_at s.value i && x) c
      ∙ mathlib.Core.Bool.and-true (bit_at s.value i)

  -- no member is lower
  pub lowest_least : (h : Header) → contains n s h ≡ true → Lower n h (lowest n s) → ⊥
  lowest_least h e lower =
      let i : ℕ = lower.at in
      let v : (bit_at s.value i && bit_at s.care i) ≡ true = sym (lowest_bit i lower.inside) ∙ lower.h_has in
      let c : bit_at s.care i ≡ true = Rattle.headers.proofs.Booleans.and_snd (bit_at s.value i) _ v in
      true≢false (sym (and_fst _ _ v) ∙ sym ((member_exactly n s care h).0 e i lower.inside c) ∙ lower.g_has)

-- of a well-formed set it is the value
pub lowest_value : (n : ℕ) (s : Set) → WellFormed n s → lowest n s ≡ s.value
lowest_value n s w = words_ext n (lowest n s) s.value (lowest_fits n s w.care) w.value
    (λ i l. lowest_bit n s w.care i l ∙ absorbed _ _ (value_inside n s w i l))
  where
    absorbed : (v c : Bool) → (v ⇒ c) ≡ true → (v && c) ≡ v
    absorbed true c e = e
    absorbed false c e = refl

-- ---- what masks make

pub outside_bit : (n : ℕ) (m l : List ℕ) → Words n m → (i : ℕ) → i < n * 32
    → bit_at (outside n m l) i ≡ (bit_at l i && not (bit_at m i))
unfolding bit_at
outside_bit n m l f i k =
    bit_of_words n _ i k ∙ bit_and_lem _ _ _
    ∙ ap (λ (b : Bool). at (word l) i && b) (complement_at (word m) i (f.fits (i / 32) (omega arith)))

pub outside_fits : (n : ℕ) (m l : List ℕ) → Words n l → Words n (outside n m l)
outside_fits n m l f = words_fit n _ (λ w k. lt_of_le_of_lt (and_le_l (word l w) _) (f.fits w k))

pub overwritten_bit : (n : ℕ) (m x l : List ℕ) → Words n m → (i : ℕ) → i < n * 32
    → bit_at (overwritten n m x l) i ≡ (bit_at l i && not (bit_at m i) || bit_at x i && bit_at m i)
unfolding bit_at
overwritten_bit n m x l f i k =
    bit_of_words n _ i k ∙ bit_or_lem _ _ _
    ∙ ap₂ ◌||◌
    (bit_and_lem _ _ _ ∙ ap (λ (b : Bool). at (word l) i && b) (complement_at (word m) i (f.fits (i / 32) (omega arith))))
    (bit_and_lem _ _ _)

pub overwritten_fits : (n : ℕ) (m x l : List ℕ) → Words n x → Words n (overwritten n m x l)
overwritten_fits n m x l f = words_fit n _ λ w k.
    or_lt 32 _ _
    (lt_of_le_of_lt (and_le_r (word l w) (complement (word m w))) (omega arith))
    (lt_of_le_of_lt (and_le_l (word x w) (word m w)) (f.fits w k))

-- a mask of no bits leaves all of a list
module _ (n : ℕ) (l : List ℕ) (fits : Words n l) where
  pub outside_none : outside n (words n (λ w. 0)) l ≡ l
  outside_none = words_ext n _ l (outside_fits n (words n (λ w. 0)) l fits) fits λ i k.
      outside_bit n (words n (λ w. 0)) l (no_bits n) i k
      ∙ ap (λ (b : Bool). bit_at l i && not b) (no_bit_lem n i k) ∙ and-true (bit_at l i)

  pub overwritten_none : (x : List ℕ) → Words n x → overwritten n (words n (λ w. 0)) x l ≡ l
  overwritten_none x fx = words_ext n _ l (overwritten_fits n (words n (λ w. 0)) x l fx) fits λ i k.
      overwritten_bit n (words n (λ w. 0)) x l (no_bits n) i k
      ∙ ap (λ (b : Bool). bit_at l i && not b || bit_at x i && b) (no_bit_lem n i k) ∙ kept (bit_at l i) (bit_at x i)
    where
      kept : (a b : Bool) → (a && true || b && false) ≡ a
      kept true b = refl
      kept false true = refl
      kept false false = refl

-- ---- empty

-- an answer that holds exactly the headers of P is empty exactly if P holds of none
pub empty_exactly : (n : ℕ) (o : Option Set) (P : Header → Bool) → ((s : Set) → o ≡ some s → Words n s.care)
    → ((h : Header) → Words n h → among n o h ≡ P h) → (o ≡ none) ↔ ((h : Header) → Words n h → P h ≡ false)
empty_exactly n o P fits exact = (
  (λ e h w. sym (exact h w) ∙ ap (λ (x : Option Set). among n x h) e),
  go o refl,
)
  where
    go : (x : Option Set) → o ≡ x → ((h : Header) → Words n h → P h ≡ false) → o ≡ none
    go none e f = e
    go (some s) e f =
        let c : Words n s.care = fits s e in
        let h : Header = lowest n s in
        absurd (true≢false
        (sym (lowest_member n s c) ∙ ap (λ (x : Option Set). among n x h) (sym e) ∙ exact h (lowest_fits n s c)
        ∙ f h (lowest_fits n s c)))

-- ---- sets with the same members

-- h with the bit at position i turned round
flipped : ℕ → Header → ℕ → Header
flipped n h i = rewritten n (record { mask = single n i; value = words n (λ w. complement (word h w)) }) h

pub rewritten_bit_lem : (n : ℕ) (r : Rewrite) → Words n r.mask → (h : Header) (i : ℕ) → i < n * 32
    → bit_at (rewritten n r h) i ≡ (bit_at h i && not (bit_at r.mask i) || bit_at r.value i && bit_at r.mask i)
rewritten_bit_lem n r m h = overwritten_bit n r.mask r.value h m

pub rewritten_fits : (n : ℕ) (r : Rewrite) → Written n r → (h : Header) → Words n (rewritten n r h)
rewritten_fits n r f h = overwritten_fits n r.mask r.value h f.value

module _ (n : ℕ) (h : Header) (fh : Words n h) where
  flipped_bit : (i j : ℕ) → j < n * 32 → bit_at (flipped n h i) j ≡ (bit_at h j && not (eqb i j) || not (bit_at h j) && eqb i j)
  unfolding flipped bit_at
  flipped_bit i j l =
      rewritten_bit_lem n (record { mask = single n i; value = words n (λ w. complement (word h w)) }) (single_fits n i) h j l
      ∙ ap₂ (λ (x y : Bool). bit_at h j && not x || y && x) (single_bit n i j l)
      (bit_of_words n (λ w. complement (word h w)) j l ∙ complement_at (word h) j (fh.fits (j / 32) (omega arith)))

module _ (n : ℕ) (a b : Set) (wa : WellFormed n a) (wb : WellFormed n b) (same : (h : Header) → Words n h
    → contains n a h ≡ contains n b h) where
  -- where a cares so does b: else a member of a, with that bit turned round, would be in b and not in a
  cares_too : (i : ℕ) → i < n * 32 → bit_at a.care i ≡ true → bit_at b.care i ≡ true
  unfolding flipped
  cares_too i l ca = go (bit_at b.care i) refl
    where
      low : Header
      low = lowest n a

      turned : Header
      turned = flipped n low i

      in_b : contains n b low ≡ true
      in_b = sym (same low (lowest_fits n a wa.care)) ∙ lowest_member n a wa.care

      turned_fits : Words n turned
      turned_fits = rewritten_fits n _ (record { mask = single_fits n i; value = words_fit n _ (λ w l. omega arith) }) low

      elsewhere : (j : ℕ) → j < n * 32 → (i ≡ j → ⊥) → bit_at turned j ≡ bit_at low j
      elsewhere j m d =
          flipped_bit n low (lowest_fits n a wa.care) i j m
          ∙ ap (λ (x : Bool). bit_at low j && not x || not (bit_at low j) && x) (borrow.Author.Tests.ne_eqb i j d)
          ∙ kept (bit_at low j)
        where
          kept : (x : Bool) → (x && true || not x && false) ≡ x
          kept true = refl
          kept false = refl

      here : bit_at turned i ≡ not (bit_at low i)
      here =
          flipped_bit n low (lowest_fits n a wa.care) i i l
          ∙ ap (λ (x : Bool). bit_at low i && not x || not (bit_at low i) && x) (eq-eqb i i refl)
          ∙ changed (bit_at low i)
        where
          changed : (x : Bool) → (x && false || not x && true) ≡ not x
          changed true = refl
          changed false = refl

      go : (x : Bool) → bit_at b.care i ≡ x → x ≡ true
      go true e = refl
      go false e = absurd (odd (bit_at low i) (sym here
          ∙ (member_exactly n a wa.care turned).0 (same turned turned_fits ∙ turned_in_b) i l ca
          ∙ sym ((member_exactly n a wa.care low).0 (lowest_member n a wa.care) i l ca)))
        where
          odd : (x : Bool) → not x ≡ x → ⊥
          odd true d = false≢true d
          odd false d = true≢false d

          turned_in_b : contains n b turned ≡ true
          turned_in_b = (member_exactly n b wb.care turned).1 λ j m c.
              elsewhere j m (λ d. true≢false (sym c ∙ ap (bit_at b.care) (sym d) ∙ e))
              ∙ (member_exactly n b wb.care low).0 in_b j m c

-- a well-formed set is its members: two with the same members are equal
pub same_members : (n : ℕ) (a b : Set) → WellFormed n a → WellFormed n b
    → ((h : Header) → Words n h → contains n a h ≡ contains n b h) → a ≡ b
same_members n a b wa wb same = λ i. record { care = cares i; value = values i }
  where
    cares : a.care ≡ b.care
    cares = words_ext n a.care b.care wa.care wb.care
        (λ i l. both_ways _ _ (cares_too n a b wa wb same i l) (cares_too n b a wb wa (λ h f. sym (same h f)) i l))

    low_in_b : contains n b (lowest n a) ≡ true
    low_in_b = sym (same (lowest n a) (lowest_fits n a wa.care)) ∙ lowest_member n a wa.care

    values : a.value ≡ b.value
    values = words_ext n a.value b.value wa.value wb.value
        (λ i l. go i l (bit_at a.care i) refl)
      where
        unset : (v c : Bool) → (v ⇒ c) ≡ true → c ≡ false → v ≡ false
        unset true c e z = absurd (true≢false (sym e ∙ z))
        unset false c e z = refl

        go : (i : ℕ) → i < n * 32 → (x : Bool) → bit_at a.care i ≡ x → bit_at a.value i ≡ bit_at b.value i
        go i l true e =
            ap (λ (x : List ℕ). bit_at x i) (sym (lowest_value n a wa))
            ∙ (member_exactly n b wb.care (lowest n a)).0 low_in_b i l (cares_too n a b wa wb same i l e)
        go i l false e =
            unset (bit_at a.value i) (bit_at a.care i) (value_inside n a wa i l) e
            ∙ sym (unset (bit_at b.value i) (bit_at b.care i) (value_inside n b wb i l) (ap (λ (x : List ℕ). bit_at x i) (sym cares)
            ∙ e))
