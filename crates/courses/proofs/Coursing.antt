-- Actions one after the other are one course, and undoing it is undoing them one by one (H19), for any number of words from two on.
use mathlib.Core.Bool.{Bool, false, not, ◌&&◌, ◌||◌, true≢false}
use mathlib.Core.List.{List, [], ◌∷◌}
use mathlib.Core.Option.{Option, some, none, bind}
use mathlib.Core.Path.{◌≡◌, refl, sym, ap, ap₂, ◌∙◌, subst}
use Prim.Native.Nat.{ℕ, zero, suc, ◌+◌, ◌*◌, ◌/◌, ◌%◌, ◌≤◌, ◌<◌}
use native.Mathlib.Nat.{lt_of_le_of_lt}
use native.Mathlib.Omega.{arith}
use lib.Bits.{bit_or, and_le_l, or_lt}
use Rattle.headers.specs.Bits.{word, every, Words, bit_at}
use Rattle.headers.specs.Sets.{Header, Set, same_on, contains, WellFormed, Written, all_wild, intersection, among, lowest}
use Rattle.headers.specs.Sets.{rewritten, undone, no_rewrite}
use Rattle.headers.specs.Actions.{Act, moved, transferred, acted, wanted_of, unacted}
use Rattle.courses.specs.Courses.{Course, coursed, gathered, uncoursed, source, course_of, followed, course_of_all, acted_all}
use Rattle.courses.specs.Courses.{unacted_all}
use Rattle.headers.specs.declared.Transfer.{Transfer}
use Rattle.headers.specs.declared.Transfer.TheVariants.{Keep, Copy, Swap}
use Rattle.headers.proofs.Booleans.{◌==◌, same_true, always}
use Rattle.headers.proofs.BitLaws.{bit_or_lem}
use Rattle.headers.proofs.Positions.{word_of, words_fit, words_same, words_again, words_ext, bit_of_words}
use Rattle.headers.proofs.Members.{rewritten_bit_lem, rewritten_fits, all_wild_well_formed, all_wild_contains, lowest_member, lowest_fits}
use Rattle.headers.proofs.Members.{same_members, no_bits}
use Rattle.headers.proofs.Intersection.{intersection_exact, intersection_well_formed}
use Rattle.headers.proofs.Undoing.{undone_exact, undone_well_formed, no_rewrite_keeps}
use Rattle.headers.proofs.Acting.{contains_moved, wanted_exact, wanted_well_formed, copied_inside, swapped_inside, acted_fits}
use Rattle.headers.proofs.Acting.{unacted_exact, unacted_well_formed}

-- ---- an answer is its headers

-- the set of an answer, if it has one, is well-formed
abbrev Formed : ℕ → Option Set → Type 0
Formed n o = (s : Set) → o ≡ some s → WellFormed n s

formed_next : (n : ℕ) (o : Option Set) (next : Set → Option Set) → Formed n o
    → ((s : Set) → WellFormed n s → Formed n (next s)) → Formed n (bind o next)
unfolding bind
formed_next n none next f each s e = let z : ◌≡◌ {A = ℕ} 0 1 = cc in absurd (omega arith)
formed_next n (some u) next f each s e = each u (f u refl) s e

-- the headers of the next answer, where a step is exact on every well-formed set, for a test that 'empty' fails
among_next : (n : ℕ) (o : Option Set) (next : Set → Option Set) (test : Bool → Bool) (h g : Header)
    → test false ≡ false → Formed n o
    → ((s : Set) → WellFormed n s → among n (next s) h ≡ test (contains n s g)) → among n (bind o next) h ≡ test (among n o g)
unfolding bind
among_next n none next test h g fails f exact = sym fails
among_next n (some u) next test h g fails f exact = exact u (f u refl)

-- two answers with the same headers are equal
same_answers : (n : ℕ) (o q : Option Set) → Formed n o → Formed n q
    → ((h : Header) → Words n h → among n o h ≡ among n q h) → o ≡ q
same_answers n none none fo fq same = refl
same_answers n none (some s) fo fq same =
    let c = (fq s refl).care in absurd (true≢false (sym (lowest_member n s c) ∙ sym (same (lowest n s) (lowest_fits n s c))))
same_answers n (some s) none fo fq same =
    let c = (fo s refl).care in absurd (true≢false (sym (lowest_member n s c) ∙ same (lowest n s) (lowest_fits n s c)))
same_answers n (some s) (some u) fo fq same = ap some (same_members n s u (fo s refl) (fq u refl) same)

-- ---- undoing a course

-- the wants of t on its first v words
module _ (n : ℕ) (from : ℕ → ℕ) (inside : (w : ℕ) → w < n → from w < n) (t : Set) (wt : WellFormed n t) where
  gathered_formed : (v : ℕ) → v ≤ n → Formed n (gathered n from t v)
  unfolding gathered
  gathered_formed zero l = λ s e. let d : all_wild n ≡ s = cc in subst (WellFormed n) d (all_wild_well_formed n)
  gathered_formed (suc v) l =
      formed_next n (gathered n from t v) _ (gathered_formed v (omega arith)) λ s ws.
      intersection_well_formed n s _ ws (wanted_well_formed n t wt _ v (omega arith))

  gathered_exact : (h : Header) (v : ℕ) → v ≤ n
      → among n (gathered n from t v) h ≡ every v (λ w. same_on (word t.care w) (word h (from w)) (word t.value w))
  unfolding gathered
  gathered_exact h zero l = all_wild_contains n h
  gathered_exact h (suc v) l =
      among_next n (gathered n from t v) (λ s. intersection n s (wanted_of n (from v) v t))
      (λ b. b && contains n (wanted_of n (from v) v t) h) h h
      refl (gathered_formed v (omega arith))
      (λ s ws. intersection_exact n s _ ws (wanted_well_formed n t wt (from v) v (omega arith)) h)
      ∙ ap₂ ◌&&◌ (gathered_exact h v (omega arith)) (wanted_exact n t h (from v) v (inside v (omega arith)))

-- a course over n words
pub record Within (n : ℕ) (c : Course) : Type 0 where
  pub inside : (w : ℕ) → w < n → word c.from w < n
  pub written : Written n c.rewrite

module _ (n : ℕ) (c : Course) (k : Within n c) (t : Set) (wt : WellFormed n t) where
  unwritten_formed : Formed n (undone n c.rewrite t)
  unwritten_formed = undone_well_formed n c.rewrite t k.written.mask wt

  pub uncoursed_well_formed : Formed n (uncoursed n c t)
  unfolding uncoursed
  uncoursed_well_formed =
      formed_next n (undone n c.rewrite t) (λ s. gathered n (word c.from) s n) unwritten_formed λ s ws.
      gathered_formed n (word c.from) k.inside s ws n (omega arith)

  -- a header is in the undone set exactly if the course makes it into a header of the set
  pub uncoursed_exact : (h : Header) → among n (uncoursed n c t) h ≡ contains n t (coursed n c h)
  unfolding uncoursed
  uncoursed_exact h =
      among_next n (undone n c.rewrite t) (λ s. gathered n (word c.from) s n)
      (λ b. b) h (moved n (word c.from) h) refl unwritten_formed
      (λ s ws. gathered_exact n (word c.from) k.inside s ws h n (omega arith) ∙ sym (contains_moved n s h (word c.from)))
      ∙ undone_exact n c.rewrite t k.written.mask wt.care (moved n (word c.from) h)

-- ---- one course after another

-- the position from which position i is brought
brought : (ℕ → ℕ) → ℕ → ℕ
brought from i = from (i / 32) * 32 + i % 32

module _ (from : ℕ → ℕ) (i : ℕ) where
  brought_word : brought from i / 32 ≡ from (i / 32)
  unfolding brought
  brought_word = omega arith

  brought_bit : brought from i % 32 ≡ i % 32
  unfolding brought
  brought_bit = omega arith

moved_bit : (n : ℕ) (from : ℕ → ℕ) (h : Header) (i : ℕ) → i < n * 32 → bit_at (moved n from h) i ≡ bit_at h (brought from i)
unfolding bit_at
moved_bit n from h i l = bit_of_words n (λ w. word h (from w)) i l ∙ rw (brought_word from i, brought_bit from i)

-- a bit of what a rewrite makes: of the header's bit, the mask's and the value's
abbrev rewritten_bit : Bool → Bool → Bool → Bool
rewritten_bit h m v = h && not m || v && m

module _ (n : ℕ) (c d : Course) (kc : Within n c) (kd : Within n d) where
  abbrev both : Course
  both = followed n c d

  abbrev first : ℕ → ℕ
  first = word c.from

  abbrev last : ℕ → ℕ
  last = word d.from

  -- what the two rewrites make of a bit that is brought to position i
  abbrev by_first : ℕ → Bool → Bool
  by_first i b = rewritten_bit b (bit_at c.rewrite.mask i) (bit_at c.rewrite.value i)

  abbrev by_last : ℕ → Bool → Bool
  by_last i b = rewritten_bit b (bit_at d.rewrite.mask i) (bit_at d.rewrite.value i)

  brought_inside : (i : ℕ) → i < n * 32 → brought last i < n * 32
  unfolding brought
  brought_inside i l = let k : last (i / 32) < n = kd.inside (i / 32) (omega arith) in omega arith

  brought_twice : (i : ℕ) → i < n * 32 → brought (word both.from) i ≡ brought first (brought last i)
  unfolding brought
  brought_twice i l =
      ap (λ (w : ℕ). w * 32 + i % 32) (word_of n (λ w. first (last w)) (i / 32) (omega arith))
      ∙ ap₂ (λ (w k : ℕ). first w * 32 + k) (sym (brought_word last i)) (sym (brought_bit last i))

  mask_bit : (i : ℕ) → i < n * 32
      → bit_at both.rewrite.mask i ≡ (bit_at c.rewrite.mask (brought last i) || bit_at d.rewrite.mask i)
  unfolding bit_at
  mask_bit i l =
      bit_of_words n (λ w. bit_or (word c.rewrite.mask (last w)) (word d.rewrite.mask w)) i l ∙ bit_or_lem _ _ _
      ∙ ap (λ (b : Bool). b || bit_at d.rewrite.mask i)
      (sym (bit_of_words n (λ w. word c.rewrite.mask (last w)) i l) ∙ moved_bit n last c.rewrite.mask i l)

  value_bit : (i : ℕ) → i < n * 32
      → bit_at both.rewrite.value i ≡ by_last i (bit_at c.rewrite.value (brought last i))
  value_bit i l =
      ap (λ (x : List ℕ). bit_at x i) (words_same n _ _ (λ w k. rw (word_of n (λ w. word c.rewrite.value (last w)) w k)))
      ∙ rewritten_bit_lem n d.rewrite kd.written.mask (moved n last c.rewrite.value) i l
      ∙ ap (by_last i) (moved_bit n last c.rewrite.value i l)

  pub followed_within : Within n (followed n c d)
  followed_within = record {
    inside = λ w l.
        subst (λ (x : ℕ). x < n) (sym (word_of n (λ w. word c.from (word d.from w)) w l))
        (kc.inside (word d.from w) (kd.inside w l));
    written = record {
      mask = words_fit n _ (λ w l. or_lt 32 _ _ (kc.written.mask.fits _ (kd.inside w l)) (kd.written.mask.fits w l));
      value = words_fit n _ (λ w l. or_lt 32 _ _
          (lt_of_le_of_lt (and_le_l (word c.rewrite.value (word d.from w)) _) (kc.written.value.fits _ (kd.inside w l)))
          (lt_of_le_of_lt (and_le_l (word d.rewrite.value w) _) (kd.written.value.fits w l)));
    };
  }

  -- a bit of what c makes of a header, and of what d makes of that
  first_bit_lem : (h : Header) (j : ℕ) → j < n * 32
      → bit_at (coursed n c h) j ≡ by_first j (bit_at h (brought first j))
  first_bit_lem h j l =
      rewritten_bit_lem n c.rewrite kc.written.mask (moved n first h) j l
      ∙ ap (by_first j) (moved_bit n first h j l)

  last_bit : (h : Header) (i : ℕ) → i < n * 32
      → bit_at (coursed n d h) i ≡ by_last i (bit_at h (brought last i))
  last_bit h i l =
      rewritten_bit_lem n d.rewrite kd.written.mask (moved n last h) i l
      ∙ ap (by_last i) (moved_bit n last h i l)

  -- the two as one make of a header what d makes of what c makes of it
  pub followed_is : (h : Header) → coursed n both h ≡ coursed n d (coursed n c h)
  followed_is h = words_ext n (coursed n both h) (coursed n d (coursed n c h))
      (rewritten_fits n _ followed_within.written (moved n (word both.from) h))
      (rewritten_fits n _ kd.written (moved n last (coursed n c h)))
      λ i l.
      let j = brought last i in
      rewritten_bit_lem n both.rewrite followed_within.written.mask (moved n (word both.from) h) i l
      ∙ (let from-bit = moved_bit n (word both.from) h i l ∙ ap (bit_at h) (brought_twice i l) in
      λ k. rewritten_bit (from-bit k) (mask_bit i l k) (value_bit i l k))
      ∙ same_true _ _ (always (λ h m v x y. rewritten_bit h (m || x) (rewritten_bit v x y) == rewritten_bit (rewritten_bit h m v) x y) tt
      (bit_at h (brought first j)) (bit_at c.rewrite.mask j) (bit_at c.rewrite.value j)
      (bit_at d.rewrite.mask i) (bit_at d.rewrite.value i))
      ∙ ap (by_last i) (sym (first_bit_lem h j (brought_inside i l)))
      ∙ sym (last_bit (coursed n c h) i l)

  -- undoing d and then c is undoing the two as one
  pub uncoursed_followed : (t : Set) → WellFormed n t → bind (uncoursed n d t) (uncoursed n c) ≡ uncoursed n both t
  uncoursed_followed t wt = same_answers n _ _
      (formed_next n (uncoursed n d t) (uncoursed n c) formed (uncoursed_well_formed n c kc))
      (uncoursed_well_formed n both followed_within t wt)
      λ h w.
      among_next n (uncoursed n d t) (uncoursed n c) (λ b. b) h (coursed n c h) refl formed (λ s ws. uncoursed_exact n c kc s ws h)
      ∙ uncoursed_exact n d kd t wt (coursed n c h)
      ∙ ap (contains n t) (sym (followed_is h))
      ∙ sym (uncoursed_exact n both followed_within t wt h)
    where
      formed : Formed n (uncoursed n d t)
      formed = uncoursed_well_formed n d kd t wt

-- ---- one action

source_inside : (n : ℕ) → 2 ≤ n → (k : Transfer) (w : ℕ) → w < n → source k w < n
source_inside n two Keep w l = l
source_inside n two Copy w l = copied_inside n w l
source_inside n two Swap w l = swapped_inside n w two l

source_moved : (n : ℕ) (k : Transfer) (h : Header) → Words n h → moved n (source k) h ≡ transferred n k h
source_moved n Keep h f = words_again n h f
source_moved n Copy h f = refl
source_moved n Swap h f = refl

module _ (n : ℕ) (two : 2 ≤ n) (a : Act) (written : Written n a.rewrite) where
  pub action_within : Within n (course_of n a)
  action_within = record {
    inside = λ w l. rw (word_of n (source a.transfer) w l) (source_inside n two a.transfer w l);
    written = written;
  }

  -- as a course it makes the same of a header
  pub action_coursed : (h : Header) → Words n h → coursed n (course_of n a) h ≡ acted n a h
  action_coursed h f = ap (rewritten n a.rewrite)
      (words_same n _ _ (λ w l. ap (word h) (word_of n (source a.transfer) w l)) ∙ source_moved n a.transfer h f)

  -- and is undone to the same
  action_uncoursed : (t : Set) → WellFormed n t → unacted n a t ≡ uncoursed n (course_of n a) t
  action_uncoursed t wt = same_answers n _ _
      (unacted_well_formed n two a t written.mask wt)
      (uncoursed_well_formed n (course_of n a) action_within t wt)
      λ h f.
      unacted_exact n two a t written.mask wt h
      ∙ ap (contains n t) (sym (action_coursed h f))
      ∙ sym (uncoursed_exact n (course_of n a) action_within t wt h)

-- ---- the actions of a path

-- each of them writes words of 32 bits
unfoldable pub AllWritten : ℕ → List Act → Type 0
AllWritten n [] = Unit {0}
AllWritten n (a ∷ later) = Written n a.rewrite × AllWritten n later

module _ (n : ℕ) (two : 2 ≤ n) where
  pub path_within : (l : List Act) → AllWritten n l → Within n (course_of_all n l)
  unfolding course_of_all AllWritten
  path_within [] ws = record { inside = λ w l. rw (word_of n (λ w. w) w l) l; written = record { mask = no_bits n; value = no_bits n } }
  path_within (a ∷ later) ws =
      followed_within n (course_of n a) (course_of_all n later) (action_within n two a ws.0) (path_within later ws.1)

  -- no action leaves a header as it is
  no_course : (h : Header) → Words n h → coursed n (course_of_all n []) h ≡ h
  unfolding course_of_all
  no_course h f =
      ap (rewritten n (no_rewrite n)) (words_same n _ _ (λ w l. ap (word h) (word_of n (λ w. w) w l)) ∙ words_again n h f)
      ∙ no_rewrite_keeps n h f

  -- one course makes of a header what the actions make of it one by one
  pub path_as_one : (l : List Act) → AllWritten n l → (h : Header) → Words n h → coursed n (course_of_all n l) h ≡ acted_all n l h
  unfolding course_of_all acted_all AllWritten
  path_as_one [] ws h f = no_course h f
  path_as_one (a ∷ later) ws h f =
      followed_is n (course_of n a) (course_of_all n later) (action_within n two a ws.0) (path_within later ws.1) h
      ∙ ap (coursed n (course_of_all n later)) (action_coursed n two a ws.0 h f)
      ∙ path_as_one later ws.1 (acted n a h) (acted_fits n a ws.0 h)

  -- and undoing it in one step is undoing them one by one
  pub undone_as_one : (l : List Act) → AllWritten n l → (t : Set) → WellFormed n t
      → unacted_all n l t ≡ uncoursed n (course_of_all n l) t
  unfolding course_of_all unacted_all AllWritten bind
  undone_as_one [] ws t wt = same_answers n _ _
      (λ s e. let d : t ≡ s = cc in subst (WellFormed n) d wt)
      (uncoursed_well_formed n (course_of_all n []) (path_within [] ws) t wt)
      λ h f. ap (contains n t) (sym (no_course h f)) ∙ sym (uncoursed_exact n (course_of_all n []) (path_within [] ws) t wt h)
  undone_as_one (a ∷ later) ws t wt =
      ap (λ (o : Option Set). bind o (unacted n a)) (undone_as_one later ws.1 t wt)
      ∙ go (uncoursed n (course_of_all n later) t) (uncoursed_well_formed n (course_of_all n later) (path_within later ws.1) t wt)
      ∙ uncoursed_followed n (course_of n a) (course_of_all n later) (action_within n two a ws.0) (path_within later ws.1) t wt
    where
      go : (o : Option Set) → Formed n o → bind o (unacted n a) ≡ bind o (uncoursed n (course_of n a))
      go none f = refl
      go (some u) f = action_uncoursed n two a ws.0 u (f u refl)
