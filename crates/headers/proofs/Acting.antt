-- Undoing an action is exact (H18), for any number of words from two on.
use mathlib.Core.Bool.{Bool, true, false, ◌&&◌, ◌||◌, cond}
use mathlib.Core.Logic.{◌↔◌}
use mathlib.Core.Option.{Option, some, none, bind}
use mathlib.Core.Path.{◌≡◌, refl, sym, ap₂, ◌∙◌, subst}
use Prim.Native.Nat.{ℕ, zero, suc, ◌^◌, ◌≤◌, ◌<◌}
use native.Mathlib.Decide.{ℕ_discrete}
use native.Mathlib.Omega.{arith}
use borrow.Author.Tests.{eq-eqb, ne_eqb}
use lib.Bits.{bit_and, and_zero_r}
use lib.Dec.{eqb}
use Rattle.headers.specs.Bits.{word, words, every, Words, complement}
use Rattle.headers.specs.Sets.{Header, Set, same_on, contains, WellFormed, Written, intersection, among, undone}
use Rattle.headers.specs.Actions.{Act, moved, copied, swapped, transferred, acted, wild_at, wanted_of, moved_set, untransferred}
use Rattle.headers.specs.Actions.{unacted, met_before, before, no_action}
use Rattle.headers.specs.declared.Transfer.{Transfer}
use Rattle.headers.specs.declared.Transfer.TheVariants.{Keep, Copy, Swap}
use Rattle.headers.proofs.Booleans.{both_ways, and_fst, and_snd}
use Rattle.headers.proofs.Positions.{every_at, every_of, every_same, word_of, words_fit}
use Rattle.headers.proofs.Members.{empty_exactly, rewritten_fits}
use Rattle.headers.proofs.Intersection.{intersection_exact, intersection_well_formed}
use Rattle.headers.proofs.Undoing.{undone_exact, undone_well_formed, no_rewrite_keeps}

-- ---- where words come from

pub copied_inside : (n w : ℕ) → w < n → copied w < n
copied_inside n zero l = l
copied_inside n (suc zero) l = omega arith
copied_inside n (suc (suc w)) l = l

pub swapped_inside : (n w : ℕ) → 2 ≤ n → w < n → swapped w < n
swapped_inside n zero two l = omega arith
swapped_inside n (suc zero) two l = omega arith
swapped_inside n (suc (suc w)) two l = l

-- a swap is its own way back
swapped_back : (w : ℕ) → swapped (swapped w) ≡ w
swapped_back zero = refl
swapped_back (suc zero) = refl
swapped_back (suc (suc w)) = refl

-- ---- membership word by word

module _ (n : ℕ) (t : Set) (h : Header) where
  -- word u of the header is as t wants word w
  abbrev wants : ℕ → ℕ → Bool
  wants w u = same_on (word t.care w) (word h u) (word t.value w)

  pub contains_moved : (from : ℕ → ℕ) → contains n t (moved n from h) ≡ every n (λ w. wants w (from w))
  contains_moved from = every_same n _ _ λ w l. rw (word_of n (λ w. word h (from w)) w l)

  -- in a set that is given by its words
  contains_words : (c v : ℕ → ℕ)
      → contains n (record { care = words n c; value = words n v }) h ≡ every n (λ w. same_on (c w) (word h w) (v w))
  contains_words c v = every_same n _ _ λ w l. rw (word_of n c w l, word_of n v w l)

  wild_exact : (v : ℕ) → contains n (wild_at n v t) h ≡ every n (λ w. eqb w v || wants w w)
  wild_exact v = contains_words _ _ ∙ every_same n _ _ λ w l. go w (eqb w v)
    where
      go : (w : ℕ) (b : Bool) → same_on (cond b 0 (word t.care w)) (word h w) (cond b 0 (word t.value w)) ≡ (b || wants w w)
      go w true = rw (and_zero_r (word h w))
      go w false = refl

  pub wanted_exact : (u v : ℕ) → u < n → contains n (wanted_of n u v t) h ≡ wants v u
  wanted_exact u v l = contains_words _ _ ∙ both_ways _ _
      (λ e. rw (eq-eqb u u refl) at (every_at n _ e u l))
      (λ e. every_of n _ λ w k. go w e (ℕ_discrete w u))
    where
      go : (w : ℕ) → wants v u ≡ true → Dec (w ≡ u)
          → same_on (cond (eqb w u) (word t.care v) 0) (word h w) (cond (eqb w u) (word t.value v) 0) ≡ true
      go w e (yes d) = rw (eq-eqb w u d, d) e
      go w e (no d) = rw (ne_eqb w u d, and_zero_r (word h w))

  -- in both sets that a copy is undone to exactly if the copied header is in t
  copied_exact : 2 ≤ n → (contains n (wild_at n 1 t) h && contains n (wanted_of n 0 1 t) h) ≡ contains n t (moved n copied h)
  copied_exact two = ap₂ ◌&&◌ (wild_exact 1) (wanted_exact 0 1 (omega arith)) ∙ both_ways _ _
      (λ e. every_of n _ λ w l. there w (every_at n _ (and_fst _ _ e) w l) (and_snd (every n _) _ e))
      (λ e. ap₂ ◌&&◌ (every_of n _ λ w l. back w (every_at n _ e w l)) (every_at n _ e 1 (omega arith)))
      ∙ sym (contains_moved copied)
    where
      there : (w : ℕ) → (eqb w 1 || wants w w) ≡ true → wants 1 0 ≡ true → wants w (copied w) ≡ true
      there zero a b = a
      there (suc zero) a b = b
      there (suc (suc w)) a b = rw (ne_eqb (suc (suc w)) 1 (λ d. omega arith)) at a

      back : (w : ℕ) → wants w (copied w) ≡ true → (eqb w 1 || wants w w) ≡ true
      back zero a = a
      back (suc zero) a = refl
      back (suc (suc w)) a = rw (ne_eqb (suc (suc w)) 1 (λ d. omega arith)) a

  -- in the set that a swap is undone to exactly if the swapped header is in t
  swapped_exact : 2 ≤ n → contains n (moved_set n swapped t) h ≡ contains n t (moved n swapped h)
  swapped_exact two = contains_words _ _ ∙ both_ways _ _
      (λ e. every_of n _ λ w l. rw (swapped_back w) at (every_at n (λ w. wants (swapped w) w) e (swapped w) (swapped_inside n w two l)))
      (λ e. every_of n _ λ w l. rw (swapped_back w) at (every_at n (λ w. wants w (swapped w)) e (swapped w) (swapped_inside n w two l)))
      ∙ sym (contains_moved swapped)

-- ---- well-formed word by word

-- a word of care and one of value
Kept : ℕ → ℕ → Type 0
Kept c v = (c < 2 ^ 32) × ((v < 2 ^ 32) × (eqb (bit_and v (complement c)) 0 ≡ true))

formed : (n : ℕ) (c v : ℕ → ℕ) → ((w : ℕ) → w < n → Kept (c w) (v w))
    → WellFormed n (record { care = words n c; value = words n v })
unfolding Kept
formed n c v each = record {
  care = words_fit n c (λ w l. (each w l).0);
  value = words_fit n v (λ w l. (each w l).1.0);
  is_tidy = every_of n _ λ w l. rw (word_of n c w l, word_of n v w l) (each w l).1.1;
}

none_kept : Kept 0 0
unfolding Kept
none_kept = (omega arith, (omega arith, refl))

one_kept : (b : Bool) (c v d x : ℕ) → Kept c v → Kept d x → Kept (cond b c d) (cond b v x)
one_kept true c v d x p q = p
one_kept false c v d x p q = q

module _ (n : ℕ) (t : Set) (wt : WellFormed n t) where
  word_kept : (w : ℕ) → w < n → Kept (word t.care w) (word t.value w)
  unfolding Kept
  word_kept w l = (wt.care.fits w l, (wt.value.fits w l, every_at n _ wt.is_tidy w l))

  pub wild_well_formed : (v : ℕ) → WellFormed n (wild_at n v t)
  wild_well_formed v = formed n _ _ λ w l. one_kept (eqb w v) _ _ _ _ none_kept (word_kept w l)

  pub wanted_well_formed : (u v : ℕ) → v < n → WellFormed n (wanted_of n u v t)
  wanted_well_formed u v l = formed n _ _ λ w k. one_kept (eqb w u) _ _ _ _ (word_kept v l) none_kept

  moved_well_formed : (from : ℕ → ℕ) → ((w : ℕ) → w < n → from w < n) → WellFormed n (moved_set n from t)
  moved_well_formed from inside = formed n _ _ λ w l. word_kept (from w) (inside w l)

-- ---- undoing a transfer

module _ (n : ℕ) (two : 2 ≤ n) (t : Set) (wt : WellFormed n t) where
  untransferred_exact : (k : Transfer) (h : Header) → among n (untransferred n k t) h ≡ contains n t (transferred n k h)
  untransferred_exact Keep h = refl
  untransferred_exact Copy h =
      intersection_exact n _ _ (wild_well_formed n t wt 1) (wanted_well_formed n t wt 0 1 (omega arith)) h ∙ copied_exact n t h two
  untransferred_exact Swap h = swapped_exact n t h two

  untransferred_well_formed : (k : Transfer) (s : Set) → untransferred n k t ≡ some s → WellFormed n s
  untransferred_well_formed Keep s e = let d : t ≡ s = cc in subst (WellFormed n) d wt
  untransferred_well_formed Copy s e =
      intersection_well_formed n _ _ (wild_well_formed n t wt 1) (wanted_well_formed n t wt 0 1 (omega arith)) s e
  untransferred_well_formed Swap s e =
      let d : moved_set n swapped t ≡ s = cc in
      subst (WellFormed n) d (moved_well_formed n t wt swapped (λ w. swapped_inside n w two))

-- ---- undoing an action

module _ (n : ℕ) (two : 2 ≤ n) (a : Act) (t : Set) (m : Words n a.rewrite.mask) (wt : WellFormed n t) where
  -- a header is in the undone set exactly if the action makes it into a header of the set
  pub unacted_exact : (h : Header) → among n (unacted n a t) h ≡ contains n t (acted n a h)
  unfolding unacted bind
  unacted_exact h = go (undone n a.rewrite t) refl ∙ undone_exact n a.rewrite t m wt.care (transferred n a.transfer h)
    where
      go : (o : Option Set) → undone n a.rewrite t ≡ o
          → among n (bind o (untransferred n a.transfer)) h ≡ among n o (transferred n a.transfer h)
      go none e = refl
      go (some s) e = untransferred_exact n two s (undone_well_formed n a.rewrite t m wt s e) a.transfer h

  pub unacted_well_formed : (s : Set) → unacted n a t ≡ some s → WellFormed n s
  unfolding unacted bind
  unacted_well_formed s e = go (undone n a.rewrite t) refl e
    where
      go : (o : Option Set) → undone n a.rewrite t ≡ o → bind o (untransferred n a.transfer) ≡ some s → WellFormed n s
      go none d e = let z : ◌≡◌ {A = ℕ} 0 1 = cc in absurd (omega arith)
      go (some u) d e = untransferred_well_formed n two u (undone_well_formed n a.rewrite t m wt u d) a.transfer s e

  -- it is empty exactly if the action makes no header into one of the set
  pub unacted_empty : (unacted n a t ≡ none) ↔ ((h : Header) → Words n h → contains n t (acted n a h) ≡ false)
  unacted_empty =
      empty_exactly n (unacted n a t) (λ h. contains n t (acted n a h)) (λ s e. (unacted_well_formed s e).care) (λ h w. unacted_exact h)

-- ---- undoing step by step, for the headers of a match

module _ (n : ℕ) (matches : Set) where
  -- the rewrite is undone, and then the transfer for the match
  pub before_steps : (a : Act) (t : Set) → before n matches a t ≡ bind (undone n a.rewrite t) (met_before n matches a.transfer)
  unfolding before unacted met_before bind
  before_steps a t = go (undone n a.rewrite t)
    where
      go : (o : Option Set)
          → bind (bind o (untransferred n a.transfer)) (λ s. intersection n s matches)
          ≡ bind o (met_before n matches a.transfer)
      go none = refl
      go (some s) = refl

  -- with no transfer there is the match alone
  pub met_kept : (s : Set) → met_before n matches Keep s ≡ intersection n s matches
  unfolding met_before bind
  met_kept s = refl

-- ---- acting

pub acted_fits : (n : ℕ) (a : Act) → Written n a.rewrite → (h : Header) → Words n (acted n a h)
acted_fits n a f h = rewritten_fits n a.rewrite f (transferred n a.transfer h)

-- the action that neither moves nor masks leaves every header as it is
pub no_action_keeps : (n : ℕ) (h : Header) → Words n h → acted n (no_action n) h ≡ h
no_action_keeps = no_rewrite_keeps
