-- Actions on words one after the other: a transfer moves words 0 and 1 alone, so of n + k words, n being at least 2, the last
-- k stay. And actions that leave k more words as they are.
use mathlib.Core.Bool.{cond}
use mathlib.Core.List.{List, ◌++◌}
use mathlib.Core.Option.{Option, some, none, bind, map}
use mathlib.Core.Path.{◌≡◌, refl, ap, ap₂, ◌∙◌}
use Prim.Native.Nat.{ℕ, zero, suc, ◌+◌, ◌≤◌, ◌<◌}
use native.Mathlib.Omega.{arith}
use borrow.Author.Tests.{ne_eqb}
use lib.Dec.{eqb}
use lib.ListN.{length}
use Rattle.headers.specs.Bits.{word, words, Words}
use Rattle.headers.specs.Sets.{Set, Rewrite, WellFormed, Written, all_wild, beside, padded, intersection, rewritten, writes, undone}
use Rattle.headers.specs.Actions.{Act, moved, copied, swapped, transferred, acted, act_beside, padded_act, wild_at, wanted_of, moved_set}
use Rattle.headers.specs.Actions.{uncopied, untransferred, unacted, before}
use Rattle.headers.specs.declared.Transfer.{Transfer}
use Rattle.headers.specs.declared.Transfer.TheVariants.{Keep, Copy, Swap}
use Rattle.headers.proofs.Positions.{words_long, words_whole}
use Rattle.headers.proofs.Undoing.{undone_well_formed}
use Rattle.headers.proofs.Acting.{copied_inside, swapped_inside, unacted_well_formed}
use Rattle.headers.proofs.Beside.{word_left, word_right, words_beside, Long, well_formed_long, written_long, rewritten_beside}
use Rattle.headers.proofs.Padded.{padded_rewrite_none, wild_long, undone_padded, met_padded, intersection_padded, rewritten_padded}

pub padded_act_none : (a : Act) → padded_act 0 a ≡ a
padded_act_none a = λ i. record { transfer = a.transfer; rewrite = padded_rewrite_none a.rewrite i }

-- ---- words that are moved

-- words that stay from word 2 on
beyond : (from : ℕ → ℕ) → ((w : ℕ) → from (suc (suc w)) ≡ suc (suc w)) → (w : ℕ) → 2 ≤ w → from w ≡ w
beyond from stay zero l = absurd (omega arith)
beyond from stay (suc zero) l = absurd (omega arith)
beyond from stay (suc (suc w)) l = stay w

module _ (n k : ℕ) (two : 2 ≤ n) where
  -- a list whose last k words stay
  stays : (f g : ℕ → ℕ) (b : List ℕ) → length b ≡ k → ((w : ℕ) → w < n → f w ≡ g w)
      → ((w : ℕ) → w < k → f (n + w) ≡ word b w)
      → words (n + k) f ≡ words n g ++ b
  stays f g b lb p q = words_beside n k f g (word b) p q ∙ ap (λ (l : List ℕ). words n g ++ l) (words_whole k b lb)

  module _ (g h : List ℕ) (lg : length g ≡ n) (lh : length h ≡ k) where
    moved_beside : (from : ℕ → ℕ) → ((w : ℕ) → w < n → from w < n) → ((w : ℕ) → from (suc (suc w)) ≡ suc (suc w))
        → moved (n + k) from (g ++ h) ≡ moved n from g ++ h
    moved_beside from inside stay = stays _ _ h lh
        (λ w l. word_left n g h lg (from w) (inside w l))
        (λ w l. ap (word (g ++ h)) (beyond from stay (n + w) (omega arith)) ∙ word_right n g h lg w)

    pub copied_beside : moved (n + k) copied (g ++ h) ≡ moved n copied g ++ h
    copied_beside = moved_beside copied (copied_inside n) (λ w. refl)

    pub swapped_beside : moved (n + k) swapped (g ++ h) ≡ moved n swapped g ++ h
    swapped_beside = moved_beside swapped (λ w. swapped_inside n w two) (λ w. refl)

    pub transferred_beside : (t : Transfer) → transferred (n + k) t (g ++ h) ≡ transferred n t g ++ h
    transferred_beside Keep = refl
    transferred_beside Copy = copied_beside
    transferred_beside Swap = swapped_beside

    transferred_long : (t : Transfer) → length (transferred n t g) ≡ n
    transferred_long Keep = lg
    transferred_long Copy = words_long n _
    transferred_long Swap = words_long n _

    module _ (a : Act) (la : Long n (writes a.rewrite)) where
      pub acted_beside : (r : Rewrite) → acted (n + k) (act_beside a r) (g ++ h) ≡ acted n a g ++ rewritten k r h
      acted_beside r =
          ap (rewritten (n + k) (act_beside a r).rewrite) (transferred_beside a.transfer)
          ∙ rewritten_beside n k a.rewrite r la (transferred n a.transfer g) h (transferred_long a.transfer)

      -- whatever the last k words are
      pub acted_padded : Words k h → acted (n + k) (padded_act k a) (g ++ h) ≡ acted n a g ++ h
      acted_padded wh =
          ap (rewritten (n + k) (padded_act k a).rewrite) (transferred_beside a.transfer)
          ∙ rewritten_padded n k a.rewrite la (transferred n a.transfer g) h (transferred_long a.transfer) wh

  -- ---- transfers undone

  module _ (p q : Set) (lp : Long n p) (lq : Long k q) where
    pub moved_set_beside : moved_set (n + k) swapped (beside p q) ≡ beside (moved_set n swapped p) q
    moved_set_beside = λ i. record {
      care = swapped_beside p.care q.care lp.care lq.care i;
      value = swapped_beside p.value q.value lp.value lq.value i;
    }

    wild_words : (a b : List ℕ) → length a ≡ n → length b ≡ k
        → words (n + k) (λ w. cond (eqb w 1) 0 (word (a ++ b) w)) ≡ words n (λ w. cond (eqb w 1) 0 (word a w)) ++ b
    wild_words a b la lb = stays _ _ b lb
        (λ w l. ap (cond (eqb w 1) 0) (word_left n a b la w l))
        (λ w l. rw (ne_eqb (n + w) 1 (λ e. omega arith)) (word_right n a b la w))

    wanted_words : (a b : List ℕ) → length a ≡ n
        → words (n + k) (λ w. cond (eqb w 0) (word (a ++ b) 1) 0) ≡ words n (λ w. cond (eqb w 0) (word a 1) 0) ++ words k (λ w. 0)
    wanted_words a b la = words_beside n k _ _ _
        (λ w l. ap (λ (x : ℕ). cond (eqb w 0) x 0) (word_left n a b la 1 (omega arith)))
        (λ w l. rw (ne_eqb (n + w) 0 (λ e. omega arith)))

    pub uncopied_beside : uncopied (n + k) (beside p q) ≡ map (λ s. beside s q) (uncopied n p)
    uncopied_beside =
        ap₂ (intersection (n + k))
        (λ i. record {
          care = wild_words p.care q.care lp.care lq.care i;
          value = wild_words p.value q.value lp.value lq.value i;
        })
        (λ i. record {
          care = wanted_words p.care q.care lp.care i;
          value = wanted_words p.value q.value lp.value i;
        })
        ∙ met_padded n k
        (wild_at n 1 p) (record { care = words_long n _; value = words_long n _ })
        (wanted_of n 0 1 p) (record { care = words_long n _; value = words_long n _ }) q lq

    pub untransferred_beside : (t : Transfer) → untransferred (n + k) t (beside p q) ≡ map (λ s. beside s q) (untransferred n t p)
    untransferred_beside Keep = refl
    untransferred_beside Copy = uncopied_beside
    untransferred_beside Swap = ap some moved_set_beside

  -- ---- actions undone

  module _ (a : Act) (wr : Written n a.rewrite) (t : Set) (wt : WellFormed n t) where
    pub unacted_padded : unacted (n + k) (padded_act k a) (padded k t) ≡ map (padded k) (unacted n a t)
    unfolding unacted bind
    unacted_padded =
        ap (λ (o : Option Set). bind o (untransferred (n + k) a.transfer))
        (undone_padded n k t (well_formed_long wt) a.rewrite (written_long wr))
        ∙ go (undone n a.rewrite t) (undone_well_formed n a.rewrite t wr.mask wt)
      where
        go : (o : Option Set) → ((s : Set) → o ≡ some s → WellFormed n s)
            → bind (map (padded k) o) (untransferred (n + k) a.transfer)
            ≡ map (padded k) (bind o (untransferred n a.transfer))
        go none w = refl
        go (some s) w = untransferred_beside s (all_wild k) (well_formed_long (w s refl)) (wild_long k) a.transfer

    pub before_padded : (matches : Set) → Long n matches
        → before (n + k) (padded k matches) (padded_act k a) (padded k t) ≡ map (padded k) (before n matches a t)
    unfolding before bind
    before_padded matches lm =
        ap (λ (o : Option Set). bind o (λ s. intersection (n + k) s (padded k matches))) unacted_padded
        ∙ go (unacted n a t) (unacted_well_formed n two a t wr.mask wt)
      where
        go : (o : Option Set) → ((s : Set) → o ≡ some s → WellFormed n s)
            → bind (map (padded k) o) (λ s. intersection (n + k) s (padded k matches))
            ≡ map (padded k) (bind o (λ s. intersection n s matches))
        go none w = refl
        go (some s) w = intersection_padded n k s (well_formed_long (w s refl)) matches lm
