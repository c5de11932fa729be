-- What a copy is undone to, word by word (H18): the wants of nw_dst joined with those of nw_src, empty if they disagree.
use mathlib.Core.Bool.{Bool, true, cond}
use mathlib.Core.List.{List}
use mathlib.Core.Option.{some, none}
use mathlib.Core.Path.{◌≡◌, refl, ◌∙◌}
use Prim.Native.Nat.{ℕ, zero, suc, ◌≤◌, ◌<◌}
use native.Mathlib.Omega.{arith}
use borrow.Author.Tests.{ne_eqb}
use lib.Bits.{bit_and, bit_or, and_zero_r, or_zero_r}
use lib.Dec.{eqb}
use Rattle.headers.specs.Bits.{word, words, every}
use Rattle.headers.specs.Sets.{Set, same_on, overlaps, intersection}
use Rattle.headers.specs.Actions.{wild_at, wanted_of, uncopied}
use Rattle.headers.proofs.Booleans.{both_ways}
use Rattle.headers.proofs.Positions.{every_at, every_of, every_same, word_of, words_same}

-- word 1 joined into word 0
abbrev joined_into : List ℕ → ℕ → ℕ
joined_into l zero = bit_or (word l 0) (word l 1)
joined_into l (suc zero) = 0
joined_into l (suc (suc w)) = word l (suc (suc w))

-- a test that only number 0 can fail
every_first : (n : ℕ) (f : ℕ → Bool) → 0 < n → ((w : ℕ) → f (suc w) ≡ true) → every n f ≡ f 0
every_first n f one later = both_ways _ _ (λ e. every_at n f e 0 one) (λ e. every_of n f (go e))
  where
    go : f 0 ≡ true → (w : ℕ) → w < n → f w ≡ true
    go e zero l = e
    go e (suc w) l = later w

-- word w of a list with word 1 wild, and of one with word 1 put in the place of word 0
abbrev others : List ℕ → ℕ → ℕ
others l w = cond (eqb w 1) 0 (word l w)

abbrev second : List ℕ → ℕ → ℕ
second l w = cond (eqb w 0) (word l 1) 0

joined_words : (n : ℕ) (l : List ℕ)
    → words n (λ w. bit_or (word (words n (others l)) w) (word (words n (second l)) w)) ≡ words n (joined_into l)
joined_words n l = words_same n _ _ λ w k. rw (word_of n (others l) w k, word_of n (second l) w k) (go w)
  where
    go : (w : ℕ) → bit_or (others l w) (second l w) ≡ joined_into l w
    go zero = refl
    go (suc zero) = refl
    go (suc (suc w)) =
        rw (ne_eqb (suc (suc w)) 1 (λ d. omega arith), ne_eqb (suc (suc w)) 0 (λ d. omega arith)) (or_zero_r (word l (suc (suc w))))

module _ (n : ℕ) (two : 2 ≤ n) (t : Set) where
  -- the wants of the two addresses agree where t cares for both
  abbrev agreed : Bool
  agreed = same_on (bit_and (word t.care 0) (word t.care 1)) (word t.value 0) (word t.value 1)

  -- word w of both sets agrees
  abbrev meets : ℕ → Bool
  meets w = same_on (bit_and (others t.care w) (second t.care w)) (others t.value w) (second t.value w)

  wants_meet : overlaps n (wild_at n 1 t) (wanted_of n 0 1 t) ≡ agreed
  wants_meet =
      every_same n _ _ (λ w l. rw (
        word_of n (others t.care) w l,
        word_of n (second t.care) w l,
        word_of n (others t.value) w l,
        word_of n (second t.value) w l,
      ))
      ∙ every_first n meets (omega arith) later
    where
      later : (w : ℕ) → meets (suc w) ≡ true
      later zero = refl
      later (suc w) = rw (
        ne_eqb (suc (suc w)) 1 (λ d. omega arith),
        ne_eqb (suc (suc w)) 0 (λ d. omega arith),
        and_zero_r (word t.care (suc (suc w))),
        and_zero_r (word t.value (suc (suc w))),
      )

  pub copy_undone : uncopied n t
      ≡ cond agreed (some (record { care = words n (joined_into t.care); value = words n (joined_into t.value) })) none
  unfolding intersection
  copy_undone = λ i. cond (wants_meet i) (some (record { care = joined_words n t.care i; value = joined_words n t.value i })) none
