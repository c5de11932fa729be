-- Question 10 of a run by the halves of a set, of which version 1 has one.
use mathlib.Core.Bool.{Bool, true, false, ◌&&◌, and-true}
use mathlib.Core.List.{List, [], ◌∷◌, ◌++◌}
use mathlib.Core.Path.{◌≡◌, refl, sym, ap, ◌∙◌}
use Prim.Native.Nat.{ℕ, ◌+◌, ◌≤◌}
use native.Mathlib.Omega.{arith}
use lib.Dec.{eqb}
use lib.ListN.{length, take, length-append}
use lib.Pointwise.{pointwise}
use lib.Seq.{take_all, take_at}
use Rattle.headers.specs.Bits.{word, every}
use Rattle.headers.proofs.Beside.{word_left, word_right, every_beside}
use Rattle.layout.specs.Records.{half}
use Rattle.layout.specs.Versions.{header_words}
use Rattle.layout.specs.declared.Version.{Version}
use Rattle.layout.specs.declared.Version.TheVariants.{One, Two}
use Rattle.queries.specs.Queries.{all_bits}

-- four words from word k on of a care mask
abbrev pub cared_from : ℕ → List ℕ → Bool
cared_from k l = every half (λ v. eqb (word l v) (all_bits (k + v)))

-- the first n words
abbrev pub cared : ℕ → List ℕ → Bool
cared n l = every n (λ w. eqb (word l w) (all_bits w))

-- four words, one after the other
four : (l : List ℕ) → length l ≡ half → (k : ℕ)
    → pointwise eqb l (all_bits (k + 0) ∷ all_bits (k + 1) ∷ all_bits (k + 2) ∷ all_bits (k + 3) ∷ []) ≡ cared_from k l
four [] long k = absurd (omega arith)
four (a ∷ []) long k = absurd (omega arith)
four (a ∷ b ∷ []) long k = absurd (omega arith)
four (a ∷ b ∷ c ∷ []) long k = absurd (omega arith)
four (a ∷ b ∷ c ∷ d ∷ []) long k =
    grouped (eqb a (all_bits (k + 0))) (eqb b (all_bits (k + 1))) (eqb c (all_bits (k + 2))) (eqb d (all_bits (k + 3)))
  where
    grouped : (p q r s : Bool) → (p && (q && (r && (s && true)))) ≡ (((p && q) && r) && s)
    grouped false q r s = refl
    grouped true false r s = refl
    grouped true true false s = refl
    grouped true true true s = and-true s
four (a ∷ b ∷ c ∷ d ∷ e ∷ l) long k = absurd (omega arith)

module _ (low high : List ℕ) (first : length low ≡ half) where
  pub cared_four : cared_from 0 low ≡ cared half (take half (low ++ high))
  cared_four = ap (cared half) (sym (take_at low high half first))

  pub cared_eight : length high ≡ half → (cared_from 0 low && cared_from half high) ≡ cared 8 (take 8 (low ++ high))
  cared_eight last =
      let all : length (low ++ high) ≤ 8 = omega (arith, length-append low high) in
      sym (every_beside half half _ _ _
      (λ v l. ap (λ (x : ℕ). eqb x (all_bits v)) (word_left half low high first v l))
      (λ v l. ap (λ (x : ℕ). eqb x (all_bits (half + v))) (word_right half low high first v)))
      ∙ ap (cared 8) (sym (take_all 8 (low ++ high) all))

  -- the first four aren't all cared for
  pub not_cared : length high ≡ half → (v : Version) → (b : Bool)
      → b ≡ pointwise eqb low (all_bits 0 ∷ all_bits 1 ∷ all_bits 2 ∷ all_bits 3 ∷ []) → b ≡ false
      → b ≡ cared (header_words v) (take (header_words v) (low ++ high))
  not_cared last One b is none = is ∙ four low first 0 ∙ cared_four
  not_cared last Two b is none =
      none ∙ ap (λ (a : Bool). a && cared_from half high) (sym none ∙ is ∙ four low first 0) ∙ cared_eight last

  -- they are, and the last four are tested
  pub cared_then : length high ≡ half → (v : Version) → v ≡ Two → (a b : Bool)
      → a ≡ pointwise eqb low (all_bits 0 ∷ all_bits 1 ∷ all_bits 2 ∷ all_bits 3 ∷ []) → a ≡ true
      → b ≡ pointwise eqb high (all_bits 4 ∷ all_bits 5 ∷ all_bits 6 ∷ all_bits 7 ∷ [])
      → b ≡ cared (header_words v) (take (header_words v) (low ++ high))
  cared_then last v two a b low_is all high_is = rw two (
      high_is ∙ four high last half
      ∙ ap (λ (a : Bool). a && cared_from half high) (sym all ∙ low_is ∙ four low first 0) ∙ cared_eight last)
