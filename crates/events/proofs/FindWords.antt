-- The words of a find and of a verdict that is reached: how many they are, and writing them piece by piece. Assumes nothing.
use mathlib.Core.List.{List, [], ◌∷◌, ◌++◌, map}
use mathlib.Core.Path.{◌≡◌, ap, ap₂, ◌∙◌}
use Prim.Native.Nat.{ℕ, ◌+◌, ◌-◌, ◌*◌, ◌^◌, ◌≤◌, ◌<◌}
use lib.ListN.{length, get_or, take, drop, replicate, length-append, length-map, drop_of_length-le}
use lib.Seq.{drop-cons, take-append-add, length-take-le}
use native.Mathlib.Numerals.{add-one}
use native.Mathlib.Omega.{arith}
use Rattle.headers.specs.Sets.{Set}
use Rattle.layout.specs.Records.{half, Width, set_words}
use Rattle.answer.specs.Answer.{written_at, sixteen}
use Rattle.answer.proofs.Written.{written_next, written_none}
use Rattle.events.specs.Play.{find_words}
use Rattle.events.specs.Asked.{Way, find_at}

-- words that are written where others end are written with them
pub written_both : (at : ℕ) (us vs area : List ℕ) {place : ℕ} {now next : List ℕ}
    → now ≡ written_at at us area → next ≡ written_at place vs now
    → place ≡ at + length us → 4 * place ≤ length area → next ≡ written_at at (us ++ vs) area
written_both at us vs area p q e room =
    q ∙ ap₂ (λ (k : ℕ) (l : List ℕ). written_at k vs l) e p ∙ written_next at us vs area (omega arith)

-- the first w words of four and four
pub narrowed_long : {w : ℕ} → Width w → (l r : List ℕ) → length l ≡ half → length r ≡ half
    → length (take w (l ++ r)) ≡ w
narrowed_long {w = w} d l r low high = length-take-le w (l ++ r) (omega (arith, length-append l r, d.high))

-- ---- the words of entries

-- "for each entry in travelling order a word of kind 7 with its number below"
abbrev pub entry_words : List ℕ → List ℕ
entry_words path = map (λ e. 7 * 2 ^ 28 + e) path

-- with entry i's word written at `at`, those after it are left to be written from the next place on
pub entries_next : (at place i : ℕ) (path area : List ℕ) {now : List ℕ}
    → now ≡ written_at at ((7 * 2 ^ 28 + get_or path i 0) ∷ []) area
    → place ≡ at + 1 → i < length path → 4 * (at + 1) ≤ length area
    → written_at place (entry_words (drop (i + 1) path)) now ≡ written_at at (entry_words (drop i path)) area
entries_next at place i path area p e inside room =
    ap₂ (λ (k : ℕ) (l : List ℕ). written_at k (entry_words (drop (i + 1) path)) l) e p
    ∙ written_next at ((7 * 2 ^ 28 + get_or path i 0) ∷ []) (entry_words (drop (i + 1) path)) area room
    ∙ rw (add-one i, drop-cons path i 0 inside)

-- past the last entry none is left
pub entries_end : (at i : ℕ) (path area : List ℕ) → length path ≤ i → 4 * at ≤ length area
    → written_at at (entry_words (drop i path)) area ≡ area
entries_end at i path area past room = rw (drop_of_length-le path past) (written_none at area room)

-- ---- the way of a find

module _ {way : List ℕ} (is-way : Way way) where
  pub entry_words_are : length (entry_words way) ≡ length way
  entry_words_are = length-map way (λ (e : ℕ). 7 * 2 ^ 28 + e)

  -- a word, one for each entry, care and value of w words each
  pub find_words_are : (f : List ℕ) (k w : ℕ) (s : Set) → length s.care ≡ w → length s.value ≡ w
      → length (find_words (find_at f k way s)) ≡ 1 + length way + set_words w
  unfolding find_words
  find_words_are f k w s care value =
      omega (arith, length-append (entry_words way) (s.care ++ s.value), length-append s.care s.value, entry_words_are)

  -- "16, unused ones 0"
  pub sixteen_are : sixteen way ≡ way ++ take (16 - length way) (replicate 16 0)
  unfolding sixteen
  sixteen_are =
      let e : 16 ≡ length way + (16 - length way) = omega (arith, is-way.long) in
      ap (λ (n : ℕ). take n (way ++ replicate 16 0)) e ∙ take-append-add way (replicate 16 0) (16 - length way)
