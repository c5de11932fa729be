-- What the yeses to questions 1 and 2 say of a file, in a call for either version: how long it is, and that it is of that version.
use mathlib.Core.Bool.{true}
use mathlib.Core.List.{List, [], ◌∷◌}
use mathlib.Core.Path.{◌≡◌}
use Prim.Native.Nat.{ℕ, ◌*◌, ◌%◌, ◌≤◌}
use native.Mathlib.Omega.{arith}
use lib.Dec.{leb, eqb}
use lib.ListN.{length}
use borrow.Author.Tests.{leb-true, eqb-true}
use Rattle.layout.specs.Words.{word_at, words_in, kind_of, version_of, count_of}
use Rattle.layout.specs.Records.{Width, width_in}
use Rattle.layout.specs.Limits.{most_bytes, most_words}
use Rattle.layout.proofs.Widths.{by_width}
use Rattle.questions.specs.Questions.{version, sized, started}
use Rattle.questions.specs.Reading.{Bounded}
use Rattle.questions.proofs.Chains.{parts}

-- ---- question 1

pub record Sized (w : ℕ) (f : List ℕ) : Type 0 where
  pub in_words : length f % 4 ≡ 0
  pub low : 8 ≤ length f
  pub high : length f ≤ most_bytes w

pub sized_says : (w : ℕ) (f : List ℕ) → sized w f ≡ true → Sized w f
unfolding sized
sized_says w f h =
    let part = parts (eqb (length f % 4) 0) (leb 8 (length f) ∷ leb (length f) (most_bytes w) ∷ []) h in
    record { in_words = eqb-true _ _ (part 0); low = leb-true _ _ (part 1); high = leb-true _ _ (part 2) }

pub most_bytes_any : (w : ℕ) → Width w → most_bytes w ≤ 4 * most_words
most_bytes_any = by_width (λ w. most_bytes w ≤ 4 * most_words) (omega arith) (omega arith)

pub bounded : (w : ℕ) → Width w → (f : List ℕ) → sized w f ≡ true → Bounded f
bounded w d f h =
    let s = sized_says w f h in
    let short : length f ≤ 4 * most_words = omega (arith, s.high, most_bytes_any w d) in
    record { low = omega (arith, s.low); high = omega arith }

-- ---- question 2

-- a file that a call for a version takes is of that version
pub own_width : (w : ℕ) → Width w → (f : List ℕ) → started w f ≡ true → w ≡ width_in f
unfolding started width_in
own_width w d f h =
    let start = word_at f 0 in
    let said = parts (eqb (kind_of start) 1) (eqb (version_of start) (version w) ∷ eqb (count_of start) (words_in f) ∷ []) h 1 in
    by_width (λ w. version_of start ≡ version w → w ≡ width_in f) (λ v. rw v) (λ v. rw v) w d (eqb-true _ _ said)
