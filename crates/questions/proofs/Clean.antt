-- Question 5 of a set by its halves of four words.
use mathlib.Core.Bool.{◌&&◌, and-true, and_assoc}
use mathlib.Core.List.{List}
use mathlib.Core.Path.{◌≡◌, refl, sym, ap, ap₂, ◌∙◌}
use Prim.Native.Nat.{ℕ, ◌*◌}
use native.Mathlib.Omega.{arith}
use lib.Dec.{eqb}
use Rattle.headers.specs.Sets.{Set, tidy, beside}
use Rattle.headers.proofs.Beside.{Long, word_right, tidy_beside}
use Rattle.layout.specs.Words.{bits}
use Rattle.layout.specs.Records.{half, Width, set_from, low_from, high_from}
use Rattle.layout.proofs.Widths.{by_width, set_halves}
use Rattle.questions.specs.Questions.{spare_at, clean, clean_high}

-- of eight words, by the first four and the last four
pub clean_beside : (low high : Set) → Long half low → clean (2 * half) (beside low high) ≡ (tidy half low && clean_high high)
clean_beside low high l =
    ap₂ ◌&&◌ (tidy_beside half half low high l) (ap (λ (x : ℕ). eqb (bits 7 0 x) 0) (word_right half low.care high.care l.care 3))
    ∙ and_assoc (tidy half low) (tidy half high) (spare_at 3 high)

-- of the set from word k on, as it is read
pub clean_halves : (w : ℕ) → Width w → (f : List ℕ) (k : ℕ)
    → clean w (set_from w f k) ≡ (tidy half (low_from w f k) && clean_high (high_from w f k))
clean_halves w d f k = by_width (λ w. clean w (set_from w f k) ≡ (tidy half (low_from w f k) && clean_high (high_from w f k))) refl
    eight w d
  where
    eight : clean 8 (set_from 8 f k) ≡ (tidy half (low_from 8 f k) && clean_high (high_from 8 f k))
    eight =
        ap (clean 8) (sym (set_halves f 8 (record { low = omega arith; high = omega arith; halves = refl }) k))
        ∙ clean_beside (low_from 8 f k) (high_from 8 f k) (record { care = refl; value = refl })

-- of four words there is nothing but their tidiness
pub clean_four : (w : ℕ) → w ≡ half → (f : List ℕ) (k : ℕ) → tidy half (low_from w f k) ≡ clean w (set_from w f k)
clean_four w e f k = rw e (sym (and-true (tidy half (low_from half f k))))
