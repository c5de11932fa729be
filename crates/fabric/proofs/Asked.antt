-- The asked set of a call as the code has it: one of four words is padded, one of eight is as it is.
use mathlib.Core.Path.{◌≡◌, sym, ap, ◌∙◌}
use native.Mathlib.Omega.{arith}
use lib.ListN.{length}
use lib.Seq.{take_at, take_all}
use Rattle.headers.specs.Bits.{words}
use Rattle.headers.specs.Sets.{Set, padded}
use Rattle.headers.proofs.Padded.{padded_none}
use Rattle.wide.specs.Forms.{narrowed, Fits}

module _ (s : Set) where
  pub narrow_four : length s.care ≡ 4 → length s.value ≡ 4 → narrowed 4 (padded 4 s) ≡ s
  narrow_four c v = λ i. record {
    care = take_at s.care (words 4 (λ w. 0)) 4 c i;
    value = take_at s.value (words 4 (λ w. 0)) 4 v i;
  }

  pub fits_four : (t : Set) → t ≡ padded 4 s → length s.care ≡ 4 → length s.value ≡ 4 → Fits 4 t
  fits_four t e c v = e ∙ ap (padded 4) (sym (narrow_four c v) ∙ ap (narrowed 4) (sym e))

  pub narrow_eight : length s.care ≡ 8 → length s.value ≡ 8 → narrowed 8 s ≡ s
  narrow_eight c v = λ i. record { care = take_all 8 s.care (omega arith) i; value = take_all 8 s.value (omega arith) i }

  pub fits_eight : length s.care ≡ 8 → length s.value ≡ 8 → Fits 8 s
  fits_eight c v = sym (narrow_eight c v) ∙ sym (padded_none (narrowed 8 s))
