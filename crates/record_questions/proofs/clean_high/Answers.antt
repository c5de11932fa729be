-- `clean_high` meets its contract: the two tests.
use mathlib.Core.Bool.{◌&&◌}
use mathlib.Core.Path.{◌≡◌, ap, ap₂}
use Prim.Native.Nat.{ℕ, ◌%◌}
use native.Mathlib.Omega.{arith}
use lib.Dec.{eqb}
use Rattle.headers.specs.Bits.{word}
use Rattle.layout.specs.Words.{bits}
use Rattle.record_questions.proofs.clean_high.Goals as goal

pub returns : goal.returns
returns c =
    let last = word c.args.s.care 3 in
    let spare : last % 256 ≡ bits 7 0 last = omega arith in
    ap₂ ◌&&◌ c.is_tidy.ensures (ap (λ (x : ℕ). eqb x 0) spare)
