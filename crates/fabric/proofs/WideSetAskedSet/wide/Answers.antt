-- Eight words are all that there are.
use mathlib.Core.List.{List, ◌++◌}
use mathlib.Core.Path.{◌≡◌}
use Prim.Native.Nat.{ℕ}
use borrow.Author.Rules.{rules}
use native.Mathlib.Omega.{arith}
use lib.ListN.{length, length-append}
use Rattle.wide.specs.Forms.{wide_of}
use Rattle.fabric.proofs.Asked.{narrow_eight, fits_eight}
use Rattle.fabric.proofs.WideSetAskedSet.wide.Goals as goal

-- two arrays of four words have eight
eight : (low high : List ℕ) → length low ≡ 4 → length high ≡ 4 → length (low ++ high) ≡ 8
eight low high l h = omega (arith, length-append low high)

pub returns-clause-fits : goal.returns-clause-fits
returns-clause-fits c =
    let t = c.args.self in
    fits_eight (wide_of t)
    (eight t.low.care t.high.care (search rules) (search rules)) (eight t.low.value t.high.value (search rules) (search rules))

pub returns-clause-narrowed : goal.returns-clause-narrowed
returns-clause-narrowed c =
    let t = c.args.self in
    narrow_eight (wide_of t)
    (eight t.low.care t.high.care (search rules) (search rules)) (eight t.low.value t.high.value (search rules) (search rules))
