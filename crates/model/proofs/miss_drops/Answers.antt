-- `miss_drops` reads bit 27 of the start word, which an accepted file has.
use mathlib.Core.Path.{sym, ap, ◌∙◌}
use Prim.Native.Nat.{ℕ}
use native.Mathlib.Omega.{arith}
use lib.Dec.{eqb}
use Rattle.layout.specs.Words.{choice_of}
use Rattle.file.proofs.Accepted.{ends_file}
use Rattle.model.proofs.Shapes.{miss_is}
use Rattle.model.proofs.miss_drops.Goals as goal

pub word-requires : goal.word-requires
word-requires c = omega (arith, ends_file _ _ c.args.fabric.now.accepted)

pub returns : goal.returns
returns c =
    ap (λ (n : ℕ). eqb n 1) (c.choice_of.ensures ∙ ap choice_of c.word.ensures)
    ∙ sym (miss_is c.args.fabric.now.file.now)
