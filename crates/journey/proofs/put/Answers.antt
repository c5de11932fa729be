-- `put` meets its contract: the fate's own number is written.
use mathlib.Core.Path.{ap, ◌∙◌}
use Prim.Native.Nat.{ℕ}
use Rattle.layout.specs.Versions.{header_words}
use Rattle.answer.specs.Answer.{written_at}
use Rattle.journey.specs.Journey.{fated_words}
use Rattle.journey.proofs.put.Goals as goal

pub returns : goal.returns
returns c =
    c.put_fated.ensures
    ∙ ap (λ (n : ℕ). written_at 0 (fated_words (header_words c.args.version) n c.args.j) c.args.area.now) c.number.ensures
