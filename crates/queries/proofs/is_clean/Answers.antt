-- `is_clean` meets its contract: the two tests of the halves.
use mathlib.Core.Bool.{Bool, ◌&&◌}
use mathlib.Core.Path.{sym, ap, ◌∙◌}
use borrow.Author.Rules.{rules}
use Rattle.sets.specs.Forms.{set_of}
use Rattle.questions.specs.Questions.{clean_high}
use Rattle.questions.proofs.Clean.{clean_beside}
use Rattle.queries.proofs.is_clean.Goals as goal

pub returns-then-is_tidy : goal.returns-then-is_tidy
returns-then-is_tidy c =
    let s = c.args.asked in
    c.clean_high.ensures
    ∙ ap (λ (b : Bool). b && clean_high (set_of s.high)) (sym c.if-is_tidy.true ∙ c.is_tidy.ensures)
    ∙ sym (clean_beside (set_of s.low) (set_of s.high) (record { care = search rules; value = search rules }))

pub returns-else-is_tidy : goal.returns-else-is_tidy
returns-else-is_tidy c =
    let s = c.args.asked in
    c.if-is_tidy.false
    ∙ ap (λ (b : Bool). b && clean_high (set_of s.high)) (sym c.if-is_tidy.false ∙ c.is_tidy.ensures)
    ∙ sym (clean_beside (set_of s.low) (set_of s.high) (record { care = search rules; value = search rules }))
