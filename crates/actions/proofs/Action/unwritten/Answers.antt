-- `Action::unwritten` meets its contract: the test that it makes is the one that decides the undone set.
use Rattle.std.proofs.Common.{sym, ◌∙◌, ap}
use Rattle.headers.specs.Sets.{undone, overlaps}
use Rattle.sets.specs.Forms.{set_of}
use Rattle.sets.specs.declared.HeaderSet.{HeaderSet}
use Rattle.sets.proofs.Answers.{some_set, empty_set}
use Rattle.actions.proofs.Action.unwritten.Goals as goal

pub returns-then-overlaps : goal.returns-then-overlaps
unfolding undone
returns-then-overlaps c =
    let a = c.args in
    some_set _ _ _
    (ap (λ (w : HeaderSet). overlaps 4 (set_of a.t) (set_of w)) (sym c.writes.ensures)
    ∙ sym c.overlaps.ensures ∙ c.if-overlaps.true)
    c.widened.ensures

pub returns-else-overlaps : goal.returns-else-overlaps
unfolding undone
returns-else-overlaps c =
    let a = c.args in
    empty_set _ _
    (ap (λ (w : HeaderSet). overlaps 4 (set_of a.t) (set_of w)) (sym c.writes.ensures)
    ∙ sym c.overlaps.ensures ∙ c.if-overlaps.false)
