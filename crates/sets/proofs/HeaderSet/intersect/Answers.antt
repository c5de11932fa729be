-- `HeaderSet::intersect` meets its contract: the test that it makes is the one that decides the intersection.
use mathlib.Core.Path.{sym, ◌∙◌}
use Rattle.headers.specs.Sets.{intersection}
use Rattle.sets.proofs.Answers.{some_set, empty_set}
use Rattle.sets.proofs.HeaderSet.intersect.Goals as goal

pub returns-then-overlaps : goal.returns-then-overlaps
unfolding intersection
returns-then-overlaps c = some_set _ _ _ (sym c.overlaps.ensures ∙ c.if-overlaps.true) c.joined.ensures

pub returns-else-overlaps : goal.returns-else-overlaps
unfolding intersection
returns-else-overlaps c = empty_set _ _ (sym c.overlaps.ensures ∙ c.if-overlaps.false)
