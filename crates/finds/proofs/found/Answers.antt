-- `found` meets its contract, mode by mode.
use Rattle.events.specs.Asked.{found_by}
use Rattle.finds.proofs.found.Goals as goal

pub returns-in-List : goal.returns-in-List
unfolding found_by
returns-in-List c = rw c.in-List.is (rw c.requires.asked.width_is at c.list_find.ensures)

pub returns-in-Judge : goal.returns-in-Judge
unfolding found_by
returns-in-Judge c = rw c.in-Judge.is c.judge.ensures
