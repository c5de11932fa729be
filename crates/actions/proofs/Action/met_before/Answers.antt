-- `Action::met_before` meets its contract: the transfer undone, and then the match; 'empty' where one of them is.
use Rattle.std.proofs.Common.{None, ◌≡◌, sym, ◌∙◌, rules}
use Rattle.headers.specs.Actions.{met_before}
use Rattle.sets.proofs.Answers.{then_set, then_empty}
use Rattle.actions.proofs.Action.met_before.Goals as goal

pub returns-in_err-moved : goal.returns-in_err-moved
unfolding met_before
returns-in_err-moved c =
    let said : c.from_residual.result ≡ None = search rules in
    said ∙ then_empty _ _ (sym c.in_err-moved.was ∙ c.untransferred.ensures)

pub returns : goal.returns
unfolding met_before
returns c = c.intersect.ensures ∙ then_set _ _ _ (sym c.in_ok-moved.was ∙ c.untransferred.ensures)
