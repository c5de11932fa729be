-- `Action::undo` meets its contract: the rewrite undone, and then the transfer for the match; 'empty' where one of them is.
use Rattle.std.proofs.Common.{None, ◌≡◌, sym, ap, ◌∙◌, rules}
use Rattle.sets.specs.Forms.{maybe_of}
use Rattle.headers.proofs.Acting.{before_steps}
use Rattle.sets.proofs.Answers.{then_set, then_empty}
use Rattle.actions.proofs.Action.undo.Goals as goal

pub returns-in_err-s : goal.returns-in_err-s
returns-in_err-s c =
    let said : c.from_residual.result ≡ None = search rules in
    said ∙ then_empty _ _ (sym c.in_err-s.was ∙ c.unwritten.ensures) ∙ ap maybe_of (sym (before_steps _ _ _ _))

pub returns : goal.returns
returns c =
    c.met_before.ensures ∙ then_set _ _ _ (sym c.in_ok-s.was ∙ c.unwritten.ensures)
    ∙ ap maybe_of (sym (before_steps _ _ _ _))
