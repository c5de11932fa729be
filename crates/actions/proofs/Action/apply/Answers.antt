-- `Action::apply` meets its contract: the transfer, and then the rewrite.
use Rattle.std.proofs.Common.{List, ℕ, ◌∙◌, ap}
use Rattle.headers.specs.Sets.{rewritten}
use Rattle.actions.specs.Forms.{rewrite_of}
use Rattle.actions.proofs.Action.apply.Goals as goal

pub returns : goal.returns
returns c =
    let a = c.args in
    c.written.ensures ∙ ap (λ (h : List ℕ). rewritten 4 (rewrite_of a.self) h) c.transferred.ensures
