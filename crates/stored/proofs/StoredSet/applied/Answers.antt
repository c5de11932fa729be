-- `applied` meets its contract: the transfer and the first half's rewrite, and the last half's rewrite if there is one.
use mathlib.Core.List.{◌++◌}
use mathlib.Core.Path.{sym, ap, ap₂, ◌∙◌}
use Rattle.layout.specs.Versions.{header_words}
use Rattle.wide.proofs.Arrays.{header_halves}
use Rattle.wide.proofs.Halves.{acted_halves, wild_rewritten}
use Rattle.stored.proofs.StoredSet.applied.Goals as goal

pub returns-in-One : goal.returns-in-One
returns-in-One c =
    let stored = c.args.self.now.stored in
    let f = header_halves c.args.h c.well_formed.1.1.0 in
    ap₂ ◌++◌
    (rw (c.action_of.ensures, c.low.ensures) at c.apply-low.ensures)
    (sym (wild_rewritten stored (ap header_words c.in-One.is) f.high))
    ∙ sym (acted_halves stored f.low f.high c.args.transfer)

pub returns-in-Two : goal.returns-in-Two
returns-in-Two c =
    let f = header_halves c.args.h c.well_formed.1.1.0 in
    ap₂ ◌++◌
    (rw (c.action_of.ensures, c.low.ensures) at c.apply-low.ensures)
    (rw (c.action_of-in-Two.ensures, c.high.ensures) at c.written-high.ensures)
    ∙ sym (acted_halves c.args.self.now.stored f.low f.high c.args.transfer)
