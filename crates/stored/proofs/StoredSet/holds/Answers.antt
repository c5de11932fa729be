-- `holds` meets its contract: the header's halves are in those of the set; of four words the first half decides.
use mathlib.Core.Path.{sym, ap, ◌∙◌}
use Rattle.layout.specs.Versions.{header_words}
use Rattle.wide.proofs.Arrays.{header_halves}
use Rattle.wide.proofs.Halves.{holds_halves, wild_contains}
use Rattle.wide.proofs.Answers.{refused_first, left_to_last}
use Rattle.stored.proofs.StoredSet.holds.Goals as goal

pub returns-then-not-contains : goal.returns-then-not-contains
returns-then-not-contains c =
    let f = header_halves c.args.h c.well_formed.1.0 in
    let is = holds_halves c.args.self.now.stored f.low f.high in
    let low = rw c.low.ensures at c.contains.ensures in
    refused_first _ _ _ is (sym low ∙ c.if-not-contains.true)

pub returns-in-One : goal.returns-in-One
returns-in-One c =
    let stored = c.args.self.now.stored in
    let f = header_halves c.args.h c.well_formed.1.0 in
    let is = holds_halves stored f.low f.high in
    let low = rw c.low.ensures at c.contains.ensures in
    sym (wild_contains stored (ap header_words c.in-One.is) c.args.h.high)
    ∙ left_to_last _ _ _ is (sym low ∙ c.if-not-contains.false)

pub returns-in-Two : goal.returns-in-Two
returns-in-Two c =
    let f = header_halves c.args.h c.well_formed.1.0 in
    let is = holds_halves c.args.self.now.stored f.low f.high in
    let low = rw c.low.ensures at c.contains.ensures in
    rw c.high.ensures at c.contains-in-Two.ensures
    ∙ left_to_last _ _ _ is (sym low ∙ c.if-not-contains.false)
