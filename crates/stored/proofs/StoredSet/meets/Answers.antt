-- `meets` meets its contract: both halves overlap; of four words the first half decides.
use mathlib.Core.Path.{sym, ap, ◌∙◌}
use Rattle.sets.specs.Forms.{set_of}
use Rattle.layout.specs.Versions.{header_words}
use Rattle.wide.proofs.Arrays.{set_fours}
use Rattle.wide.proofs.Halves.{overlaps_halves, wild_overlaps}
use Rattle.wide.proofs.Answers.{refused_first, left_to_last}
use Rattle.stored.proofs.StoredSet.meets.Goals as goal

pub returns-then-not-overlaps : goal.returns-then-not-overlaps
returns-then-not-overlaps c =
    let f = set_fours c.args.p c.well_formed.1.0 in
    let low = rw c.low.ensures at c.overlaps.ensures in
    refused_first _ _ _ (overlaps_halves c.args.self.now.stored f.low f.high) (sym low ∙ c.if-not-overlaps.true)

pub returns-in-One : goal.returns-in-One
returns-in-One c =
    let stored = c.args.self.now.stored in
    let f = set_fours c.args.p c.well_formed.1.0 in
    let low = rw c.low.ensures at c.overlaps.ensures in
    sym (wild_overlaps stored (ap header_words c.in-One.is) (set_of c.args.p.high))
    ∙ left_to_last _ _ _ (overlaps_halves stored f.low f.high) (sym low ∙ c.if-not-overlaps.false)

pub returns-in-Two : goal.returns-in-Two
returns-in-Two c =
    let f = set_fours c.args.p c.well_formed.1.0 in
    let low = rw c.low.ensures at c.overlaps.ensures in
    rw c.high.ensures at c.overlaps-in-Two.ensures
    ∙ left_to_last _ _ _ (overlaps_halves c.args.self.now.stored f.low f.high) (sym low ∙ c.if-not-overlaps.false)
