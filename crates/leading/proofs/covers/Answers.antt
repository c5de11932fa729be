-- `covers` meets its contract: each half overlaps and has no free bit; of four words the first half decides.
use mathlib.Core.Bool.{◌&&◌}
use mathlib.Core.Path.{refl, sym, ap, ap₂, ◌∙◌}
use Rattle.sets.specs.Forms.{set_of}
use Rattle.layout.specs.Versions.{header_words}
use Rattle.wide.proofs.Arrays.{set_fours}
use Rattle.wide.proofs.Halves.{covers_halves, wild_overlaps, wild_free}
use Rattle.wide.proofs.Answers.{refused_first, left_to_last}
use Rattle.leading.proofs.covers.Goals as goal

pub returns-then-not-overlaps : goal.returns-then-not-overlaps
returns-then-not-overlaps c =
    let f = set_fours c.args.p c.well_formed.1.0 in
    let is = covers_halves c.args.x.now.stored f.low f.high in
    let low = rw c.low-m.ensures at c.overlaps.ensures in
    refused_first _ _ _ is (sym (refused_first _ _ _ refl (sym low ∙ c.if-not-overlaps.true)))

pub returns-then-not-none_set : goal.returns-then-not-none_set
returns-then-not-none_set c =
    let f = set_fours c.args.p c.well_formed.1.0 in
    let is = covers_halves c.args.x.now.stored f.low f.high in
    let low = rw c.low-m.ensures at c.overlaps.ensures in
    let free = rw (c.free.ensures, c.low-m.ensures) at c.none_set.ensures in
    let overlap = sym low ∙ c.if-not-overlaps.false in
    refused_first _ _ _ is
    (sym (left_to_last _ _ _ refl overlap) ∙ sym free ∙ c.if-not-none_set.true)

pub returns-in-One : goal.returns-in-One
returns-in-One c =
    let f = set_fours c.args.p c.well_formed.1.0 in
    let is = covers_halves c.args.x.now.stored f.low f.high in
    let low = rw c.low-m.ensures at c.overlaps.ensures in
    let free = rw (c.free.ensures, c.low-m.ensures) at c.none_set.ensures in
    let overlap = sym low ∙ c.if-not-overlaps.false in
    let q = set_of c.args.p.high in
    let narrow = ap header_words c.in-One.is in
    sym (ap₂ ◌&&◌ (wild_overlaps c.args.x.now.stored narrow q) (wild_free c.args.x.now.stored narrow q))
    ∙ left_to_last _ _ _ is
    (sym (left_to_last _ _ _ refl overlap) ∙ sym free ∙ c.if-not-none_set.false)

pub returns-in-Two : goal.returns-in-Two
returns-in-Two c =
    let f = set_fours c.args.p c.well_formed.1.0 in
    let is = covers_halves c.args.x.now.stored f.low f.high in
    let low = rw c.low-m.ensures at c.overlaps.ensures in
    let free = rw (c.free.ensures, c.low-m.ensures) at c.none_set.ensures in
    let overlap = sym low ∙ c.if-not-overlaps.false in
    let read = c.high-c.ensures in
    ap₂ ◌&&◌ (rw read at c.overlaps-in-Two.ensures) (rw (c.free-in-Two.ensures, read) at c.none_set-in-Two.ensures)
    ∙ left_to_last _ _ _ is
    (sym (left_to_last _ _ _ refl overlap) ∙ sym free ∙ c.if-not-none_set.false)
