-- `leading_part` meets its contract: apart, all of the set; else the first free bit opposite, in the first half if one is free there.
use mathlib.Core.Bool.{◌&&◌}
use mathlib.Core.Option.{some}
use mathlib.Core.Path.{sym, ap, ap₂, ◌∙◌}
use Rattle.headers.specs.Sets.{beside}
use Rattle.sets.specs.Forms.{set_of}
use Rattle.sets.specs.declared.HeaderSet.{HeaderSet}
use Rattle.wide.proofs.Arrays.{set_fours}
use Rattle.wide.proofs.Halves.{overlaps_halves}
use Rattle.carving.proofs.Cuts.{first_whole, first_low, first_high}
use Rattle.leading.proofs.leading_part.Goals as goal

pub returns-then-not-overlaps : goal.returns-then-not-overlaps
returns-then-not-overlaps c =
    let f = set_fours c.args.p c.well_formed.1.0 in
    let met = overlaps_halves c.args.x.now.stored f.low f.high
    ∙ sym (ap₂ ◌&&◌ (rw c.low-m.ensures at c.overlaps.ensures)
    (rw c.high-c.ensures at c.overlaps-2.ensures)) in
    first_whole c.args.x.now.stored f.low f.high (met ∙ c.if-not-overlaps.true)

pub returns-then-none_set : goal.returns-then-none_set
returns-then-none_set c =
    let f = set_fours c.args.p c.well_formed.1.0 in
    let met = overlaps_halves c.args.x.now.stored f.low f.high
    ∙ sym (ap₂ ◌&&◌ (rw c.low-m.ensures at c.overlaps.ensures)
    (rw c.high-c.ensures at c.overlaps-2.ensures)) in
    first_high c.args.x.now.stored f.low f.high (met ∙ c.if-not-overlaps.false)
    (sym (rw (c.free-low_free.ensures, c.low-m.ensures) at c.none_set.ensures)
    ∙ c.if-none_set.true) c.requires
    ∙ ap (λ (s : HeaderSet). some (beside (set_of c.args.p.low) (set_of s)))
    (sym (rw (c.first_bit.ensures, c.free.ensures, c.high-c.ensures)
    at c.unlike.ensures))

pub returns : goal.returns
returns c =
    let f = set_fours c.args.p c.well_formed.1.0 in
    let met = overlaps_halves c.args.x.now.stored f.low f.high
    ∙ sym (ap₂ ◌&&◌ (rw c.low-m.ensures at c.overlaps.ensures)
    (rw c.high-c.ensures at c.overlaps-2.ensures)) in
    first_low c.args.x.now.stored f.low f.high (met ∙ c.if-not-overlaps.false)
    (sym (rw (c.free-low_free.ensures, c.low-m.ensures) at c.none_set.ensures)
    ∙ c.if-none_set.false)
    ∙ ap (λ (s : HeaderSet). some (beside (set_of s) (set_of c.args.p.high)))
    (sym (rw (c.first_bit-2.ensures, c.free-low_free.ensures, c.low-m.ensures)
    at c.unlike-2.ensures))
