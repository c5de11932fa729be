-- `is_last` meets its contract: no other bit is free in the half that is carved, nor, that being the first, in the last.
use mathlib.Core.Path.{sym, ap, ◌∙◌}
use Rattle.layout.specs.Versions.{header_words}
use Rattle.wide.proofs.Answers.{left_to_last}
use Rattle.carving.proofs.Arrays.{cut_fours}
use Rattle.carving.proofs.Cuts.{cut_low_last, cut_high_last, more_here, last_of_four}
use Rattle.carving.proofs.Cut.is_last.Goals as goal

pub returns-then-not-none_set : goal.returns-then-not-none_set
returns-then-not-none_set c =
    let f = cut_fours c.args.self c.well_formed.0 in
    more_here c.args.x.now.stored c.requires.cut f c.requires.free_value
    (sym (rw c.outside.ensures at c.none_set.ensures) ∙ c.if-not-none_set.true)

pub returns-then-self : goal.returns-then-self
returns-then-self c =
    let f = cut_fours c.args.self c.well_formed.0 in
    sym (sym (rw c.outside.ensures at c.none_set.ensures) ∙ c.if-not-none_set.false)
    ∙ cut_high_last c.args.x.now.stored c.requires.cut f c.if-self.true

pub returns-in-One : goal.returns-in-One
returns-in-One c =
    let f = cut_fours c.args.self c.well_formed.0 in
    last_of_four c.args.x.now.stored c.requires.cut f c.requires.free_value
    (sym (rw c.outside.ensures at c.none_set.ensures) ∙ c.if-not-none_set.false) (ap header_words c.in-One.is)

pub returns-in-Two : goal.returns-in-Two
returns-in-Two c =
    let f = cut_fours c.args.self c.well_formed.0 in
    rw (c.free.ensures, c.high.ensures) at c.none_set-in-Two.ensures
    ∙ left_to_last _ _ _ (cut_low_last c.args.x.now.stored c.requires.cut f c.if-self.false c.requires.free_value)
    (sym (rw c.outside.ensures at c.none_set.ensures) ∙ c.if-not-none_set.false)
