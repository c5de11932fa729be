-- `part` meets its contract: the bit is taken in the half where it stands.
use mathlib.Core.Path.{ap, ◌∙◌}
use Rattle.headers.specs.Sets.{beside}
use Rattle.sets.specs.Forms.{set_of}
use Rattle.sets.specs.declared.HeaderSet.{HeaderSet}
use Rattle.carving.proofs.Arrays.{cut_fours}
use Rattle.carving.proofs.Cuts.{cut_low_part, cut_high_part}
use Rattle.carving.proofs.Cut.part.Goals as goal

pub returns-then-self : goal.returns-then-self
returns-then-self c =
    let f = cut_fours c.args.self c.well_formed.0 in
    ap (λ (s : HeaderSet). beside (set_of c.args.self.set.low) (set_of s)) (rw c.high.ensures at c.unlike.ensures)
    ∙ cut_high_part c.args.x.now.stored c.requires.cut f c.if-self.true

pub returns : goal.returns
returns c =
    let f = cut_fours c.args.self c.well_formed.0 in
    ap (λ (s : HeaderSet). beside (set_of s) (set_of c.args.self.set.high)) (rw c.low.ensures at c.unlike-2.ensures)
    ∙ cut_low_part c.args.x.now.stored c.requires.cut f c.if-self.false c.requires.free_value
