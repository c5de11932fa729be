-- `first_part` meets its contract: what is held whole leaves no part.
use mathlib.Core.Path.{sym, ◌∙◌}
use Rattle.wide.proofs.Arrays.{set_fours}
use Rattle.carving.proofs.Cuts.{all_held}
use Rattle.leading.proofs.first_part.Goals as goal

pub returns-then-covers : goal.returns-then-covers
returns-then-covers c =
    let f = set_fours c.args.p c.well_formed.1.0 in
    sym (all_held c.args.x.now.stored f.low f.high (sym c.covers.ensures ∙ c.if-covers.true))
