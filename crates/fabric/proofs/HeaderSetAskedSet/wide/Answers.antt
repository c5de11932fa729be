-- A set of four words, padded, is narrowed to itself.
use mathlib.Core.Path.{ap, ◌∙◌}
use borrow.Author.Rules.{rules}
use Rattle.sets.specs.Forms.{set_of}
use Rattle.wide.specs.Forms.{narrowed}
use Rattle.fabric.proofs.Asked.{narrow_four, fits_four}
use Rattle.fabric.proofs.HeaderSetAskedSet.wide.Goals as goal

pub returns-clause-fits : goal.returns-clause-fits
returns-clause-fits c = fits_four (set_of c.args.self) _ c.padded.ensures (search rules) (search rules)

pub returns-clause-narrowed : goal.returns-clause-narrowed
returns-clause-narrowed c =
    ap (narrowed 4) c.padded.ensures ∙ narrow_four (set_of c.args.self) (search rules) (search rules)
