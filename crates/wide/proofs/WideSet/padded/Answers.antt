-- `WideSet::padded` meets its contract: the last four words are wild.
use mathlib.Core.Path.{ap}
use Rattle.headers.specs.Sets.{beside}
use Rattle.sets.specs.Forms.{set_of}
use Rattle.sets.specs.declared.HeaderSet.{HeaderSet}
use Rattle.wide.proofs.WideSet.padded.Goals as goal

pub returns : goal.returns
returns c = ap (λ (h : HeaderSet). beside (set_of c.args.s) (set_of h)) c.all_wild.ensures
