-- `clear_places` meets its contract: the cells of the ports are filled, and the others stay.
use Rattle.index.proofs.Placed.{placed_cleared}
use Rattle.index.proofs.clear_places.Goals as goal

pub returns : goal.returns
returns c = placed_cleared _ c.args.index.now (c.fill.ensures.after (λ y e. e)) c.requires
