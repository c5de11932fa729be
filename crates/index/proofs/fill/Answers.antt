-- `fill` meets its contract: an array of 'no entry' everywhere gets the places, and then the chains.
use mathlib.Core.Path.{sym, subst}
use Rattle.index.specs.Building.{no_place, Placed}
use Rattle.index.proofs.Placed.{placed_none}
use Rattle.index.proofs.Steps.{partly_none}
use Rattle.index.proofs.fill.Goals as goal

pub places-requires : goal.places-requires
places-requires c = subst (Placed no_place 0) (sym c.requires) placed_none

pub chains-requires : goal.chains-requires
chains-requires c = partly_none _ _ c.args.fabric.now.accepted _ c.places.ensures
