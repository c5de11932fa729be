-- The struct of the code as a rewrite and as an action over four words. Assumes nothing.
use Rattle.headers.specs.Sets.{Rewrite}
use Rattle.headers.specs.Actions.{Act}
use Rattle.actions.specs.declared.Action.{Action}

abbrev pub rewrite_of : Action → Rewrite
rewrite_of a = record { mask = a.mask; value = a.value }

abbrev pub act_of : Action → Act
act_of a = record { transfer = a.transfer; rewrite = rewrite_of a }
