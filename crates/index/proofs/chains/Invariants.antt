-- `chains` meets its contract. The loop's invariant: the entries from `e` on are chained.
use Rattle.index.specs.Building.{Partly}
use Rattle.index.proofs.chains.Given as goal

abbrev pub invariant-loop-e : goal.invariant-loop-e
invariant-loop-e l = Partly l.fabric.file.now l.e l.index
