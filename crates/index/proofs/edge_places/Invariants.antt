-- `edge_places` meets its contract. The loop's invariant: the places are as the edges passed have it.
use Rattle.index.specs.Building.{place_after, Placed}
use Rattle.index.proofs.edge_places.Given as goal

abbrev pub invariant-loop-k : goal.invariant-loop-k
invariant-loop-k l = Placed (place_after l.fabric.file.now l.k 0) 4096 l.index
