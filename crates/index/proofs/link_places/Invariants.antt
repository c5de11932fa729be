-- `link_places` meets its contract. The loop's invariant: the places are as all edges and the links passed have it.
use Rattle.index.specs.Building.{place_after, Placed}
use Rattle.index.proofs.link_places.Given as goal

abbrev pub invariant-loop-l : goal.invariant-loop-l
invariant-loop-l l = Placed (place_after l.fabric.file.now l.fabric.counts.edges l.l) 4096 l.index
