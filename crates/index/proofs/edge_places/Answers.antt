use mathlib.Core.Path.{◌≡◌, ap, ◌∙◌}
use native.Mathlib.Omega.{arith}
use Rattle.layout.specs.Records.{edge_port}
use Rattle.file.proofs.Accepted.{few_edges, edge_of, edge_port_is}
use Rattle.index.specs.Building.{place_after}
use Rattle.index.proofs.Placed.{edge_placed}
use Rattle.index.proofs.edge_places.Goals as goal

pub loop-k-init : goal.loop-k-init
unfolding place_after
loop-k-init c = c.requires

pub port-port-requires : goal.port-port-requires
port-port-requires c =
    rw c.edge.ensures (omega (arith, (edge_of _ _ c.args.fabric.now.accepted c.loop-k.k (omega arith)).long))

pub overflow_add-index : goal.overflow_add-index
overflow_add-index c = omega (arith, few_edges _ _ c.args.fabric.now.accepted)

pub overflow_cast-index : goal.overflow_cast-index
overflow_cast-index c = omega (arith, few_edges _ _ c.args.fabric.now.accepted)

pub loop-k-preserved : goal.loop-k-preserved
loop-k-preserved c =
    let l = c.loop-k in
    let at = c.port-port.ensures ∙ ap edge_port c.edge.ensures ∙ edge_port_is _ l.k in
    edge_placed _ _ _ _ at l.invariant

pub returns : goal.returns
returns c =
    let l = c.loop-k in
    let all : l.k ≡ c.args.fabric.now.counts.edges = omega arith in
    rw all at l.invariant
