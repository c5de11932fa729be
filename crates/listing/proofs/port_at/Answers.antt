-- `port_at` meets its contract: an edge's own bytes say its port.
use mathlib.Core.Path.{ap, ◌∙◌}
use native.Mathlib.Omega.{arith}
use Rattle.layout.specs.Records.{edge_port}
use Rattle.file.proofs.Accepted.{edge_port_is}
use Rattle.events.proofs.FindEdge.{edge_long}
use Rattle.listing.proofs.port_at.Goals as goal

pub port-requires : goal.port-requires
port-requires c = rw c.edge_at.ensures (omega (arith, (edge_long c.requires).long))

pub returns : goal.returns
returns c =
    let a = c.args in
    c.port.ensures ∙ ap edge_port c.edge_at.ensures ∙ edge_port_is a.file.now a.k
