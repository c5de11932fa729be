-- `is_edge` meets its contract by what the table of edges says of the fabric.
use mathlib.Core.Path.{sym, ap, ◌∙◌}
use Prim.Native.Nat.{◌<◌, ◌≤◌}
use native.Mathlib.Omega.{arith}
use lib.Dec.{ltb}
use Rattle.model.proofs.Lookups.{edge_past, edge_looked_up}
use Rattle.queries.proofs.is_edge.Goals as goal

pub returns-in-Some : goal.returns-in-Some
returns-in-Some c =
    let e = c.args.edges.now in
    let there = c.in-Some.ensures.lookup.3 in
    let low : c.args.port < 4096 = omega (arith, there.0, e.table.long) in
    ap (ltb 0) (there.1 0) ∙ edge_looked_up _ _ e.fabric.accepted e.at.now e.table c.args.port low

pub returns-in-None : goal.returns-in-None
returns-in-None c =
    let e = c.args.edges.now in
    let past : 4096 ≤ c.args.port = omega (arith, c.in-None.ensures.lookup.3, e.table.long) in
    sym (edge_past _ _ e.fabric.accepted c.args.port past)
