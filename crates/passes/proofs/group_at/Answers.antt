-- `group_at` meets its contract: the table has the number of the edge at an edge port.
use Rattle.std.proofs.Common.{◌≡◌, ◌*◌, ◌∙◌, sym, ap, length, arith, true}
use Rattle.layout.specs.Records.{width_in, edge_words, edge_group, edge_bytes}
use Rattle.layout.specs.Versions.{shape_counted}
use Rattle.file.specs.declared.EdgePorts.{EdgePorts}
use Rattle.file.proofs.Accepted.{edge_of}
use Rattle.model.specs.Model.{fabric_in}
use Rattle.model.proofs.Lookups.{EdgeFound, edge_found}
use Rattle.passes.proofs.group_at.Goals as goal

-- the edge at the port
there : (e : EdgePorts) {port : _} → (fabric_in e.fabric.file.now).is_edge port ≡ true
    → EdgeFound e.fabric.file.now (shape_counted e.fabric.counts) e.fabric.accepted e.at.now port
there e is = edge_found e.fabric.file.now (shape_counted e.fabric.counts) e.fabric.accepted e.at.now e.table _ is

pub bounds-edges-port : goal.bounds-edges-port
bounds-edges-port c = omega (arith, (there c.args.edges.now c.requires).high)

pub overflow_sub-k : goal.overflow_sub-k
overflow_sub-k c = omega (arith, (there c.args.edges.now c.requires).numbered)

pub edge-requires : goal.edge-requires
edge-requires c =
    let e = there c.args.edges.now c.requires in
    omega (arith, e.numbered, e.below)

pub group-requires : goal.group-requires
group-requires c =
    let fabric = c.args.edges.now.fabric in
    let e = there c.args.edges.now c.requires in
    -- the edge read is the one at the port
    let is_edge : c.from.result ≡ e.edge = omega (arith, e.numbered, c.from.ensures) in
    let long : length c.edge.result.now ≡ 4 * edge_words (width_in fabric.file.now) =
    ap length (c.edge.ensures ∙ ap (edge_bytes fabric.file.now) is_edge)
    ∙ (edge_of fabric.file.now (shape_counted fabric.counts) fabric.accepted e.edge e.below).long in
    omega (arith, long)

pub returns : goal.returns
returns c =
    let e = there c.args.edges.now c.requires in
    let is_edge : c.from.result ≡ e.edge = omega (arith, e.numbered, c.from.ensures) in
    c.group.ensures ∙ ap edge_group (c.edge.ensures ∙ ap (edge_bytes c.args.edges.now.fabric.file.now) is_edge) ∙ sym e.group_is
