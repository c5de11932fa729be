-- `pass` meets its contract: its trace is of an accepted file, and what `stop` leaves is the pass.
use Rattle.std.proofs.Common.{arith, refl}
use Rattle.layout.specs.Versions.{shape_counted}
use Rattle.wide.specs.Forms.{wide_of}
use Rattle.file.proofs.Accepted.{words_said}
use Rattle.model.proofs.Lookups.{edge_found}
use Rattle.passes.proofs.Passing.{asked, passed}
use Rattle.passes.proofs.pass.Goals as goal

pub invariant_of-trace : goal.invariant_of-trace
invariant_of-trace c =
    let fabric = c.args.edges.now.fabric in
    record {
      asked = asked fabric.accepted _ c.group_at.ensures c.entries_at.ensures (words_said _ _ fabric.accepted);
      indexed = c.requires.index;
    }

pub stop-ended-requires-clause-place : goal.stop-ended-requires-clause-place
stop-ended-requires-clause-place c =
    let e = c.args.edges.now in
    let there = edge_found e.fabric.file.now (shape_counted e.fabric.counts) e.fabric.accepted e.at.now e.table
    c.args.query.now.port c.requires.target_value in (omega (arith, there.low), there.high)

pub returns : goal.returns
returns c =
    let e = c.args.edges.now in
    let there = edge_found e.fabric.file.now (shape_counted e.fabric.counts) e.fabric.accepted e.at.now e.table
    c.args.query.now.port c.requires.target_value in
    passed e.fabric.file.now _ c.args.query.now.limit c.requires.le_limit.0 c.requires.le_limit.1 refl there.low there.high
    (wide_of c.args.query.now.asked) c.args.area.now c.stop-ended.ensures.traced
