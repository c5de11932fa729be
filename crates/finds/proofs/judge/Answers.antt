-- `judge` meets its contract: without a foreign part the trace goes on, and else the words of the verdict are written.
use native.Mathlib.Omega.{arith}
use Rattle.wide.specs.Forms.{wide_of}
use Rattle.events.proofs.FindEdge.{edge_long}
use Rattle.finds.proofs.FindForeign.{judged_on, judged_stops}
use Rattle.finds.proofs.judge.Goals as goal

pub foreign_part-requires : goal.foreign_part-requires
foreign_part-requires c = rw (c.edge_at-edge.ensures, c.requires.asked.width_is) (edge_long c.requires.has_edge)

pub returns-in-None : goal.returns-in-None
returns-in-None c =
    let a = c.args in
    judged_on c.requires.has_edge a.ask.target c.requires.asked.group_is a.find.now.way.now (wide_of a.find.now.set)
    c.requires.asked.width_is c.edge_at-edge.ensures a.counters a.area.now c.in-None.ensures

pub overflow_cast-counters : goal.overflow_cast-counters
overflow_cast-counters c = omega (arith, c.requires.made_within)

pub returns-in-Some : goal.returns-in-Some
returns-in-Some c =
    let a = c.args in
    judged_stops c.requires.has_edge a.ask.target c.requires.asked.group_is a.find.now.way.now (wide_of a.find.now.set)
    c.requires.asked.width_is c.edge_at-edge.ensures a.counters a.area.now c.in-Some.ensures
    (rw (c.port_at-port.ensures, c.requires.asked.width_is) at c.put_reached.ensures)
