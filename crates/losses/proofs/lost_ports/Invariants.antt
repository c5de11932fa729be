-- `lost_ports` meets its contract: its loop is at a port (`AtPort` of proofs/Ports.antt).
use Rattle.wide.specs.Forms.{wide_of}
use Rattle.losses.proofs.Ports.{AtPort}
use Rattle.losses.proofs.lost_ports.Given as goal

abbrev pub invariant-loop-port : goal.invariant-loop-port
invariant-loop-port l =
    AtPort l.trace.file.now l.trace.ask l.trace.index.now (wide_of l.t) l.initial.counters l.initial.area l.port l.path l.counters l.area
