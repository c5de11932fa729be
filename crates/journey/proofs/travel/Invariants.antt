-- `travel` meets its contract. The loop's invariant: j is the packet after k hops, or at its end before.
use Rattle.wide.specs.Forms.{words_of}
use Rattle.forwarding.specs.Run.{run}
use Rattle.model.specs.Model.{wide_in}
use Rattle.journey.specs.Journey.{IsJourney}
use Rattle.journey.proofs.travel.Given as goal

abbrev pub invariant-loop : goal.invariant-loop
invariant-loop l =
    IsJourney (wide_in l.links.fabric.file.now) (run (wide_in l.links.fabric.file.now) l.counter l.start (words_of l.initial.j.header)) l.j
