-- `stop`, `take_back`, `descend` and `carve` meet their contracts, by the measure hops left, then beaters left: a call has a lower one
-- than its caller. A part's descent stands between the entry that it meets and the one that it met before.
-- `carve`'s loop is at a cut (`AtCut` of proofs/Carves.antt) and `stop`'s at an entry or past the last (`AtNext` of proofs/Stops.antt).
-- Each way out and each turn is a law there, and what follows what an entry takes back is one of proofs/Takes.antt.
use Prim.Native.Nat.{◌+◌, ◌-◌, ◌*◌}
use lib.ListN.{length}
use Rattle.headers.specs.Carving.{parts}
use Rattle.wide.specs.Forms.{wide_words, wide_of}
use Rattle.stored.specs.Forms.{set_there}
use Rattle.index.specs.Places.{chain_number}
use Rattle.trials.specs.Trials.{ending_number_of}
use Rattle.backtrace.proofs.Carves.{AtCut}
use Rattle.backtrace.proofs.Stops.{AtNext}
use Rattle.backtrace.proofs.+carve_descend_stop.Given as goal

-- with d places of the path free, at entry b
abbrev pub decreases-carve : goal.decreases-carve
decreases-carve l = l.d * 2048 + 2 * (512 - l.b)

abbrev pub decreases-descend : goal.decreases-descend
decreases-descend l = l.d * 2048 + 1 + 2 * (512 - ending_number_of l.b)

abbrev pub decreases-take_back : goal.decreases-take_back
decreases-take_back l = l.d * 2048 - 1

abbrev pub decreases-stop : goal.decreases-stop
decreases-stop l = l.d * 2048

abbrev pub invariant-carve-loop-matches : goal.invariant-carve-loop-matches
invariant-carve-loop-matches l =
    AtCut l.trace.file.now l.trace.ask l.trace.index.now l.port l.least l.b l.d l.initial.path l.initial.counters l.initial.area
    l.matches l.initial.cut l.path l.counters l.area l.cut

abbrev pub decreases-carve-loop-matches : goal.decreases-carve-loop-matches
decreases-carve-loop-matches l = length (parts wide_words (wide_of l.cut.set) (set_there l.matches))

abbrev pub invariant-stop-loop-next : goal.invariant-stop-loop-next
invariant-stop-loop-next l =
    AtNext l.trace.file.now l.trace.ask l.trace.index.now l.port (wide_of l.t) l.d l.initial.path l.initial.counters l.initial.area
    l.next l.path l.counters l.area

abbrev pub decreases-stop-loop-next : goal.decreases-stop-loop-next
decreases-stop-loop-next l = 512 - chain_number l.next
