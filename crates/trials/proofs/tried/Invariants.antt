-- `tried` meets its contract: its loop is at an entry of the chain (`AtTrial` of proofs/Walk.antt), and each way out and each turn is a
-- law there.
use Prim.Native.Nat.{◌-◌}
use Rattle.std.specs.Prelude.{Some}
use Rattle.wide.specs.Forms.{wide_of}
use Rattle.model.specs.Model.{wide_in}
use Rattle.index.specs.Places.{chain_number}
use Rattle.trials.proofs.Walk.{AtTrial}
use Rattle.trials.proofs.tried.Given as goal

abbrev pub invariant-loop-ask : goal.invariant-loop-ask
invariant-loop-ask l =
    AtTrial (wide_in l.trace.file.now) l.trace.ask.budget l.least (chain_number l.fn.j) (wide_of l.p) l.initial.counters (Some l.b)
    l.counters

abbrev pub decreases-loop-ask : goal.decreases-loop-ask
decreases-loop-ask l = 512 - l.b
