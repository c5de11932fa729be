use mathlib.Core.Path.{◌≡◌}
use native.Mathlib.Omega.{arith}
use Rattle.index.proofs.Placed.{link_placed, all_placed}
use Rattle.index.proofs.link_places.Goals as goal

pub loop-l-preserved : goal.loop-l-preserved
loop-l-preserved c =
    let l = c.loop-l in
    link_placed _ _ c.args.fabric.now.accepted _ _ _ _ (omega arith) c.link_from-from.ensures c.link_to-to.ensures l.invariant

pub returns : goal.returns
returns c =
    let l = c.loop-l in
    let all : l.l ≡ c.args.fabric.now.counts.links = omega arith in
    let placed = rw all at l.invariant in
    rw (all_placed _ _ c.args.fabric.now.accepted) at placed
