use mathlib.Core.Path.{◌≡◌, subst}
use Prim.Native.Nat.{ℕ}
use borrow.Author.Rules.{rules}
use native.Mathlib.Omega.{arith}
use Rattle.wide.specs.Forms.{words_of}
use Rattle.answer.specs.Answer.{sixteen}
use Rattle.forwarding.specs.Run.{run, fate_of, port_of, header_of, taken_by}
use Rattle.forwarding.proofs.Runs.{hops_within}
use Rattle.model.specs.Model.{wide_in}
use Rattle.journey.specs.Journey.{IsJourney}
use Rattle.journey.proofs.Hops.{one_more_hop, few_hops}
use Rattle.journey.proofs.travel.Goals as goal

pub loop-init : goal.loop-init
unfolding fate_of port_of taken_by header_of sixteen run
loop-init c = search rules

pub hop-j-requires : goal.hop-j-requires
hop-j-requires c =
    let l = c.loop in
    few_hops (wide_in c.args.links.now.fabric.file.now) l.counter c.args.start (words_of c.args.header) l.j l.invariant (omega arith)

pub loop-preserved : goal.loop-preserved
loop-preserved c =
    let l = c.loop in
    let F = wide_in c.args.links.now.fabric.file.now in
    let h = words_of c.args.header in
    one_more_hop F l.counter c.args.start h _
    (c.hop-j.ensures.follows (run F l.counter c.args.start h) (omega (arith, hops_within F l.counter c.args.start h)) l.invariant)

pub returns : goal.returns
returns c =
    let l = c.loop in
    let F = wide_in c.args.links.now.fabric.file.now in
    let all : l.counter ≡ c.args.limit = omega arith in
    subst (λ (k : ℕ). IsJourney F (run F k c.args.start (words_of c.args.header)) l.j) all l.invariant
