use mathlib.Core.Bool.{not}
use mathlib.Core.List.{List}
use mathlib.Core.Path.{◌≡◌, sym, ap, ◌∙◌}
use Prim.Native.Nat.{ℕ, ◌+◌, ◌≤◌, ◌<◌}
use native.Mathlib.Omega.{arith}
use lib.ListN.{get_or}
use Rattle.wide.specs.Forms.{wide_of}
use Rattle.forwarding.specs.Fabric.{priority_of}
use Rattle.model.specs.Model.{fabric_in, wide_in}
use Rattle.index.specs.Index.{Index, ranks}
use Rattle.index.specs.Places.{chain_number}
use Rattle.entries.proofs.Entries.{entries_few}
use Rattle.entries.proofs.Ranked.{next_with_lem}
use Rattle.trials.specs.declared.Ending.TheVariants.{Met, Past, Used}
use Rattle.trials.proofs.Found.{number_is}
use Rattle.trials.proofs.Walk.{AtTrial, unit_counted, first_trial, walk_ends, is_entry, ranked_lower, refused_at, met_at, passed_over}
use Rattle.trials.proofs.tried.Goals.{After-next_in, then-least-rank+else-is_err+else-meets, else-least-rank}
use Rattle.trials.proofs.tried.Goals as goal

-- what is read, as the fabric has it
rank_is : {f cells : List ℕ} → Index f cells → {b r : ℕ} → b < (fabric_in f).entries → r ≡ get_or cells (ranks + b) 0
    → r ≡ priority_of (wide_in f) b
rank_is i l h = h ∙ i.priorities _ l

pub returns-in_default : goal.returns-in_default
returns-in_default c =
    let t = c.args.trace.now in
    let n =
    walk_ends {f = wide_in t.file.now} {budget = t.ask.budget} {q = c.args.least} {j = chain_number c.args.j} {p = wide_of c.args.p}
    {counters₀ = c.args.counters.now} {counters = c.args.counters.now}
    (entries_few t.asked.fabric) (first_trial c.requires.of_chain c.requires.entry c.in_default.is) in
    record { answered = n; number_is = number_is Past n }

pub loop-ask-init : goal.loop-ask-init
loop-ask-init c = first_trial c.requires.of_chain c.requires.entry c.in-Some.is

pub rank-requires : goal.rank-requires
rank-requires c =
    let few = entries_few c.args.trace.now.asked.fabric in
    let l = is_entry few c.loop-ask.invariant in
    omega arith

pub returns-then-is_err : goal.returns-then-is_err
returns-then-is_err c =
    let t = c.args.trace.now in
    let few = entries_few t.asked.fabric in
    let x = c.loop-ask.invariant in
    let is = rank_is t.indexed (is_entry few x) c.rank.ensures in
    let h : c.args.least ≤ priority_of (wide_in t.file.now) c.loop-ask.b = let h = c.if-least-rank.true in omega arith in
    let n = refused_at few x h (unit_counted c.unit.ensures) (c.is_err.ensures.negation ∙ ap not c.if-is_err.true) in
    record { answered = n; number_is = number_is Used n }

pub meets-requires-clause-e_bound : goal.meets-requires-clause-e_bound
meets-requires-clause-e_bound c = is_entry (entries_few c.args.trace.now.asked.fabric) c.loop-ask.invariant

pub returns-then-meets : goal.returns-then-meets
returns-then-meets c =
    let t = c.args.trace.now in
    let few = entries_few t.asked.fabric in
    let x = c.loop-ask.invariant in
    let is = rank_is t.indexed (is_entry few x) c.rank.ensures in
    let h : c.args.least ≤ priority_of (wide_in t.file.now) c.loop-ask.b = let h = c.if-least-rank.true in omega arith in
    let n = met_at few x h (unit_counted c.unit.ensures) (c.is_err.ensures.negation ∙ ap not c.if-is_err.false)
    (sym c.meets.ensures ∙ c.if-meets.true) in
    record { answered = n; number_is = number_is (Met c.loop-ask.b) n }

pub next_in-requires : goal.next_in-requires
next_in-requires c =
    let few = entries_few c.args.trace.now.asked.fabric in
    let l = is_entry few c.loop-ask.invariant in
    omega arith

-- the entry in hand is tried, or below the priority, and the chain goes on
gone_on : (c : After-next_in) → AtTrial (wide_in c.args.trace.now.file.now) c.args.trace.now.ask.budget c.args.least
    (chain_number c.args.j) (wide_of c.args.p) c.args.counters.now c.next_in.result c.if-least-rank.counters
gone_on c =
    let t = c.args.trace.now in
    let few = entries_few t.asked.fabric in
    let x = c.loop-ask.invariant in
    let is = rank_is t.indexed (is_entry few x) c.rank.ensures in
    let n = next_with_lem t.asked.fabric t.indexed _ _ (is_entry few x) c.next_in.ensures.value in
    elim c.if-least-rank.branch [
      | then-least-rank+else-is_err+else-meets w ↦
          rw w.counters-is
          (passed_over few x (let h = w.if-least-rank.true in omega arith) (unit_counted w.unit.ensures)
          (w.is_err.ensures.negation ∙ ap not w.if-is_err.false) (sym w.meets.ensures ∙ w.if-meets.false) n c.next_in.ensures.entry)
      | else-least-rank w ↦
          rw w.counters-is
          (ranked_lower few x (let h = w.if-least-rank.false in omega arith) n c.next_in.ensures.entry)
    ]

pub returns-in_default-next_in : goal.returns-in_default-next_in
returns-in_default-next_in c =
    let t = c.args.trace.now in
    let n =
    walk_ends {f = wide_in t.file.now} {budget = t.ask.budget} {q = c.args.least} {j = chain_number c.args.j} {p = wide_of c.args.p}
    {counters₀ = c.args.counters.now} {counters = c.if-least-rank.counters} (entries_few t.asked.fabric)
    (rw c.in_default-next_in.is at (gone_on (goal.at.returns-in_default-next_in c).After-next_in)) in
    record { answered = n; number_is = number_is Past n }

pub loop-ask-smaller : goal.loop-ask-smaller
loop-ask-smaller c =
    let t = c.args.trace.now in
    let few = entries_few t.asked.fabric in
    let l = is_entry few c.loop-ask.invariant in
    let n = next_with_lem t.asked.fabric t.indexed _ _ l c.next_in.ensures.value in
    omega (arith, n.low)

pub loop-ask-preserved : goal.loop-ask-preserved
loop-ask-preserved c = rw c.in-Some-next_in.is at (gone_on (goal.at.loop-ask-preserved c).After-next_in)
