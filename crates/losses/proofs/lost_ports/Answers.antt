-- `lost_ports` meets its contract: its loop is at a port (`AtPort` of proofs/Ports.antt).
use Rattle.std.proofs.Common.{◌≡◌, ◌<◌, arith, refl, ap, rules, Err}
use Rattle.wide.specs.Forms.{wide_of}
use Rattle.index.specs.Places.{number_of_place, IsFormed}
use Rattle.index.specs.declared.Place.{Place}
use Rattle.index.specs.declared.Place.TheVariants.{Nowhere, Port, Edge}
use Rattle.entries.proofs.Entries.{entries_few}
use Rattle.entries.proofs.InChains.{next_in_chain}
use Rattle.backtrace.proofs.Trying.{part_ended, after_trials, part_traced}
use Rattle.losses.proofs.Ports.{ports_begin, ports_end, first_there, port_skipped, port_ended, port_through}
use Rattle.losses.proofs.lost_ports.Goals as goal

-- another place than nowhere
somewhere : (p : Place) → IsFormed p → (p ≡ Nowhere → ⊥) → 0 < number_of_place p
somewhere Nowhere f n = absurd (n refl)
somewhere (Port y) f n = f.0
somewhere (Edge k) f n = omega arith

pub loop-port-init : goal.loop-port-init
loop-port-init c =
    let trace = c.args.trace.now in
    ports_begin (record { asked = trace.asked; indexed = trace.indexed; tracing = c.requires })

pub loop-port-preserved-in-Nowhere : goal.loop-port-preserved-in-Nowhere
loop-port-preserved-in-Nowhere c =
    port_skipped c.loop-port.invariant c.loop-port-test.true c.place_at.ensures.value (ap number_of_place c.in-Nowhere.is)

pub next_met-b-requires : goal.next_met-b-requires
next_met-b-requires c =
    let at = c.loop-port.invariant in
    let along = first_there at c.loop-port-test.true c.first_in-first.ensures.value in
    record {
      of_chain = (next_in_chain (entries_few at.in_hand.asked.fabric) along).of_chain;
      entry = c.first_in-first.ensures.entry;
    }

pub descend-requires : goal.descend-requires
descend-requires c =
    let n = c.next_met-b.ensures.answered in
    let at = c.loop-port.invariant in
    let along = first_there at c.loop-port-test.true c.first_in-first.ensures.value in
    record {
      tracing = (after_trials at.in_hand _ 0 (wide_of c.args.t) along n).tracing;
      port_bound = c.loop-port-test.true;
      ended = part_ended at.in_hand _ 0 (wide_of c.args.t) along c.next_met-b.result n;
    }

pub returns-in_err-descend : goal.returns-in_err-descend
returns-in_err-descend c =
    let n = c.next_met-b.ensures.answered in
    let at = c.loop-port.invariant in
    let along = first_there at c.loop-port-test.true c.first_in-first.ensures.value in
    let there = somewhere c.place_at.result c.place_at.ensures.formed c.in_default.not-Nowhere in
    let said : c.from_residual.result ≡ Err c.in_err-descend.field-0.0 = search rules in
    rw said (port_ended at c.loop-port-test.true c.place_at.ensures.value there
    (part_traced at.in_hand _ 0 (wide_of c.args.t) along c.next_met-b.result n _ _ c.in_err-descend.ensures.traced) refl)

pub loop-port-preserved : goal.loop-port-preserved
loop-port-preserved c =
    let n = c.next_met-b.ensures.answered in
    let at = c.loop-port.invariant in
    let along = first_there at c.loop-port-test.true c.first_in-first.ensures.value in
    let there = somewhere c.place_at.result c.place_at.ensures.formed c.in_default.not-Nowhere in
    port_through at c.loop-port-test.true c.place_at.ensures.value there
    (part_traced at.in_hand _ 0 (wide_of c.args.t) along c.next_met-b.result n _ _ c.in_ok-descend.ensures.traced) refl
    c.in_ok-descend.ensures.kept c.descend.auto.area

pub returns : goal.returns
returns c = ports_end c.loop-port.invariant c.loop-port-test.false _
