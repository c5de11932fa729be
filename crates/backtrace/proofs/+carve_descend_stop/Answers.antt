-- `carve`, `descend`, `stop` and `take_back` meet their contracts: each goal is a law of proofs/, at what the code has in hand.
use Rattle.std.proofs.Common.{ℕ, suc, ◌+◌, ◌-◌, ◌<◌, List, get_or, take, drop, Option, Some, None, Err}
use Rattle.std.proofs.Common.{◌≡◌, ◌∙◌, refl, sym, ap, subst, arith, rules}
use Rattle.std.proofs.lemmas.List.{take_all}
use Rattle.headers.specs.Bits.{no_bit}
use Rattle.headers.specs.Carving.{free}
use Rattle.headers.specs.Sets.{Set}
use Rattle.layout.specs.Records.{half}
use Rattle.layout.specs.Versions.{header_words}
use Rattle.wide.specs.Forms.{wide_words, wide_of}
use Rattle.wide.specs.declared.WideSet.{WideSet}
use Rattle.stored.specs.Forms.{set_there}
use Rattle.stored.specs.declared.StoredSet.{StoredSet}
use Rattle.carving.specs.declared.Cut.{Cut}
use Rattle.carving.proofs.Arrays.{cut_fours}
use Rattle.carving.proofs.Cuts.{done_exactly}
use Rattle.forwarding.specs.Fabric.{in_port_of, outranks}
use Rattle.model.specs.Model.{fabric_in, wide_in}
use Rattle.index.specs.Index.{next_in}
use Rattle.index.specs.Places.{chain_number}
use Rattle.index.proofs.Chained.{Next}
use Rattle.entries.specs.Entries.{OfChain}
use Rattle.entries.proofs.Entries.{entries_few}
use Rattle.entries.proofs.InChains.{next_in_chain}
use Rattle.entries.proofs.Backs.{back_empty, back_moved, back_kept}
use Rattle.events.specs.Asked.{Path, budget_of}
use Rattle.events.specs.declared.Ask.{Ask}
use Rattle.events.specs.declared.Counters.{Counters}
use Rattle.events.proofs.Ways.{hops_are}
use Rattle.trials.specs.Trials.{Met, NextMet, trials_from, ending_said, ending_number_of, answer_of}
use Rattle.trials.specs.declared.Ending.{Ending}
use Rattle.trials.specs.declared.Trace.{Trace}
use Rattle.backtrace.specs.Cycle.{Tracing, Ended}
use Rattle.backtrace.proofs.Tracings.{InHand, after_unit}
use Rattle.backtrace.proofs.Trying.{part_ended, part_later, after_trials, part_traced}
use Rattle.backtrace.proofs.Descents.{place_found, descended_past, descended_used}
use Rattle.backtrace.proofs.Paths.{kept_same}
use Rattle.backtrace.proofs.Carves.{next_along, AtCut, match_there, first_part, parts_done, fewer_parts, part_last, part_through}
use Rattle.backtrace.proofs.Carves.{part_stops, cares, cut_traced}
use Rattle.backtrace.proofs.Takes.{head_of, with_entry, kept_under, took_back}
use Rattle.backtrace.proofs.Stops.{at_edge, no_link, no_hop, first_entry, come_to, below_none, at_end, fewer_left}
use Rattle.backtrace.proofs.Stops.{entries_end, entry_refused, entry_empty, entry_ended, entry_through}
use Rattle.backtrace.proofs.+carve_descend_stop.Goals as goal

-- what a trace has in hand
in_hand : (t : Trace) {d : ℕ} {path : List ℕ} {counters : Counters} {area : List ℕ} → Tracing t.ask d path counters area
    → InHand t.file.now t.ask t.index.now d path counters area
in_hand t x = record { asked = t.asked; indexed = t.indexed; tracing = x }

-- an entry that is the first of its chain from some entry on is one to begin trials with
of_chain : (t : Trace) → {x j i : ℕ} → Next (in_port_of (fabric_in t.file.now)) (fabric_in t.file.now).entries x j i
    → OfChain (fabric_in t.file.now).entries i
of_chain t along = (next_in_chain (entries_few t.asked.fabric) along).of_chain

-- what `descend` asks of a part whose trials ended, beside the measure
ended_at : {f : List ℕ} {ask : Ask} {index : List ℕ} {d : ℕ} {path : List ℕ} {counters : Counters} {area : List ℕ}
    (t : InHand f ask index d path counters area) {x : ℕ} (q : ℕ) (p : Set) {j i : ℕ}
    → Next (in_port_of (fabric_in f)) (fabric_in f).entries x j i → (e : Ending) → {counters' : Counters}
    → NextMet (trials_from (wide_in f) (budget_of ask) q i p counters.made) counters (answer_of (ending_said e)) counters'
    → x < 4096 → Tracing ask d path counters' area × (x < 4096 × Ended f ask x p counters' (ending_said e))
ended_at t q p along e n l = ((after_trials t _ q p along n).tracing, (l, part_ended t _ q p along e n))

-- ---- `carve`

-- the next entry of the chain
after_entry : (t : Trace) → {x b : ℕ} {p : Set} → Met (wide_in t.file.now) x p b → (o : Option ℕ)
    → chain_number o ≡ get_or t.index.now (next_in + b) 0
    → Next (in_port_of (fabric_in t.file.now)) (fabric_in t.file.now).entries x (suc b) (chain_number o)
after_entry t met o = next_along t.asked.fabric t.indexed met (chain_number o)

-- bits are free, exactly if the cut has some
left_exactly : {f : List ℕ} {ask : Ask} {index : List ℕ} {x q b d : ℕ} {path₀ : List ℕ} {counters₀ : Counters}
    {area₀ : List ℕ} {s : StoredSet} {c₀ : Cut} {path : List ℕ} {counters : Counters} {area : List ℕ} {c : Cut}
    → AtCut f ask index x q b d path₀ counters₀ area₀ s c₀ path counters area c
    → no_bit wide_words (free wide_words (wide_of c.set) (set_there s)) ≡ no_bit half c.free
left_exactly {s = s} at = sym (done_exactly s.stored at.is_cut at.fours)

pub carve-next_in-next-requires : goal.carve-next_in-next-requires
carve-next_in-next-requires t c = omega (arith, c.requires.met.is_entry, entries_few c.args.trace.now.asked.fabric)

pub carve-loop-matches-init : goal.carve-loop-matches-init
carve-loop-matches-init t c =
    let fours = cut_fours c.first-cut.result c.first-cut.type_inv in
    let is_met = subst
    (λ (s : WideSet). Met (wide_in c.args.trace.now.file.now) c.args.port (wide_of s) c.args.b)
    (sym c.first-cut.ensures.set_value) c.requires.met in
    let e = c.entry_at-entry.ensures in
    let m = c.matches-matches.ensures in
    record {
      at_part = first_part (in_hand c.args.trace.now c.requires.tracing) is_met c.args.least
          (match_there c.args.trace.now.asked c.entry_at-entry.result c.matches-matches.result e.entry e.same_version m.bytes m.at
          m.same_version) (cares c.first-cut.result.set fours);
      is_cut = c.first-cut.ensures.cut;
      fours = fours;
    }

pub carve-next_met-k-requires-clause-of_chain : goal.carve-next_met-k-requires-clause-of_chain
carve-next_met-k-requires-clause-of_chain t c =
    of_chain c.args.trace.now (after_entry c.args.trace.now c.requires.met c.next_in-next.result c.next_in-next.ensures.value)

pub carve-descend-requires : goal.carve-descend-requires
carve-descend-requires t c =
    let n = c.next_met-k.ensures.answered in
    let along = after_entry c.args.trace.now c.requires.met c.next_in-next.result c.next_in-next.ensures.value in
    let few = entries_few c.args.trace.now.asked.fabric in
    let hand = c.loop-matches.invariant.at_part.in_hand in
    let later = part_later hand _ c.args.least (wide_of c.part-part.result) along
    c.next_met-k.result n (omega (arith, c.requires.met.is_entry)) in (
      omega (arith, c.decreases, c.requires.met.is_entry),
      ended_at hand c.args.least (wide_of c.part-part.result) along c.next_met-k.result n c.requires.port_bound,
    )

pub carve-returns-then-is_last-clause-traced : goal.carve-returns-then-is_last-clause-traced
carve-returns-then-is_last-clause-traced t c =
    let n = c.next_met-k.ensures.answered in
    let along = after_entry c.args.trace.now c.requires.met c.next_in-next.result c.next_in-next.ensures.value in
    let at = c.loop-matches.invariant in
    cut_traced _ _ _ _ _ (ap wide_of c.first-cut.ensures.set_value)
    (part_last at.at_part (left_exactly at ∙ sym c.is_done.ensures ∙ c.loop-matches-test.true) c.part-part.ensures
    (part_traced at.at_part.in_hand _ c.args.least (wide_of c.part-part.result) along c.next_met-k.result n _ _ c.descend.ensures.traced)
    (sym c.is_last.ensures ∙ c.if-is_last.true))

pub carve-next_met-k-requires-in-loop-matches-clause-of_chain :
    goal.carve-next_met-k-requires-in-loop-matches-clause-of_chain
carve-next_met-k-requires-in-loop-matches-clause-of_chain t c =
    of_chain c.args.trace.now (after_entry c.args.trace.now c.requires.met c.next_in-next.result c.next_in-next.ensures.value)

pub carve-descend-requires-in-loop-matches : goal.carve-descend-requires-in-loop-matches
carve-descend-requires-in-loop-matches t c =
    let n = c.next_met-k-in-loop-matches.ensures.answered in
    let along = after_entry c.args.trace.now c.requires.met c.next_in-next.result c.next_in-next.ensures.value in
    let few = entries_few c.args.trace.now.asked.fabric in
    let hand = c.loop-matches.invariant.at_part.in_hand in
    let later = part_later hand _ c.args.least (wide_of c.part-part.result) along
    c.next_met-k-in-loop-matches.result n (omega (arith, c.requires.met.is_entry)) in (
      omega (arith, c.decreases, c.requires.met.is_entry),
      ended_at hand c.args.least (wide_of c.part-part.result) along c.next_met-k-in-loop-matches.result n c.requires.port_bound,
    )

pub carve-loop-matches-smaller : goal.carve-loop-matches-smaller
carve-loop-matches-smaller t c =
    let at = c.loop-matches.invariant in
    fewer_parts at.at_part (left_exactly at ∙ sym c.is_done.ensures ∙ c.loop-matches-test.true) c.next-cut.ensures.set_value

pub carve-loop-matches-preserved : goal.carve-loop-matches-preserved
carve-loop-matches-preserved t c =
    let n = c.next_met-k-in-loop-matches.ensures.answered in
    let along = after_entry c.args.trace.now c.requires.met c.next_in-next.result c.next_in-next.ensures.value in
    let at = c.loop-matches.invariant in
    record {
      at_part = part_through at.at_part (left_exactly at ∙ sym c.is_done.ensures ∙ c.loop-matches-test.true) c.part-part.ensures
          (part_traced at.at_part.in_hand _ c.args.least (wide_of c.part-part.result) along c.next_met-k-in-loop-matches.result n _ _
          c.in_ok-descend.ensures.traced)
          refl c.in_ok-descend.ensures.kept c.descend-in-loop-matches.auto.area c.next-cut.ensures.set_value;
      is_cut = c.next-cut.ensures.cut_2;
      fours = cut_fours c.next-cut.result c.next-cut.type_inv;
    }

pub carve-returns-in_err-descend-clause-traced : goal.carve-returns-in_err-descend-clause-traced
carve-returns-in_err-descend-clause-traced t c =
    let n = c.next_met-k-in-loop-matches.ensures.answered in
    let along = after_entry c.args.trace.now c.requires.met c.next_in-next.result c.next_in-next.ensures.value in
    let at = c.loop-matches.invariant in
    let said : c.from_residual.result ≡ Err c.in_err-descend.field-0.0 = search rules in
    rw said (cut_traced _ _ _ _ _ (ap wide_of c.first-cut.ensures.set_value)
    (part_stops at.at_part (left_exactly at ∙ sym c.is_done.ensures ∙ c.loop-matches-test.true) c.part-part.ensures
    (part_traced at.at_part.in_hand _ c.args.least (wide_of c.part-part.result) along c.next_met-k-in-loop-matches.result n _ _
    c.in_err-descend.ensures.traced) refl))

pub carve-returns-clause-traced : goal.carve-returns-clause-traced
carve-returns-clause-traced t c =
    let at = c.loop-matches.invariant in
    cut_traced _ _ _ _ _ (ap wide_of c.first-cut.ensures.set_value)
    (parts_done at.at_part (left_exactly at ∙ sym c.is_done.ensures ∙ c.loop-matches-test.false) _)

-- ---- `descend`

pub descend-carve-requires : goal.descend-carve-requires
descend-carve-requires t c =
    let at : ending_number_of c.args.b ≡ c.in-Met.b = ap ending_number_of c.in-Met.is in
    let met = c.requires.ended.entry_met _ (ap ending_said c.in-Met.is) in (
      omega (arith, c.decreases, met.is_entry, entries_few c.args.trace.now.asked.fabric),
      (c.requires.tracing, (c.requires.port_bound, met)),
    )

pub descend-stop-requires : goal.descend-stop-requires
descend-stop-requires t c =
    let trace = c.args.trace.now in (
      omega (arith, c.decreases),
      (
        c.requires.tracing,
        place_found trace.asked.fabric trace.indexed c.requires.port_bound c.place_at-place.result
            c.place_at-place.ensures.value c.place_at-place.ensures.formed,
      ),
    )

pub descend-returns-in-Past-clause-traced : goal.descend-returns-in-Past-clause-traced
descend-returns-in-Past-clause-traced t c =
    let trace = c.args.trace.now in
    descended_past trace.asked.fabric trace.indexed c.requires.port_bound c.place_at-place.result c.place_at-place.ensures.value
    c.args.least _ _ _ (ap ending_said c.in-Past.is) c.stop.ensures.traced

pub descend-returns-in-Used-clause-traced : goal.descend-returns-in-Used-clause-traced
descend-returns-in-Used-clause-traced t c =
    let is_used = ap ending_said c.in-Used.is in
    descended_used _ _ _ _ _ is_used (c.requires.ended.budget_used is_used)

-- ---- `stop`

-- the rest of the path, whole
way_whole : {path : List ℕ} {d : ℕ} → Path path d → take (16 - d) (drop d path) ≡ drop d path
way_whole {path} {d} p = take_all (16 - d) (drop d path) (omega (arith, hops_are p))

pub stop-returns-in-Nowhere-clause-traced : goal.stop-returns-in-Nowhere-clause-traced
stop-returns-in-Nowhere-clause-traced t c = rw c.in-Nowhere.is (no_link _ _ _ _ _ _ _ _)

pub stop-returns-in-Edge-clause-traced : goal.stop-returns-in-Edge-clause-traced
stop-returns-in-Edge-clause-traced t c =
    let whole = way_whole c.requires.tracing.on_path in
    rw c.in-Edge.is (at_edge c.in-Edge.edge _ _ _ _ whole c.found.ensures _)

pub stop-returns-then-d-trace-clause-traced : goal.stop-returns-then-d-trace-clause-traced
stop-returns-then-d-trace-clause-traced t c =
    let place = rw c.in-Port.is at c.requires.place in
    rw c.in-Port.is (no_hop _ _ _ _ _ c.args.d c.in-Port.port c.if-d-trace.true place.0 place.1 _ _)

pub stop-loop-next-init : goal.stop-loop-next-init
stop-loop-next-init t c =
    let place = rw c.in-Port.is at c.requires.place in
    first_entry (in_hand c.args.trace.now c.requires.tracing) _ _ _ place.0 place.1 c.if-d-trace.false c.first_out-next.ensures.value
    c.first_out-next.ensures.entry

pub stop-returns-in_err-unit-clause-traced : goal.stop-returns-in_err-unit-clause-traced
stop-returns-in_err-unit-clause-traced t c =
    let x = c.loop-next.invariant in
    let said : c.from_residual.result ≡ Err c.in_err-unit.field-0.0 = search rules in
    rw (said, c.in-Port.is) (entry_refused (come_to x c.in-Some.is) (below_none x c.in-Some.is) c.in_err-unit.ensures)

-- an entry that neither copies nor swaps addresses

pub stop-take_back-requires : goal.stop-take_back-requires
stop-take_back-requires t c =
    let at = c.loop-next.invariant.at in (
      omega (arith, c.decreases, at.hop_left),
      ((after_unit at.in_hand c.in_ok-unit.ensures).tracing, (at.hop_left, c.entry_at-entry.ensures.entry)),
    )

pub stop-loop-next-smaller-in-Continue-branch-2 : goal.stop-loop-next-smaller-in-Continue-branch-2
stop-loop-next-smaller-in-Continue-branch-2 t c =
    fewer_left c.loop-next.invariant c.in-Some.is c.next_out-next.result c.next_out-next.ensures.value

pub stop-loop-next-preserved-in-Continue-branch-2 : goal.stop-loop-next-preserved-in-Continue-branch-2
stop-loop-next-preserved-in-Continue-branch-2 t c =
    let x = c.loop-next.invariant in
    let entry = c.entry_at-entry in
    let back = back_kept (header_words entry.result.version) entry.result.bytes.now (wide_of c.args.t) c.in-Some-unwritten.s
    c.in-Some-unwritten.ensures (search rules) (Some c.in-Some-met.p) c.in-Some-met.ensures in
    entry_through (come_to x c.in-Some.is) (below_none x c.in-Some.is) c.in_ok-unit.ensures entry.ensures.entry
    entry.ensures.same_version back refl c.in_ok-take_back.ensures.traced refl c.next_out-next.ensures.value
    c.next_out-next.ensures.entry c.in_ok-take_back.ensures.kept c.take_back.auto.area

pub stop-returns-in_err-take_back-clause-traced : goal.stop-returns-in_err-take_back-clause-traced
stop-returns-in_err-take_back-clause-traced t c =
    let x = c.loop-next.invariant in
    let entry = c.entry_at-entry in
    let back = back_kept (header_words entry.result.version) entry.result.bytes.now (wide_of c.args.t) c.in-Some-unwritten.s
    c.in-Some-unwritten.ensures (search rules) (Some c.in-Some-met.p) c.in-Some-met.ensures in
    let said : c.from_residual-in_err-take_back.result ≡ Err c.in_err-take_back.field-0.0 = search rules in
    rw (said, c.in-Port.is) (entry_ended (come_to x c.in-Some.is) (below_none x c.in-Some.is) c.in_ok-unit.ensures entry.ensures.entry
    entry.ensures.same_version back refl c.in_err-take_back.ensures.traced refl)

pub stop-loop-next-smaller-in_default-met : goal.stop-loop-next-smaller-in_default-met
stop-loop-next-smaller-in_default-met t c =
    fewer_left c.loop-next.invariant c.in-Some.is c.next_out-next.result c.next_out-next.ensures.value

pub stop-loop-next-preserved-in_default-met : goal.stop-loop-next-preserved-in_default-met
stop-loop-next-preserved-in_default-met t c =
    let x = c.loop-next.invariant in
    let entry = c.entry_at-entry in
    let back = back_kept (header_words entry.result.version) entry.result.bytes.now (wide_of c.args.t) c.in-Some-unwritten.s
    c.in-Some-unwritten.ensures (search rules) None c.in_default-met.ensures in
    entry_empty (come_to x c.in-Some.is) (below_none x c.in-Some.is) c.in_ok-unit.ensures entry.ensures.entry
    entry.ensures.same_version back refl c.next_out-next.ensures.value c.next_out-next.ensures.entry
    (kept_same _ x.at.in_hand.tracing.on_path.long)

-- an entry that copies or swaps them

pub stop-take_back-requires-in-Some-met_before : goal.stop-take_back-requires-in-Some-met_before
stop-take_back-requires-in-Some-met_before t c =
    let at = c.loop-next.invariant.at in (
      omega (arith, c.decreases, at.hop_left),
      ((after_unit at.in_hand c.in_ok-unit.ensures).tracing, (at.hop_left, c.entry_at-entry.ensures.entry)),
    )

pub stop-loop-next-smaller-in-Continue-branch-3 : goal.stop-loop-next-smaller-in-Continue-branch-3
stop-loop-next-smaller-in-Continue-branch-3 t c =
    fewer_left c.loop-next.invariant c.in-Some.is c.next_out-next.result c.next_out-next.ensures.value

pub stop-loop-next-preserved-in-Continue-branch-3 : goal.stop-loop-next-preserved-in-Continue-branch-3
stop-loop-next-preserved-in-Continue-branch-3 t c =
    let x = c.loop-next.invariant in
    let entry = c.entry_at-entry in
    let back = back_moved (header_words entry.result.version) entry.result.bytes.now (wide_of c.args.t) c.in-Some-unwritten.s
    c.in-Some-unwritten.ensures (Some c.in-Some-met_before.p) c.in-Some-met_before.ensures in
    entry_through (come_to x c.in-Some.is) (below_none x c.in-Some.is) c.in_ok-unit.ensures entry.ensures.entry
    entry.ensures.same_version back refl c.in_ok-take_back-2.ensures.traced refl c.next_out-next.ensures.value
    c.next_out-next.ensures.entry c.in_ok-take_back-2.ensures.kept c.take_back-in-Some-met_before.auto.area

pub stop-returns-in_err-take_back-2-clause-traced : goal.stop-returns-in_err-take_back-2-clause-traced
stop-returns-in_err-take_back-2-clause-traced t c =
    let x = c.loop-next.invariant in
    let entry = c.entry_at-entry in
    let back = back_moved (header_words entry.result.version) entry.result.bytes.now (wide_of c.args.t) c.in-Some-unwritten.s
    c.in-Some-unwritten.ensures (Some c.in-Some-met_before.p) c.in-Some-met_before.ensures in
    let said : c.from_residual-in_err-take_back-2.result ≡ Err c.in_err-take_back-2.field-0.0 = search rules in
    rw (said, c.in-Port.is) (entry_ended (come_to x c.in-Some.is) (below_none x c.in-Some.is) c.in_ok-unit.ensures entry.ensures.entry
    entry.ensures.same_version back refl c.in_err-take_back-2.ensures.traced refl)

pub stop-loop-next-smaller-in_default-met_before : goal.stop-loop-next-smaller-in_default-met_before
stop-loop-next-smaller-in_default-met_before t c =
    fewer_left c.loop-next.invariant c.in-Some.is c.next_out-next.result c.next_out-next.ensures.value

pub stop-loop-next-preserved-in_default-met_before : goal.stop-loop-next-preserved-in_default-met_before
stop-loop-next-preserved-in_default-met_before t c =
    let x = c.loop-next.invariant in
    let entry = c.entry_at-entry in
    let back = back_moved (header_words entry.result.version) entry.result.bytes.now (wide_of c.args.t) c.in-Some-unwritten.s
    c.in-Some-unwritten.ensures None c.in_default-met_before.ensures in
    entry_empty (come_to x c.in-Some.is) (below_none x c.in-Some.is) c.in_ok-unit.ensures entry.ensures.entry
    entry.ensures.same_version back refl c.next_out-next.ensures.value c.next_out-next.ensures.entry
    (kept_same _ x.at.in_hand.tracing.on_path.long)

-- an entry whose rewrite makes nothing into headers of the set, and the end of the chain

pub stop-loop-next-smaller : goal.stop-loop-next-smaller
stop-loop-next-smaller t c =
    fewer_left c.loop-next.invariant c.in-Some.is c.next_out-next.result c.next_out-next.ensures.value

pub stop-loop-next-preserved : goal.stop-loop-next-preserved
stop-loop-next-preserved t c =
    let x = c.loop-next.invariant in
    let entry = c.entry_at-entry in
    let back = back_empty (header_words entry.result.version) entry.result.bytes.now (wide_of c.args.t)
    c.in_default-unwritten.ensures in
    entry_empty (come_to x c.in-Some.is) (below_none x c.in-Some.is) c.in_ok-unit.ensures entry.ensures.entry
    entry.ensures.same_version back refl c.next_out-next.ensures.value c.next_out-next.ensures.entry
    (kept_same _ x.at.in_hand.tracing.on_path.long)

pub stop-returns-clause-traced : goal.stop-returns-clause-traced
stop-returns-clause-traced t c = rw c.in-Port.is (entries_end (at_end c.loop-next.invariant c.in_default.is) (omega arith) _)

-- ---- `take_back`

pub take_back-push-requires : goal.take_back-push-requires
take_back-push-requires t c = (
  omega (arith, c.requires.tracing.on_path.within, c.requires.hop_left),
  omega (arith, c.requires.is_entry.within, entries_few c.args.trace.now.asked.fabric),
)

pub take_back-next_met-b-requires-clause-of_chain : goal.take_back-next_met-b-requires-clause-of_chain
take_back-next_met-b-requires-clause-of_chain t c =
    let hand = in_hand c.args.trace.now c.requires.tracing in
    of_chain c.args.trace.now
    (head_of hand c.requires.hop_left c.requires.is_entry (omega (arith, c.in_port-port.ensures)) c.first_in-first.ensures.value)

pub take_back-descend-requires : goal.take_back-descend-requires
take_back-descend-requires t c =
    let n = c.next_met-b.ensures.answered in
    let hand = in_hand c.args.trace.now c.requires.tracing in
    let i = c.requires.is_entry in
    let hop = c.requires.hop_left in
    let along = head_of hand hop i (omega (arith, c.in_port-port.ensures)) c.first_in-first.ensures.value in (
      omega (arith, c.decreases, hop),
      ended_at (with_entry hand hop i c.push.ensures) c.least_above-least.result (wide_of c.args.p) along c.next_met-b.result n
          (omega (arith, c.in_port-port.ensures)),
    )

pub take_back-returns-clause-traced : goal.take_back-returns-clause-traced
take_back-returns-clause-traced t c =
    let n = c.next_met-b.ensures.answered in
    let hand = in_hand c.args.trace.now c.requires.tracing in
    let i = c.requires.is_entry in
    let hop = c.requires.hop_left in
    let along = head_of hand hop i (omega (arith, c.in_port-port.ensures)) c.first_in-first.ensures.value in
    took_back hand hop i c.push.ensures c.in_port-port.ensures _
    (λ p. c.least_above-least.ensures p ∙ ap (outranks p) c.priority.ensures) _ _
    (part_traced (with_entry hand hop i c.push.ensures) _ c.least_above-least.result (wide_of c.args.p) along c.next_met-b.result n _ _
    c.descend.ensures.traced)

pub take_back-returns-clause-kept : goal.take_back-returns-clause-kept
take_back-returns-clause-kept t c =
    kept_under (in_hand c.args.trace.now c.requires.tracing) c.requires.hop_left c.requires.is_entry c.push.ensures c.descend.ensures.kept
