-- `chain_entry` meets its contract: the two pushes put entry e at the front of its two chains, and the store its priority in its cell.
-- An accepted file has at most 512 entries.
use native.Mathlib.Omega.{arith}
use Rattle.file.proofs.Accepted.{few_entries}
use Rattle.model.proofs.EntryRead.{entry_read}
use Rattle.index.proofs.Steps.{partly_more}
use Rattle.index.proofs.chain_entry.Goals as goal

pub out_port-out-requires : goal.out_port-out-requires
out_port-out-requires c =
    let e = entry_read _ _ c.args.fabric.now.accepted _ c.requires.e_lt_entries _ c.entry-x.ensures in
    omega (arith, e.bytes.long)

pub in_port-into-requires : goal.in_port-into-requires
in_port-into-requires c =
    let e = entry_read _ _ c.args.fabric.now.accepted _ c.requires.e_lt_entries _ c.entry-x.ensures in
    omega (arith, e.bytes.long)

pub priority-rank-requires : goal.priority-rank-requires
priority-rank-requires c =
    let e = entry_read _ _ c.args.fabric.now.accepted _ c.requires.e_lt_entries _ c.entry-x.ensures in
    omega (arith, e.bytes.long)

pub overflow_add-e : goal.overflow_add-e
overflow_add-e c = omega (arith, few_entries _ _ c.args.fabric.now.accepted)

pub push-requires : goal.push-requires
push-requires c =
    let few = few_entries _ _ c.args.fabric.now.accepted in
    record { first_lt_index_long = omega arith; next_lt_index_long = omega arith; e_bound = omega arith }

pub overflow_add-e-2 : goal.overflow_add-e-2
overflow_add-e-2 c = omega (arith, few_entries _ _ c.args.fabric.now.accepted)

pub push-requires-2 : goal.push-requires-2
push-requires-2 c =
    let few = few_entries _ _ c.args.fabric.now.accepted in
    record { first_lt_index_long = omega arith; next_lt_index_long = omega arith; e_bound = omega arith }

pub overflow_add-index : goal.overflow_add-index
overflow_add-index c = omega (arith, few_entries _ _ c.args.fabric.now.accepted)

pub offset_bounds-index-e : goal.offset_bounds-index-e
offset_bounds-index-e c = omega (arith, few_entries _ _ c.args.fabric.now.accepted)

pub bounds-index-e : goal.bounds-index-e
bounds-index-e c = omega (arith, few_entries _ _ c.args.fabric.now.accepted)

pub returns : goal.returns
returns c =
    partly_more _ _ c.args.fabric.now.accepted _ _ _
    (entry_read _ _ c.args.fabric.now.accepted _ c.requires.e_lt_entries _ c.entry-x.ensures)
    _ _ _ c.out_port-out.ensures c.in_port-into.ensures c.priority-rank.ensures
    _ _ c.push.ensures c.push-2.ensures c.requires.partly
