-- Each part of the sum is at most the whole.
use native.Mathlib.Omega.{arith}
use Rattle.records.proofs.place.Goals as goal

pub overflow_mul-result : goal.overflow_mul-result
overflow_mul-result c =
    let r = c.edge_words.ensures in
    record { fits = rw r (omega arith) }

pub overflow_add-result : goal.overflow_add-result
overflow_add-result c =
    let r = c.edge_words.ensures in
    record { fits = rw r (omega arith) }

pub overflow_add-result-2 : goal.overflow_add-result-2
overflow_add-result-2 c =
    let r = c.edge_words.ensures in
    record { fits = rw r (omega arith) }

pub overflow_mul-result-2 : goal.overflow_mul-result-2
overflow_mul-result-2 c =
    let r = c.entry_words.ensures in
    record { fits = rw r (omega arith) }

pub overflow_add-result-3 : goal.overflow_add-result-3
overflow_add-result-3 c =
    let r = c.edge_words.ensures in
    let s = c.entry_words.ensures in
    record { fits = rw (r, s) (omega arith) }

pub returns : goal.returns
returns c =
    let r = c.edge_words.ensures in
    let s = c.entry_words.ensures in
    rw (r, s)
