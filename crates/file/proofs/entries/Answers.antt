use mathlib.Core.Path.{refl, sym}
use native.Mathlib.Omega.{arith}
use borrow.Author.Tests.{eqb-true}
use Rattle.questions.proofs.Turns.{number_above}
use Rattle.file.proofs.Loops as loops
use Rattle.file.proofs.entries.Goals as goal

pub loop-at-init : goal.loop-at-init
loop-at-init c = loops.entries_start _ _ _ _ _ c.requires.version_is c.place-at.ensures c.requires.l_bound

pub returns-in-Err : goal.returns-in-Err
returns-in-Err c = loops.refused _ _ _ _ _ _ _ _ c.loop-at.invariant.so_far _ (number_above _) c.in-Err.ensures

pub overflow_add-counts : goal.overflow_add-counts
overflow_add-counts c =
    let s = c.loop-at.invariant in
    let here = loops.here _ _ _ _ _ _ _ _ s.so_far _ _ _ c.loop-at-test.true c.word-w.ensures refl
    (eqb-true _ _ (sym c.if-not-is_kind.ensures)) in
    let room = loops.entry_room _ _ _ _ _ _ s _ _ _ here c.in_default.ensures refl c.port_of-port.ensures in
    omega arith

pub loop-at-preserved : goal.loop-at-preserved
loop-at-preserved c =
    let s = c.loop-at.invariant in
    let here = loops.here _ _ _ _ _ _ _ _ s.so_far _ _ _ c.loop-at-test.true c.word-w.ensures refl
    (eqb-true _ _ (sym c.if-not-is_kind.ensures)) in
    loops.entries_next _ _ _ _ _ _ s _ _ _ here c.in_default.ensures refl c.port_of-port.ensures
    _ _ c.requires.version_is c.entry_words-at.ensures
