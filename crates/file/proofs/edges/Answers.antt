use mathlib.Core.Path.{refl, sym}
use borrow.Author.Tests.{eqb-true}
use Rattle.questions.proofs.Turns.{number_above}
use Rattle.file.proofs.Loops as loops
use Rattle.file.proofs.edges.Goals as goal

pub returns-in-Err-clause-run_read : goal.returns-in-Err-clause-run_read
returns-in-Err-clause-run_read c =
    loops.refused _ _ _ _ _ _ _ _ c.loop-at.invariant.so_far _ (number_above _) c.in-Err.ensures

pub loop-at-preserved : goal.loop-at-preserved
loop-at-preserved c =
    let s = c.loop-at.invariant in
    let here = loops.here _ _ _ _ _ _ _ _ s.so_far _ _ _ c.loop-at-test.true c.word-w.ensures refl
    (eqb-true _ _ (sym c.if-not-is_kind.ensures)) in
    loops.edges_next _ _ _ _ _ s _ _ here c.in_default.ensures refl _ _ _ c.port_of-last.ensures
    c.requires.version_is c.edge_words-at.ensures
