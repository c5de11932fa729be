-- The three runs one after the other, and the end, by the laws of proofs/Whole.antt.
use mathlib.Core.Path.{sym}
use Rattle.file.proofs.Whole as whole
use Rattle.file.proofs.records.Goals as goal

pub returns-then-not-ends_at-clause-value : goal.returns-then-not-ends_at-clause-value
returns-then-not-ends_at-clause-value c =
    whole.no_end _ _ _ _ c.in_ok-e.ensures.run_read c.in_ok-l.ensures.run_read c.in_ok-n.ensures _ _ c.requires.version_is
    c.place-at.ensures (sym c.if-not-ends_at.ensures)

pub returns-clause-value : goal.returns-clause-value
returns-clause-value c =
    whole.fabric _ _ _ _ c.in_ok-e.ensures.run_read c.in_ok-l.ensures.run_read c.in_ok-n.ensures _ _ c.requires.version_is
    c.place-at.ensures (sym c.if-not-ends_at.ensures)
