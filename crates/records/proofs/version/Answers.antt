-- `version` meets its contract: two halves where the start says version 2.
use borrow.Author.Tests.{eq-eqb, ne_eqb}
use Rattle.layout.specs.Records.{width_in}
use Rattle.records.proofs.version.Goals as goal

pub returns-then-version_of-eq2 : goal.returns-then-version_of-eq2
unfolding width_in
returns-then-version_of-eq2 c = rw (← c.word.ensures, ← c.version_of.ensures) (simp (eq-eqb _ _ c.if-version_of-eq2.true))

pub returns-else-version_of-eq2 : goal.returns-else-version_of-eq2
unfolding width_in
returns-else-version_of-eq2 c = rw (← c.word.ensures, ← c.version_of.ensures) (simp (ne_eqb _ _ c.if-version_of-eq2.false))
