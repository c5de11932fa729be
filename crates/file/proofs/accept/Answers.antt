-- Questions 1 and 2, then the records.
use mathlib.Core.Bool.{not}
use mathlib.Core.Path.{ap}
use Rattle.layout.proofs.Widths.{version_width}
use Rattle.file.proofs.Whole as whole
use Rattle.file.proofs.accept.Goals as goal

pub returns-then-not-sized-clause-value : goal.returns-then-not-sized-clause-value
returns-then-not-sized-clause-value c = whole.question_1 _ _ (version_width _) _ c.sized.ensures (ap not c.if-not-sized.true)

pub started-requires : goal.started-requires
started-requires c = whole.is_bounded _ _ (version_width _) _ c.sized.ensures (ap not c.if-not-sized.false)

pub returns-then-not-started-clause-value : goal.returns-then-not-started-clause-value
returns-then-not-started-clause-value c =
    whole.question_2 _ _ (version_width _) _ c.sized.ensures (ap not c.if-not-sized.false)
    _ c.started.ensures (ap not c.if-not-started.true)

pub records-requires-clause-version_is : goal.records-requires-clause-version_is
records-requires-clause-version_is c =
    whole.of_version _ _ (version_width _) _ c.sized.ensures (ap not c.if-not-sized.false)
    _ c.started.ensures (ap not c.if-not-started.false)

pub records-requires-clause-bounded : goal.records-requires-clause-bounded
records-requires-clause-bounded c = whole.is_bounded _ _ (version_width _) _ c.sized.ensures (ap not c.if-not-sized.false)

pub returns-clause-value : goal.returns-clause-value
returns-clause-value c =
    whole.both_yes _ _ (version_width _) _ c.sized.ensures (ap not c.if-not-sized.false)
    _ c.started.ensures (ap not c.if-not-started.false) _ c.records.ensures.value
