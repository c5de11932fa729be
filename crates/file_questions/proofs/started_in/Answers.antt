-- The code asks what `started` says, of the word that it read.
use mathlib.Core.Path.{refl}
use Rattle.questions.proofs.Asked as asked
use Rattle.file_questions.proofs.started_in.Goals as goal

pub returns : goal.returns
returns c =
    rw c.is_kind.ensures
    (asked.started_is _ _ _ _ _ _ _ c.word-w.ensures refl c.version_of.ensures c.number.ensures c.count_of-count.ensures)
