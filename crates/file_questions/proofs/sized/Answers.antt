-- The code asks what `sized` says.
use Rattle.questions.specs.Questions.{sized}
use Rattle.file_questions.proofs.sized.Goals as goal

pub returns : goal.returns
unfolding sized
returns c = rw c.most_bytes.ensures
