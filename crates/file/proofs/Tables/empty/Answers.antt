-- A table of zeros is empty.
use Rattle.file.proofs.Numbering as numbering
use Rattle.file.proofs.Tables.empty.Goals as goal

pub returns-clause-edges : goal.returns-clause-edges
returns-clause-edges c = numbering.empty

pub returns-clause-starts : goal.returns-clause-starts
returns-clause-starts c = numbering.empty

pub returns-clause-ends : goal.returns-clause-ends
returns-clause-ends c = numbering.empty
