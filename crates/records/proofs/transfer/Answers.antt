-- `transfer` meets its contract: the transfer of the number that was read.
use Rattle.records.proofs.transfer.Goals as goal

pub returns : goal.returns
returns c = rw (c.transfer_at.ensures, c.transfer_of.ensures, c.word.ensures)
