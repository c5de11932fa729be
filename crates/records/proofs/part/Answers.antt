-- From 4k on, 4n bytes.
use Rattle.layout.specs.Words.{bytes_from}
use native.Mathlib.Nat.{add-sub_cancel_left}
use Rattle.records.proofs.part.Goals as goal

pub returns : goal.returns
unfolding bytes_from
returns c = rw add-sub_cancel_left
