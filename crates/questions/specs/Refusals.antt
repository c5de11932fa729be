-- The questions by their numbers, and what the code answers to them as numbers and places.
use Rattle.std.specs.Prelude.{ℕ, Result, Ok, Err}
use Rattle.layout.specs.Versions.{shape_counted}
use Rattle.layout.specs.declared.Counts.{Counts}
use Rattle.questions.specs.Read as Reads
use Rattle.questions.specs.Read.{Read}
use Rattle.questions.specs.declared.Refusal.{Refusal}
use Rattle.questions.specs.declared.Refusal.TheVariants as Refusals
use Rattle.questions.specs.declared.No.{No}

-- each question's number: document 01's 1 to 14
abbrev pub number : Refusal → ℕ
number Refusals.Size = 1
number Refusals.Start = 2
number Refusals.Order = 3
number Refusals.Ports = 4
number Refusals.Tidiness = 5
number Refusals.Ends = 6
number Refusals.Limits = 7
number Refusals.Target = 8
number Refusals.HopLimit = 9
number Refusals.AskedSet = 10
number Refusals.StartPort = 11
number Refusals.Room = 12
number Refusals.Budget = 13
number Refusals.Input = 14

-- the number of the first no, or 0
abbrev pub number_in : {T : Type 0} → Result T Refusal → ℕ
number_in (Ok x) = 0
number_in (Err r) = number r

-- the shape of an accepted file, or the first no
abbrev pub read_of : Result Counts No → Read
read_of (Ok c) = Reads.Fabric (shape_counted c)
read_of (Err n) = Reads.No (number n.refusal) n.place
