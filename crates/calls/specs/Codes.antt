-- What the code of a call answers as the number that the call returns, and the query as the code has it.
use Rattle.std.specs.Prelude.{ℕ, ◌+◌, ◌*◌, Result, Ok, Err}
use Rattle.layout.specs.Versions.{header_words}
use Rattle.layout.specs.declared.Version.{Version}
use Rattle.wide.specs.Forms.{wide_of, narrowed}
use Rattle.wide.specs.declared.Query as Wide
use Rattle.questions.specs.Refusals.{number}
use Rattle.questions.specs.declared.Refusal.{Refusal}
use Rattle.questions.specs.declared.No.{No}
use Rattle.calls.specs.Questions.{Query, query}

-- the words written × 256, or the number of the first no, on an accepted file
abbrev pub code_of : Result ℕ Refusal → ℕ
code_of (Ok words) = words * 256
code_of (Err r) = number r

-- the same on any file: "place × 256 + number"
abbrev pub code_at : Result ℕ No → ℕ
code_at (Ok words) = words * 256
code_at (Err first) = first.place * 256 + number first.refusal

-- the query of a file of this version, whose set has as many words as its headers
abbrev pub query_of : Version → Wide.Query → Query
query_of version q = query q.port q.limit q.budget (narrowed (header_words version) (wide_of q.asked))

-- the query as the code has it: a set of eight words
abbrev pub wide_query : Wide.Query → Query
wide_query q = query q.port q.limit q.budget (wide_of q.asked)
