-- A query, question 12 of an answer of fixed length, and what a call is by its questions after 1 to 7.
use Rattle.std.specs.Prelude.{Bool, List, ℕ, ◌*◌, leb, eqb, length}
use Rattle.headers.specs.Sets.{Set}
use Rattle.answer.specs.Answer.{answer_words, Outcome, refused, answered}
use Rattle.questions.specs.Questions.{pick, Question, first_no}
use Rattle.questions.specs.Read.{Read}
use Rattle.questions.specs.Read as Reads
use Rattle.model.specs.Model.{fabric_in}
use Rattle.forwarding.specs.Fabric.{Fabric}

-- "words 1 to 11 of the program's query": "target or start; hop limit; budget, unused by a run; care; value". The set has as many words
-- as the version's headers
pub record Query : Type 0 where
  pub port : ℕ
  pub limit : ℕ
  pub budget : ℕ
  pub asked : Set

-- the query as the code has it
abbrev pub query : ℕ → ℕ → ℕ → Set → Query
query port limit budget asked = record { port = port; limit = limit; budget = budget; asked = asked }

-- 12. "Are 96 bytes lent (verdict, run)?" "112 bytes for 96" in version 2
abbrev pub room_for_answer : Fabric → List ℕ → Bool
room_for_answer F area = leb (4 * answer_words F.words) (length area)

-- "Then, place 0": the number of the first no, if any, else what the call does
abbrev pub or_refused : ℕ → List ℕ → Outcome → Outcome
or_refused number area done = pick (eqb number 0) done (refused number 0 area)

-- D1: a call by its questions after 1 to 7, and the words that it answers where they all get a yes
abbrev pub answer_by : (Fabric → Query → List ℕ → List Question) → (Fabric → Query → List ℕ)
    → List ℕ → Query → Read → List ℕ → Outcome
answer_by questions words f q (Reads.No number place) area = refused number place area
answer_by questions words f q (Reads.Fabric s) area =
    or_refused (first_no (questions (fabric_in f) q area)) area (answered (words (fabric_in f) q) area)
