-- The call list: V6 and V8, and the words of A13.
use Rattle.std.specs.Prelude.{List, [], ◌∷◌, ◌++◌, ℕ, ◌*◌, leb, length}
use Rattle.answer.specs.Answer.{Outcome}
use Rattle.questions.specs.Questions.{accepted, Question, ◌asks◌}
use Rattle.questions.specs.Read.{Read}
use Rattle.forwarding.specs.Fabric as Forwarding
use Rattle.forwarding.specs.Trace.{Event, list_trace, units, finds}
use Rattle.events.specs.Play.{Played, play, listed, list_words}
use Rattle.events.specs.Pass.{begin}
use Rattle.queries.specs.Queries.{list_target, trace_questions}
use Rattle.calls.specs.Questions.{Query, answer_by}

-- the events that a query asks for, were there no budget
abbrev pub list_asked : Forwarding.Fabric → Query → List Event
list_asked F q = list_trace F q.limit q.port q.asked

-- the words of all its finds
abbrev pub words_asked : Forwarding.Fabric → Query → List ℕ
words_asked F q = list_words (finds (list_asked F q))

-- the questions after 1 to 7, in turn
-- 12. "For the list, asked after 13: enough for all of it?"
abbrev pub list_questions : Forwarding.Fabric → Query → List ℕ → List Question
list_questions F q area =
    trace_questions F.words (list_target F q.port) q.limit q.asked
    ++ (13 asks leb (units (list_asked F q)) q.budget ∷ 12 asks leb (4 * length (words_asked F q)) (length area) ∷ [])

abbrev pub list_answer : List ℕ → Query → Read → List ℕ → Outcome
list_answer f q r area = answer_by list_questions words_asked f q r area

-- what the call list, for files whose headers have w words, returns and leaves in the area
unfoldable pub list_call : ℕ → List ℕ → Query → List ℕ → Outcome
list_call w f q area = list_answer f q (accepted w f) area

-- one pass of the list, which writes the first n words of care and value
abbrev pub list_pass_of : ℕ → Forwarding.Fabric → Query → List ℕ → Played
list_pass_of n F q area = play q.budget (listed n) (list_asked F q) (begin area)
