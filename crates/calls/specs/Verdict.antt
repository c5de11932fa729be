-- The call verdict: document 01, "The verdict stops at the first find with a foreign packet .. It fills 24 words". Assumes nothing.
use Rattle.std.specs.Prelude.{List, [], ◌∷◌, ◌++◌, ℕ, ◌-◌, leb, replicate}
use Rattle.answer.specs.Answer.{answer_words, Outcome}
use Rattle.questions.specs.Questions.{accepted, Question, ◌asks◌}
use Rattle.questions.specs.Read.{Read}
use Rattle.forwarding.specs.Fabric as Forwarding
use Rattle.forwarding.specs.Trace.{Event, trace}
use Rattle.forwarding.specs.Verdict.{Verdict, isolated, reached, units_in, verdict_on}
use Rattle.events.specs.Play.{reached_words}
use Rattle.queries.specs.Queries.{trace_questions}
use Rattle.calls.specs.Questions.{Query, room_for_answer, answer_by}

-- "0 isolated or 1 reached; units made; .. Isolated has 0 from word 2 on.", of headers of n words
unfoldable pub verdict_words : ℕ → Verdict → List ℕ
verdict_words n (isolated units) = 0 ∷ units ∷ replicate (answer_words n - 2) 0
verdict_words n (reached units port path h) = reached_words units port path h

-- the events of the back-trace that a query asks for, were there no budget
abbrev pub trace_asked : Forwarding.Fabric → Query → List Event
trace_asked F q = trace F q.limit q.port q.asked

-- the verdict on them
abbrev pub verdict_asked : Forwarding.Fabric → Query → Verdict
verdict_asked F q = verdict_on F q.port q.limit q.asked

abbrev pub verdict_words_asked : Forwarding.Fabric → Query → List ℕ
verdict_words_asked F q = verdict_words F.words (verdict_asked F q)

-- the questions after 1 to 7, in turn
-- 13. "Did the back-trace end within the budget?"
abbrev pub verdict_questions : Forwarding.Fabric → Query → List ℕ → List Question
verdict_questions F q area =
    trace_questions F.words (F.is_edge q.port) q.limit q.asked
    ++ (12 asks room_for_answer F area ∷ 13 asks leb (units_in (verdict_asked F q)) q.budget ∷ [])

abbrev pub verdict_answer : List ℕ → Query → Read → List ℕ → Outcome
verdict_answer f q r area = answer_by verdict_questions verdict_words_asked f q r area

-- what the call verdict, for files whose headers have w words, returns and leaves in the area
unfoldable pub verdict_call : ℕ → List ℕ → Query → List ℕ → Outcome
verdict_call w f q area = verdict_answer f q (accepted w f) area
