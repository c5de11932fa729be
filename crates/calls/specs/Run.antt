-- The call run: document 01, "A packet run takes an edge port, header and hop limit and fills 24 words." Assumes nothing.
use Rattle.std.specs.Prelude.{◌&&◌, List, [], ◌∷◌, ℕ}
use Rattle.answer.specs.Answer.{Outcome}
use Rattle.questions.specs.Questions.{clean, accepted, Question, ◌asks◌}
use Rattle.questions.specs.Read.{Read}
use Rattle.forwarding.specs.Fabric as Forwarding
use Rattle.forwarding.specs.Run.{Packet, run}
use Rattle.journey.specs.Journey.{packet_words}
use Rattle.queries.specs.Queries.{limit_right, cares_for_all}
use Rattle.calls.specs.Questions.{Query, room_for_answer, answer_by}

-- the packet that a query asks for: every bit of its header that may be is cared for, so the header is the asked value
abbrev pub packet_run : Forwarding.Fabric → Query → Packet
packet_run F q = run F q.limit q.port q.asked.value

abbrev pub run_words_asked : Forwarding.Fabric → Query → List ℕ
run_words_asked F q = packet_words F (packet_run F q)

-- the questions after 1 to 7, in turn
abbrev pub run_questions : Forwarding.Fabric → Query → List ℕ → List Question
run_questions F q area =
    9 asks limit_right q.limit
    ∷ 10 asks (clean F.words q.asked && cares_for_all F.words q.asked)
    ∷ 11 asks F.is_edge q.port
    ∷ 12 asks room_for_answer F area
    ∷ []

abbrev pub run_answer : List ℕ → Query → Read → List ℕ → Outcome
run_answer f q r area = answer_by run_questions run_words_asked f q r area

-- what the call run, for files whose headers have w words, returns and leaves in the area
unfoldable pub run_call : ℕ → List ℕ → Query → List ℕ → Outcome
run_call w f q area = run_answer f q (accepted w f) area
