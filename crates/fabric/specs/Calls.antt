-- The calls (A1), as one: each is its questions after 1 to 7 and its words where they all get a yes. A further call is a row of each table
-- here. Assumes nothing.
use Rattle.std.specs.Prelude.{List, ℕ, ◌≡◌, ◌≢◌, Result, MatchResult}
use Rattle.answer.specs.Answer.{Outcome}
use Rattle.questions.specs.Questions.{Question}
use Rattle.questions.specs.Read.{Read}
use Rattle.forwarding.specs.Fabric.{Fabric}
use Rattle.calls.specs.Questions.{Query, answer_by}
use Rattle.calls.specs.Verdict.{verdict_questions, verdict_words_asked, verdict_call}
use Rattle.calls.specs.List.{list_questions, words_asked, list_call}
use Rattle.calls.specs.Run.{run_questions, run_words_asked, run_call}
use Rattle.fabric.specs.declared.Call.{Call}
use Rattle.fabric.specs.declared.Call.TheVariants as Calls
use Rattle.fabric.specs.declared.UnknownCall.{UnknownCall}

-- O2: the questions after 1 to 7, in turn
abbrev pub questions_of : Call → Fabric → Query → List ℕ → List Question
questions_of Calls.Verdict = verdict_questions
questions_of Calls.List = list_questions
questions_of Calls.Run = run_questions

-- A9 to A14: the words of an answer
abbrev pub words_of : Call → Fabric → Query → List ℕ
words_of Calls.Verdict = verdict_words_asked
words_of Calls.List = words_asked
words_of Calls.Run = run_words_asked

-- what a call answers once the file was read
abbrev pub answer_of : Call → List ℕ → Query → Read → List ℕ → Outcome
answer_of c f q r area = answer_by (questions_of c) (words_of c) f q r area

-- what a call, for files whose headers have w words, returns and leaves in the area
abbrev pub call_of : Call → ℕ → List ℕ → Query → List ℕ → Outcome
call_of Calls.Verdict w f q area = verdict_call w f q area
call_of Calls.List w f q area = list_call w f q area
call_of Calls.Run w f q area = run_call w f q area

-- "1 verdict, 2 list, 3 run"
abbrev pub call_number : Call → ℕ
call_number Calls.Verdict = 1
call_number Calls.List = 2
call_number Calls.Run = 3

-- the call with this number, or that there is none
abbrev pub Names : ℕ → Result Call UnknownCall → Type 0
Names n r = MatchResult r (λ call. call_number call ≡ n) (λ e. (call : Call) → call_number call ≢ n)
