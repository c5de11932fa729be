-- The program of document 01: "The program reads standard input: 12 little-endian words .., then the fabric." Since 2.6 bit 31 of the first
-- word marks version 2, whose query has 20 words.
use Rattle.std.specs.Prelude.{List, ℕ, ◌+◌, ◌*◌, eqb, leb, length, drop}
use Rattle.std.proofs.Math.Option.{Option, some, none}
use Rattle.headers.specs.Sets.{Set}
use Rattle.answer.specs.Answer.{Outcome, refused}
use Rattle.layout.specs.Words.{word_at, bits}
use Rattle.layout.specs.Records.{half, set_words, set_from}
use Rattle.questions.specs.Questions.{pick}
use Rattle.calls.specs.Questions.{Query, query}
use Rattle.fabric.specs.Calls.{call_of}
use Rattle.fabric.specs.declared.Call.{Call}
use Rattle.fabric.specs.declared.Call.TheVariants as Calls

-- the words of a header, by the mark in the first word
abbrev pub width_marked : ℕ → ℕ
width_marked first = pick (eqb (bits 31 31 first) 1) (2 * half) half

-- "(1 verdict, 2 list, 3 run; target or start; hop limit; budget, unused by a run; care; value)", care and value of w words each
abbrev pub asked_in : ℕ → List ℕ → Set
asked_in w input = set_from w input 4

abbrev pub query_in : ℕ → List ℕ → Query
query_in w input = query (word_at input 1) (word_at input 2) (word_at input 3) (asked_in w input)

-- the words of a query: four numbers, a care and a value
abbrev pub query_words : ℕ → ℕ
query_words w = 4 + set_words w

-- the call with a number, if there is one
unfoldable pub call_named : ℕ → Option Call
call_named n = pick (eqb n 1) (some Calls.Verdict) (pick (eqb n 2) (some Calls.List) (pick (eqb n 3) (some Calls.Run) none))

abbrev pub made_or : Option Call → ℕ → List ℕ → List ℕ → Outcome
made_or none w input area = refused 14 0 area
made_or (some call) w input area = call_of call w (drop (4 * query_words w) input) (query_in w input) area

-- 14. "If the first 48 bytes aren't all there or the call is unknown: 14, place 0, asked before all."; 80 bytes in version 2
-- What the call returns and leaves in the area that the program lends.
unfoldable pub program_call : List ℕ → List ℕ → Outcome
program_call input area =
    let w = width_marked (word_at input 0) in
    pick (leb (4 * query_words w) (length input)) (made_or (call_named (bits 30 0 (word_at input 0))) w input area) (refused 14 0 area)
