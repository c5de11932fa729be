-- A call made on the words of the input is the program's call, in either version, and so are the refusals of question 14. Assumes nothing.
use mathlib.Core.Bool.{Bool, true, false}
use mathlib.Core.List.{List}
use mathlib.Core.Option.{Option, some, none}
use Rattle.std.specs.Prelude.{◌≢◌}
use mathlib.Core.Path.{◌≡◌, refl, sym, ap, ap₂, ◌∙◌}
use Prim.Native.Nat.{ℕ, ◌-◌, ◌*◌, ◌%◌, ◌^◌, ◌≤◌, ◌<◌}
use native.Mathlib.Omega.{arith}
use borrow.Author.Tests.{le-leb, lt-leb, ne_eqb}
use lib.Dec.{eqb, leb}
use lib.ListN.{length, take, drop, length-drop}
use lib.Seq.{take_all}
use Rattle.headers.specs.Sets.{Set}
use Rattle.answer.specs.Answer.{Outcome, refused}
use Rattle.layout.specs.Words.{word_at, bits}
use Rattle.questions.specs.Questions.{pick}
use Rattle.calls.specs.Questions.{Query, query}
use Rattle.fabric.specs.Calls.{call_of, call_number}
use Rattle.fabric.specs.declared.Call.{Call}
use Rattle.fabric.specs.declared.Call.TheVariants as Calls
use Rattle.input.specs.Program.{width_marked, asked_in, query_words, call_named, made_or, program_call}

-- ---- the first word: the call's number is below the mark of version 2

pub number_below : (x : ℕ) → x % 2 ^ 31 ≡ bits 30 0 x
number_below x = omega arith

-- ---- the program's call

module _ (input area : List ℕ) where
  abbrev first : ℕ
  first = word_at input 0

  -- with headers of w words, for this call
  abbrev called : ℕ → Option Call → Outcome
  called w o = pick (leb (4 * query_words w) (length input)) (made_or o w input area) (refused 14 0 area)

  is_called : {w : ℕ} {o : Option Call} → width_marked first ≡ w → call_named (bits 30 0 first) ≡ o
      → called w o ≡ program_call input area
  unfolding program_call
  is_called e n = sym (ap₂ called e n)

  short : (w : ℕ) (o : Option Call) → length input < 4 * query_words w → refused 14 0 area ≡ called w o
  short w o l = ap (λ (b : Bool). pick b (made_or o w input area) (refused 14 0 area)) (sym (lt-leb (4 * query_words w) (length input) l))

  -- a query of either version has 48 bytes
  pub too_short : length input < 48 → refused 14 0 area ≡ program_call input area
  too_short l = short (width_marked first) (call_named (bits 30 0 first)) (at_least (eqb (bits 31 31 first) 1)) ∙ is_called refl refl
    where
      at_least : (b : Bool) → length input < 4 * query_words (pick b 8 4)
      at_least true = omega arith
      at_least false = omega arith

  -- one of the version that is marked has its own
  pub too_short_marked : {w : ℕ} → width_marked first ≡ w → length input < 4 * query_words w
      → refused 14 0 area ≡ program_call input area
  too_short_marked {w = w} e l = short w (call_named (bits 30 0 first)) l ∙ is_called e refl

  pub unknown : call_named (bits 30 0 first) ≡ none → refused 14 0 area ≡ program_call input area
  unknown n = either (leb (4 * query_words (width_marked first)) (length input)) ∙ is_called refl n
    where
      either : (b : Bool) → refused 14 0 area ≡ pick b (refused 14 0 area) (refused 14 0 area)
      either true = refl
      either false = refl

  pub call_made : {w n : ℕ} {call : Call} {port limit budget : ℕ} {set : Set} {out : Outcome}
      → width_marked first ≡ w → n ≡ 4 * query_words w → n ≤ length input → call_named (bits 30 0 first) ≡ some call
      → port ≡ word_at input 1 → limit ≡ word_at input 2 → budget ≡ word_at input 3 → set ≡ asked_in w input
      → out ≡ call_of call w (take (length input - n) (drop n input)) (query port limit budget set) area
      → out ≡ program_call input area
  call_made {w = w} {n = n} {call = call} width bytes long is p l b s made =
      made
      ∙ ap₂ (λ (rest : List ℕ) (q : Query). call_of call w rest q area)
      (take_all (length input - n) (drop n input) (omega (arith, length-drop n input)) ∙ ap (λ (m : ℕ). drop m input) bytes)
      (λ i. query (p i) (l i) (b i) (s i))
      ∙ ap (λ (y : Bool). pick y (made_or (some call) w input area) (refused 14 0 area))
      (sym (le-leb (4 * query_words w) (length input) (omega (arith, bytes))))
      ∙ is_called width is

-- ---- the calls' numbers

pub named : (n : ℕ) (call : Call) → call_number call ≡ n → call_named n ≡ some call
unfolding call_named
named n Calls.Verdict e = sym (ap call_named e)
named n Calls.List e = sym (ap call_named e)
named n Calls.Run e = sym (ap call_named e)

pub not_named : (n : ℕ) → ((call : Call) → call_number call ≢ n) → call_named n ≡ none
unfolding call_named
not_named n other =
    rw (
      ne_eqb n 1 (λ e. other Calls.Verdict (sym e)),
      ne_eqb n 2 (λ e. other Calls.List (sym e)),
      ne_eqb n 3 (λ e. other Calls.Run (sym e)),
    )
