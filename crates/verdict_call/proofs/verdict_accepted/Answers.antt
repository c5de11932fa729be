-- `verdict_accepted` meets its contract: the questions are asked in turn, and the pass's end is the verdict's.
use mathlib.Core.Bool.{true}
use mathlib.Core.List.{List}
use mathlib.Core.Path.{◌≡◌, refl, sym, ap, ap₂, ◌∙◌}
use Prim.Native.Nat.{ℕ, ◌*◌, ◌≤◌, ◌<◌}
use borrow.Author.Rules.{rules}
use lib.ListN.{length}
use native.Mathlib.Omega.{arith}
use Rattle.answer.specs.Answer.{answer_words, outcome, written_at}
use Rattle.layout.specs.Shape.{Shape}
use Rattle.layout.specs.Versions.{shape_counted}
use Rattle.wide.specs.Forms.{wide_words, wide_of, narrowed, Fits}
use Rattle.wide.specs.declared.WideSet.{WideSet}
use Rattle.wide.proofs.Halves.{Fours}
use Rattle.wide.proofs.Arrays.{query_fours}
use Rattle.questions.specs.Questions.{clean, first_no}
use Rattle.questions.specs.Read as Reads
use Rattle.questions.specs.Refusals.{number}
use Rattle.file.specs.Accepted.{Accepted}
use Rattle.file.proofs.Accepted.{words_said}
use Rattle.forwarding.specs.Fabric.{Fabric}
use Rattle.forwarding.specs.Verdict.{isolated}
use Rattle.model.specs.Model.{fabric_in}
use Rattle.events.specs.Play.{Played}
use Rattle.events.specs.Pass.{played_then, pass_of}
use Rattle.queries.specs.Queries.{trace_questions}
use Rattle.calls.specs.Questions.{Query, query}
use Rattle.calls.specs.Codes.{code_of}
use Rattle.calls.specs.Verdict.{verdict_words, verdict_answer}
use Rattle.calls.proofs.Asking.{trace_yeses, some_number}
use Rattle.calls.proofs.Judging.{judged_pass, before_trace, no_target, no_room, all_asked, made_low}
use Rattle.calls.proofs.Judging.{answered_13, answered_reached, answered_isolated}
use Rattle.calls.proofs.OwnWidth.{words_own, questions_own, own_formed, judged_own}
use Rattle.verdict_call.proofs.verdict_accepted.Goals as goal

-- ---- the moments of the call

-- the pass was made, and was played as p
record Judged (f : List ℕ) (s : Shape) (q : Query) (area : List ℕ) (p : Played) : Type 0 where
  words : (fabric_in f).words ≡ s.words
  room : 4 * answer_words s.words ≤ length area
  none : first_no (before_trace f q area) ≡ 0
  is : p ≡ judged_pass f q area

module _
    (f : List ℕ) (s : Shape) (ok : Accepted f s) (set : WideSet) (fits : Fits s.words (wide_of set)) (fours : Fours set)
    (target limit budget : ℕ) (area : List ℕ)
    {no : ℕ} (said : no ≡ first_no (trace_questions wide_words ((fabric_in f).is_edge target) limit (wide_of set)))
  where
    abbrev F : Fabric
    F = fabric_in f

    abbrev q : Query
    q = query target limit budget (narrowed s.words (wide_of set))

    -- the first questions were asked
    asked_no : no ≡ first_no (trace_questions F.words (F.is_edge target) limit q.asked)
    asked_no = said ∙ questions_own f s ok set fits fours (F.is_edge target) limit

    first_refused : (no ≡ 0 → ⊥) → outcome no area ≡ verdict_answer f q (Reads.Fabric s) area
    first_refused some = no_target f q area no asked_no some

    -- with no no before the trace
    module _ (zero : no ≡ 0) where
      -- the target is an edge port, the limit 1 to 16, and what is asked clean
      yeses : (F.is_edge target ≡ true) × ((1 ≤ limit) × (limit ≤ 16)) × (clean F.words q.asked ≡ true)
      yeses = trace_yeses F.words (F.is_edge target) limit q.asked (sym asked_no ∙ zero)

      room_refused : length area < 4 * answer_words s.words → outcome 12 area ≡ verdict_answer f q (Reads.Fabric s) area
      room_refused short = no_room f q area no asked_no zero (omega (arith, words_own f s ok set fits fours))

      judged : 4 * answer_words s.words ≤ length area → (p : Played)
          → p ≡ pass_of f 3 target limit budget (wide_of set) area → Judged f s q area p
      judged room p is =
          let words = words_own f s ok set fits fours in
          record {
            words = words;
            room = room;
            none = all_asked f q area no asked_no zero (omega (arith, words));
            is = is ∙ judged_own f s ok set fits fours (own_formed f s ok set fits fours yeses.2) target limit budget area;
          }

-- after the pass
module _ {f : List ℕ} {s : Shape} {q : Query} {area : List ℕ} {p : Played} (x : Judged f s q area p) where
  status_is : p.status ≡ (judged_pass f q area).status
  status_is = ap (λ (x : Played). x.status) x.is

  made_is : p.world.made ≡ (judged_pass f q area).world.made
  made_is = ap (λ (x : Played). x.world.made) x.is

  area_is : p.world.area ≡ (judged_pass f q area).world.area
  area_is = ap (λ (x : Played). x.world.area) x.is

  -- the words that are returned with an answer
  returned : {r : ℕ} → r ≡ answer_words s.words * 256 → r ≡ answer_words (fabric_in f).words * 256
  returned e = e ∙ ap (λ (n : ℕ). answer_words n * 256) (sym x.words)

  budget_used : p.status ≡ 1 → outcome 13 p.world.area ≡ verdict_answer f q (Reads.Fabric s) area
  budget_used one = ap (outcome 13) area_is ∙ answered_13 f q area x.none (sym status_is ∙ one)

  reached_answered : p.status ≡ 2 → {r : ℕ} → r ≡ answer_words s.words * 256
      → outcome r p.world.area ≡ verdict_answer f q (Reads.Fabric s) area
  reached_answered two r = ap₂ outcome (returned r) area_is ∙ answered_reached f q area x.none (sym status_is ∙ two)

  module _ (zero : p.status ≡ 0) where
    one : (judged_pass f q area).status ≡ 1 → ⊥
    one e = omega (arith, zero, status_is)

    two : (judged_pass f q area).status ≡ 2 → ⊥
    two e = omega (arith, zero, status_is)

    few_made : p.world.made ≤ q.budget
    few_made = omega (arith, made_is, made_low f q area one two)

    isolated_answered : {r : ℕ} → r ≡ answer_words s.words * 256
        → {new : List ℕ} → new ≡ written_at 0 (verdict_words s.words (isolated p.world.made)) p.world.area
        → outcome r new ≡ verdict_answer f q (Reads.Fabric s) area
    isolated_answered {r} is {new} written =
        ap (λ (r : ℕ). outcome r new) (returned is)
        ∙ answered_isolated f q area x.none one two new
        (written ∙ (λ i. written_at 0 (verdict_words (sym x.words i) (isolated (made_is i))) (area_is i)))

-- ---- the needs

pub returns-in_err-trace_asked-clause-answers : goal.returns-in_err-trace_asked-clause-answers
returns-in_err-trace_asked-clause-answers c =
    let a = c.args in
    let ok : Accepted a.edges.now.fabric.file.now (shape_counted a.edges.now.fabric.counts) = search rules in
    let fours = query_fours a.query c.well_formed.1.1.0 in
    let r = c.in_err-trace_asked.field-0.0 in
    let is : code_of c.from_residual.result ≡ number r = search rules in
    first_refused a.edges.now.fabric.file.now (shape_counted a.edges.now.fabric.counts) ok a.query.asked c.requires fours
    a.query.port a.query.limit a.query.budget a.area.now
    {no = code_of c.from_residual.result} (is ∙ search rules) (some_number r is)

pub returns-then-area-words-clause-answers : goal.returns-then-area-words-clause-answers
returns-then-area-words-clause-answers c =
    let a = c.args in
    let ok : Accepted a.edges.now.fabric.file.now (shape_counted a.edges.now.fabric.counts) = search rules in
    let fours = query_fours a.query c.well_formed.1.1.0 in
    room_refused a.edges.now.fabric.file.now (shape_counted a.edges.now.fabric.counts) ok a.query.asked c.requires fours
    a.query.port a.query.limit a.query.budget a.area.now
    {no = 0} (search rules) refl
    (omega (arith, c.if-area-words.true, c.answer_words-words.ensures))

pub pass-passed-requires-clause-file_in_bounds : goal.pass-passed-requires-clause-file_in_bounds
pass-passed-requires-clause-file_in_bounds c =
    let a = c.args in
    let ok : Accepted a.edges.now.fabric.file.now (shape_counted a.edges.now.fabric.counts) = search rules in
    λ e. omega (arith, c.if-area-words.false, c.answer_words-words.ensures, words_said _ _ ok)

pub overflow_cast-passed : goal.overflow_cast-passed
overflow_cast-passed c =
    let a = c.args in
    let ok : Accepted a.edges.now.fabric.file.now (shape_counted a.edges.now.fabric.counts) = search rules in
    let fours = query_fours a.query c.well_formed.1.1.0 in
    let p = played_then c.pass-passed.result c.pass-passed.new.area in
    let x =
    judged a.edges.now.fabric.file.now (shape_counted a.edges.now.fabric.counts) ok a.query.asked c.requires fours
    a.query.port a.query.limit a.query.budget a.area.now
    {no = 0} (search rules) refl
    (omega (arith, c.if-area-words.false, c.answer_words-words.ensures)) p c.pass-passed.ensures in
    let zero : p.status ≡ 0 = search rules in
    omega (arith, few_made x zero)

pub returns-in-Ok-clause-answers : goal.returns-in-Ok-clause-answers
returns-in-Ok-clause-answers c =
    let a = c.args in
    let ok : Accepted a.edges.now.fabric.file.now (shape_counted a.edges.now.fabric.counts) = search rules in
    let fours = query_fours a.query c.well_formed.1.1.0 in
    let p = played_then c.pass-passed.result c.pass-passed.new.area in
    let x =
    judged a.edges.now.fabric.file.now (shape_counted a.edges.now.fabric.counts) ok a.query.asked c.requires fours
    a.query.port a.query.limit a.query.budget a.area.now
    {no = 0} (search rules) refl
    (omega (arith, c.if-area-words.false, c.answer_words-words.ensures)) p c.pass-passed.ensures in
    let zero : p.status ≡ 0 = search rules in
    isolated_answered x zero (ap (λ (n : ℕ). n * 256) c.answer_words-words.ensures) c.put_isolated.ensures

pub returns-in-Err-Reached-clause-answers : goal.returns-in-Err-Reached-clause-answers
returns-in-Err-Reached-clause-answers c =
    let a = c.args in
    let ok : Accepted a.edges.now.fabric.file.now (shape_counted a.edges.now.fabric.counts) = search rules in
    let fours = query_fours a.query c.well_formed.1.1.0 in
    let p = played_then c.pass-passed.result c.pass-passed.new.area in
    let x =
    judged a.edges.now.fabric.file.now (shape_counted a.edges.now.fabric.counts) ok a.query.asked c.requires fours
    a.query.port a.query.limit a.query.budget a.area.now
    {no = 0} (search rules) refl
    (omega (arith, c.if-area-words.false, c.answer_words-words.ensures)) p c.pass-passed.ensures in
    let two : p.status ≡ 2 = search rules in
    reached_answered x two (ap (λ (n : ℕ). n * 256) c.answer_words-words.ensures)

pub returns-in-Err-BudgetUsed-clause-answers : goal.returns-in-Err-BudgetUsed-clause-answers
returns-in-Err-BudgetUsed-clause-answers c =
    let a = c.args in
    let ok : Accepted a.edges.now.fabric.file.now (shape_counted a.edges.now.fabric.counts) = search rules in
    let fours = query_fours a.query c.well_formed.1.1.0 in
    let p = played_then c.pass-passed.result c.pass-passed.new.area in
    let x =
    judged a.edges.now.fabric.file.now (shape_counted a.edges.now.fabric.counts) ok a.query.asked c.requires fours
    a.query.port a.query.limit a.query.budget a.area.now
    {no = 0} (search rules) refl
    (omega (arith, c.if-area-words.false, c.answer_words-words.ensures)) p c.pass-passed.ensures in
    let one : p.status ≡ 1 = search rules in
    budget_used x one
