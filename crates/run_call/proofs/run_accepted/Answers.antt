-- `run_accepted` meets its contract: the questions are asked in turn, and the run's words are written.
use mathlib.Core.Bool.{Bool, ◌&&◌}
use mathlib.Core.List.{List}
use mathlib.Core.Path.{◌≡◌, refl, sym, ap, ap₂, ◌∙◌, subst}
use Prim.Native.Nat.{ℕ, ◌*◌, ◌≤◌}
use borrow.Author.Rules.{rules}
use lib.Dec.{leb}
use lib.ListN.{length}
use native.Mathlib.Omega.{arith}
use Rattle.headers.specs.Sets.{Set}
use Rattle.answer.specs.Answer.{answer_words, outcome, written_at}
use Rattle.layout.specs.Shape.{Shape}
use Rattle.layout.specs.Versions.{header_words, shape_counted}
use Rattle.wide.specs.Forms.{wide_words, wide_of, narrowed, Fits}
use Rattle.wide.specs.declared.WideSet.{WideSet}
use Rattle.wide.proofs.Halves.{Fours}
use Rattle.wide.proofs.Arrays.{query_fours}
use Rattle.questions.specs.Questions.{pick, clean, Question, first_no}
use Rattle.questions.specs.Read as Reads
use Rattle.questions.specs.Refusals.{number}
use Rattle.questions.specs.declared.Refusal.{Refusal}
use Rattle.file.specs.Accepted.{Accepted}
use Rattle.forwarding.specs.Run.{run}
use Rattle.model.specs.Model.{fabric_in, wide_in}
use Rattle.journey.specs.Journey.{IsJourney}
use Rattle.journey.specs.declared.Journey.{Journey}
use Rattle.journey.proofs.Hops.{few_hops_then}
use Rattle.queries.specs.Queries.{limit_right, cares_for_all}
use Rattle.calls.specs.Questions.{Query, query}
use Rattle.calls.specs.Run.{run_questions, run_words_asked, run_answer}
use Rattle.calls.proofs.Asking.{limit_range, Yeses, all_yes, some_number, past, stopped, no_answered, yes_answered}
use Rattle.calls.proofs.OwnWidth.{words_own, clean_own, journey_own, run_words_long}
use Rattle.run_call.proofs.run_accepted.Goals as goal

-- the links are those of the file
travelled : {f g : List ℕ} → f ≡ g → (limit start : ℕ) (set : Set) (j : Journey)
    → IsJourney (wide_in f) (run (wide_in f) limit start set.value) j → IsJourney (wide_in g) (run (wide_in g) limit start set.value) j
travelled e limit start set j = subst (λ (f : List ℕ). IsJourney (wide_in f) (run (wide_in f) limit start set.value) j) e

-- a run asked on an accepted file
module _
    (f : List ℕ) (s : Shape) (ok : Accepted f s) (set : WideSet) (fits : Fits s.words (wide_of set)) (fours : Fours set)
    (start limit budget : ℕ) (area : List ℕ)
  where
    -- what is asked, as the file has it
    abbrev own : Set
    own = narrowed s.words (wide_of set)

    abbrev q : Query
    q = query start limit budget own

    abbrev questions : List Question
    questions = run_questions (fabric_in f) q area

    words_known : (fabric_in f).words ≡ s.words
    words_known = words_own f s ok set fits fours

    -- a no is answered
    refused_by : {code : ℕ} (r : Refusal) → code ≡ number r → number r ≡ first_no questions
        → outcome code area ≡ run_answer f q (Reads.Fabric s) area
    refused_by r is said = no_answered _ _ _ _ (is ∙ said) (some_number r is)

    -- what the code was told
    module _ {right tidy all edge room : Bool} {words : ℕ} (is_right : right ≡ limit_right limit)
        (is_tidy : tidy ≡ clean wide_words (wide_of set)) (is_all : all ≡ cares_for_all s.words own)
      where
        questions_told : edge ≡ (fabric_in f).is_edge start → words ≡ answer_words s.words → room ≡ leb (4 * words) (length area)
            → pick right (pick (tidy && all) (pick edge (pick room 0 12) 11) 10) 9 ≡ first_no questions
        questions_told is_edge is_words is_room =
            ap₂ (λ (y : Bool) (n : ℕ). pick y n 9) is_right
            (ap₂ (λ (y : Bool) (n : ℕ). pick y n 10)
            (ap₂ ◌&&◌ (is_tidy ∙ clean_own f s ok set fits fours)
            (is_all ∙ ap (λ (n : ℕ). cares_for_all n own) (sym words_known)))
            (ap₂ (λ (y : Bool) (n : ℕ). pick y n 11) is_edge
            (ap (λ (y : Bool). pick y 0 12)
            (is_room ∙ ap (λ (m : ℕ). leb (4 * m) (length area)) (is_words ∙ ap answer_words (sym words_known))))))

    -- none got a no
    module _ (none : first_no questions ≡ 0) where
      yeses : Yeses questions
      yeses = all_yes questions (omega arith, (omega arith, (omega arith, (omega arith, tt)))) none

      low_limit : limit ≤ 16
      low_limit = (limit_range _ yeses.0).1

pub returns-in_err-ask-clause-answers : goal.returns-in_err-ask-clause-answers
returns-in_err-ask-clause-answers c =
    let a = c.args in
    let ok : Accepted a.edges.now.fabric.file.now (shape_counted a.edges.now.fabric.counts) = search rules in
    let fours = query_fours a.query c.well_formed.1.1.1.0 in
    let r = c.in_err-ask.field-0.0 in
    refused_by a.edges.now.fabric.file.now (shape_counted a.edges.now.fabric.counts) ok a.query.asked c.requires.fits fours
    a.query.port a.query.limit a.query.budget a.area.now
    r (search rules)
    (stopped c.limit_right.result 9 _ r (search rules)
    ∙ questions_told a.edges.now.fabric.file.now (shape_counted a.edges.now.fabric.counts) ok a.query.asked c.requires.fits fours
    a.query.port a.query.limit a.query.budget a.area.now
    c.limit_right.ensures c.is_clean-tidy.ensures c.cares_for_all-all.ensures refl refl refl)

pub returns-in_err-ask-2-clause-answers : goal.returns-in_err-ask-2-clause-answers
returns-in_err-ask-2-clause-answers c =
    let a = c.args in
    let ok : Accepted a.edges.now.fabric.file.now (shape_counted a.edges.now.fabric.counts) = search rules in
    let fours = query_fours a.query c.well_formed.1.1.1.0 in
    let r = c.in_err-ask-2.field-0.0 in
    refused_by a.edges.now.fabric.file.now (shape_counted a.edges.now.fabric.counts) ok a.query.asked c.requires.fits fours
    a.query.port a.query.limit a.query.budget a.area.now
    r (search rules)
    (past c.limit_right.result 9 (omega arith) (search rules)
    (stopped (c.is_clean-tidy.result && c.cares_for_all-all.result) 10 _ r (search rules))
    ∙ questions_told a.edges.now.fabric.file.now (shape_counted a.edges.now.fabric.counts) ok a.query.asked c.requires.fits fours
    a.query.port a.query.limit a.query.budget a.area.now
    c.limit_right.ensures c.is_clean-tidy.ensures c.cares_for_all-all.ensures refl refl refl)

pub returns-in_err-ask-3-clause-answers : goal.returns-in_err-ask-3-clause-answers
returns-in_err-ask-3-clause-answers c =
    let a = c.args in
    let ok : Accepted a.edges.now.fabric.file.now (shape_counted a.edges.now.fabric.counts) = search rules in
    let fours = query_fours a.query c.well_formed.1.1.1.0 in
    let r = c.in_err-ask-3.field-0.0 in
    refused_by a.edges.now.fabric.file.now (shape_counted a.edges.now.fabric.counts) ok a.query.asked c.requires.fits fours
    a.query.port a.query.limit a.query.budget a.area.now
    r (search rules)
    (past c.limit_right.result 9 (omega arith) (search rules)
    (past (c.is_clean-tidy.result && c.cares_for_all-all.result) 10 (omega arith) (search rules)
    (stopped c.is_edge.result 11 _ r (search rules)))
    ∙ questions_told a.edges.now.fabric.file.now (shape_counted a.edges.now.fabric.counts) ok a.query.asked c.requires.fits fours
    a.query.port a.query.limit a.query.budget a.area.now
    c.limit_right.ensures c.is_clean-tidy.ensures c.cares_for_all-all.ensures c.is_edge.ensures refl refl)

pub returns-in_err-ask-4-clause-answers : goal.returns-in_err-ask-4-clause-answers
returns-in_err-ask-4-clause-answers c =
    let a = c.args in
    let ok : Accepted a.edges.now.fabric.file.now (shape_counted a.edges.now.fabric.counts) = search rules in
    let fours = query_fours a.query c.well_formed.1.1.1.0 in
    let r = c.in_err-ask-4.field-0.0 in
    refused_by a.edges.now.fabric.file.now (shape_counted a.edges.now.fabric.counts) ok a.query.asked c.requires.fits fours
    a.query.port a.query.limit a.query.budget a.area.now
    r (search rules)
    (past c.limit_right.result 9 (omega arith) (search rules)
    (past (c.is_clean-tidy.result && c.cares_for_all-all.result) 10 (omega arith) (search rules)
    (past c.is_edge.result 11 (omega arith) (search rules)
    (stopped (leb (4 * c.answer_words-words.result) (length a.area.now)) 12 _ r (search rules))))
    ∙ questions_told a.edges.now.fabric.file.now (shape_counted a.edges.now.fabric.counts) ok a.query.asked c.requires.fits fours
    a.query.port a.query.limit a.query.budget a.area.now
    c.limit_right.ensures c.is_clean-tidy.ensures c.cares_for_all-all.ensures c.is_edge.ensures c.answer_words-words.ensures refl)

pub put-requires-clause-hops_bound : goal.put-requires-clause-hops_bound
put-requires-clause-hops_bound c =
    let a = c.args in
    let ok : Accepted a.edges.now.fabric.file.now (shape_counted a.edges.now.fabric.counts) = search rules in
    let fours = query_fours a.query c.well_formed.1.1.1.0 in
    let travels = travelled c.requires.same_file a.query.limit a.query.port (wide_of a.query.asked) c.travel-journey.result
    c.travel-journey.ensures in
    let none : 0 ≡ first_no
    (questions a.edges.now.fabric.file.now (shape_counted a.edges.now.fabric.counts) ok a.query.asked c.requires.fits fours
    a.query.port a.query.limit a.query.budget a.area.now) =
    past c.limit_right.result 9 (omega arith) (search rules)
    (past (c.is_clean-tidy.result && c.cares_for_all-all.result) 10 (omega arith) (search rules)
    (past c.is_edge.result 11 (omega arith) (search rules)
    (past (leb (4 * c.answer_words-words.result) (length a.area.now)) 12 (omega arith) (search rules) refl)))
    ∙ questions_told a.edges.now.fabric.file.now (shape_counted a.edges.now.fabric.counts) ok a.query.asked c.requires.fits fours
    a.query.port a.query.limit a.query.budget a.area.now
    c.limit_right.ensures c.is_clean-tidy.ensures c.cares_for_all-all.ensures c.is_edge.ensures c.answer_words-words.ensures refl in
    few_hops_then (wide_in a.edges.now.fabric.file.now) a.query.limit a.query.port (wide_of a.query.asked).value
    c.travel-journey.result travels
    (low_limit a.edges.now.fabric.file.now (shape_counted a.edges.now.fabric.counts) ok a.query.asked c.requires.fits fours
    a.query.port a.query.limit a.query.budget a.area.now (sym none))

pub returns-clause-answers : goal.returns-clause-answers
returns-clause-answers c =
    let a = c.args in
    let ok : Accepted a.edges.now.fabric.file.now (shape_counted a.edges.now.fabric.counts) = search rules in
    let fours = query_fours a.query c.well_formed.1.1.1.0 in
    let travels = travelled c.requires.same_file a.query.limit a.query.port (wide_of a.query.asked) c.travel-journey.result
    c.travel-journey.ensures in
    let none : 0 ≡ first_no
    (questions a.edges.now.fabric.file.now (shape_counted a.edges.now.fabric.counts) ok a.query.asked c.requires.fits fours
    a.query.port a.query.limit a.query.budget a.area.now) =
    past c.limit_right.result 9 (omega arith) (search rules)
    (past (c.is_clean-tidy.result && c.cares_for_all-all.result) 10 (omega arith) (search rules)
    (past c.is_edge.result 11 (omega arith) (search rules)
    (past (leb (4 * c.answer_words-words.result) (length a.area.now)) 12 (omega arith) (search rules) refl)))
    ∙ questions_told a.edges.now.fabric.file.now (shape_counted a.edges.now.fabric.counts) ok a.query.asked c.requires.fits fours
    a.query.port a.query.limit a.query.budget a.area.now
    c.limit_right.ensures c.is_clean-tidy.ensures c.cares_for_all-all.ensures c.is_edge.ensures c.answer_words-words.ensures refl in
    let w = header_words a.edges.now.fabric.counts.version in
    yes_answered _ _ (run_words_asked (fabric_in a.edges.now.fabric.file.now) (query a.query.port a.query.limit a.query.budget
    (narrowed w (wide_of a.query.asked)))) a.area.now _ (sym none)
    (ap (λ (n : ℕ). n * 256)
    (c.answer_words-words.ensures
    ∙ sym (run_words_long a.edges.now.fabric.file.now (shape_counted a.edges.now.fabric.counts) ok a.query.asked c.requires.fits fours
    a.query.limit a.query.port c.travel-journey.result travels)))
    (c.put.ensures
    ∙ ap (λ (l : List ℕ). written_at 0 l a.area.now)
    (journey_own a.edges.now.fabric.file.now (shape_counted a.edges.now.fabric.counts) ok a.query.asked c.requires.fits fours
    a.query.limit a.query.port c.travel-journey.result travels))
