-- How the verdict's pass ends: 1, the budget was used; 2, reached; else isolated. Assumes nothing.
use mathlib.Core.Bool.{Bool, true, false, cond}
use mathlib.Core.List.{List, [], ◌∷◌, ◌++◌}
use mathlib.Core.Option.{some, none}
use mathlib.Core.Path.{◌≡◌, refl, sym, ap, ap₂, ◌∙◌, subst}
use Prim.Native.Nat.{ℕ, ◌-◌, ◌*◌, ◌≤◌, ◌<◌}
use native.Mathlib.Omega.{arith}
use borrow.Author.Tests.{leb-true, le-leb, lt-leb}
use lib.Dec.{leb}
use lib.ListN.{length, take, length-append, length-replicate}
use lib.Seq.{take_all}
use Rattle.headers.specs.Sets.{Header}
use Rattle.answer.specs.Answer.{answer_words, Outcome, outcome, answered, written_at, sixteen}
use Rattle.answer.proofs.Sixteen.{sixteen_long}
use Rattle.questions.specs.Questions.{pick, Question, ◌asks◌, first_no}
use Rattle.forwarding.specs.Trace.{Event, trace}
use Rattle.forwarding.specs.Verdict.{Verdict, isolated, reached, units_in}
use Rattle.forwarding.proofs.Stops.{reached_long}
use Rattle.forwarding.proofs.Budget.{if_within, verdict_within_lem}
use Rattle.model.specs.Model.{fabric_in}
use Rattle.events.specs.Play.{Played, play, judged, reached_words}
use Rattle.events.proofs.VerdictPlayed.{VerdictPlayed, verdict_played}
use Rattle.events.specs.Pass.{begin}
use Rattle.queries.specs.Queries.{trace_questions}
use Rattle.calls.specs.Questions.{Query, room_for_answer, or_refused}
use Rattle.calls.specs.Verdict.{verdict_words, verdict_asked}
use Rattle.calls.proofs.Asking.{trace_numbered, no_answered, yes_answered}
use Rattle.calls.proofs.MoreAsked.{first_no_more, first_no_said}

module _ (f : List ℕ) (q : Query) (area : List ℕ) where
  -- the words of a header
  abbrev n : ℕ
  n = (fabric_in f).words

  abbrev pub judged_pass : Played
  judged_pass = play q.budget (judged (fabric_in f) n q.port) (trace (fabric_in f) q.limit q.port q.asked) (begin area)

  abbrev v : Verdict
  v = verdict_asked (fabric_in f) q

  ended : VerdictPlayed n (begin area) (if_within q.budget v) judged_pass
  ended =
      let es : List Event = trace (fabric_in f) q.limit q.port q.asked in
      subst (λ o. VerdictPlayed n (begin area) o judged_pass) (verdict_within_lem (fabric_in f) q.port q.budget es)
      (verdict_played (fabric_in f) n q.port q.budget es (begin area))

  -- what follows of the verdict, by whether it came within the budget
  module _ (C : Type 0) where
    abbrev Used : Type 0
    Used = leb (units_in v) q.budget ≡ false → judged_pass.status ≡ 1 → judged_pass.world.area ≡ area → C

    abbrev Isolated : Type 0
    Isolated = (u : ℕ) → v ≡ isolated u → leb (units_in v) q.budget ≡ true → judged_pass.status ≡ 0
        → judged_pass.world.made ≡ u → judged_pass.world.area ≡ area → C

    abbrev Reached : Type 0
    Reached = (u x : ℕ) (path : List ℕ) (h : Header) → v ≡ reached u x path h → leb (units_in v) q.budget ≡ true
        → judged_pass.status ≡ 2
        → judged_pass.world.area ≡ written_at 0 (reached_words u x path (take n h)) area → C

    by_end : Used → Isolated → Reached → C
    unfolding VerdictPlayed
    by_end a b c = go (leb (units_in v) q.budget) v refl refl ended
      where
        go : (w : Bool) (x : Verdict) → leb (units_in v) q.budget ≡ w → v ≡ x
            → VerdictPlayed n (begin area) (cond w (some x) none) judged_pass → C
        go false x d e r = a d r.0 r.1
        go true (isolated u) d e r = b u e d r.0 r.1 r.2
        go true (reached u x path h) d e r = c u x path h e d r.0 r.1

  -- the budget was used: question 13 gets a no, and nothing was written
  pub budget_used : judged_pass.status ≡ 1 → (leb (units_in v) q.budget ≡ false) × (judged_pass.world.area ≡ area)
  budget_used s =
      by_end _ (λ d e k. (d, k)) (λ u i d e m k. absurd (omega (arith, s, e))) (λ u x path h i d e k. absurd (omega (arith, s, e)))

  -- else it gets a yes
  pub in_budget : (judged_pass.status ≡ 1 → ⊥) → leb (units_in v) q.budget ≡ true
  in_budget s = by_end _ (λ d e k. absurd (s e)) (λ u i d e m k. d) (λ u x path h i d e k. d)

  header_long : (u x : ℕ) (path : List ℕ) (h : Header) → v ≡ reached u x path h → length h ≡ n
  header_long u x path h e =
      reached_long (fabric_in f) q.port (trace (fabric_in f) q.limit q.port q.asked) u x path h e

  pub verdict_reached : judged_pass.status ≡ 2 → judged_pass.world.area ≡ written_at 0 (verdict_words n v) area
  unfolding verdict_words
  verdict_reached s =
      by_end _ (λ d e k. absurd (omega (arith, s, e))) (λ u i d e m k. absurd (omega (arith, s, e)))
      (λ u x path h i d e k.
      k
      ∙ ap (λ (g : Header). written_at 0 (reached_words u x path g) area)
      (take_all n h (let l = header_long u x path h i in omega arith))
      ∙ ap (λ (w : Verdict). written_at 0 (verdict_words n w) area) (sym i))

  module _ (one : judged_pass.status ≡ 1 → ⊥) (two : judged_pass.status ≡ 2 → ⊥) where
    pub verdict_isolated : (v ≡ isolated judged_pass.world.made) × (judged_pass.world.area ≡ area)
    verdict_isolated =
        by_end _ (λ d e k. absurd (one e)) (λ u i d e m k. (i ∙ ap isolated (sym m), k)) (λ u x path h i d e k. absurd (two e))

    -- the units made are those of the verdict, and no more than the budget
    pub made_low : judged_pass.world.made ≤ q.budget
    unfolding units_in
    made_low = rw (ap units_in (sym verdict_isolated.0)) (leb-true (units_in v) q.budget (in_budget one))

  -- a verdict's answer has four words, a header and sixteen
  pub verdict_long : length (verdict_words n v) ≡ answer_words n
  unfolding verdict_words reached_words
  verdict_long = go v refl
    where
      go : (w : Verdict) → v ≡ w → length (verdict_words n w) ≡ answer_words n
      go (isolated u) e = omega (arith, length-replicate {A = ℕ} (answer_words n - 2) 0)
      go (reached u x path h) e = omega (arith, length-append h (sixteen path), sixteen_long path, header_long u x path h e)

  -- ---- the answer

  -- the questions asked before the back-trace, and the one after it
  abbrev first : List Question
  first = trace_questions n ((fabric_in f).is_edge q.port) q.limit q.asked

  abbrev pub before_trace : List Question
  before_trace = first ++ (12 asks room_for_answer (fabric_in f) area ∷ [])

  abbrev after_trace : List Question
  after_trace = 13 asks leb (units_in v) q.budget ∷ []

  abbrev answer : Outcome
  answer = or_refused (first_no (before_trace ++ after_trace)) area (answered (verdict_words n v) area)

  no_before : (said : ℕ) → said ≡ first_no before_trace → (said ≡ 0 → ⊥) → outcome said area ≡ answer
  no_before said e d = no_answered said _ area _ (e ∙ sym (first_no_said before_trace after_trace (λ z. d (e ∙ z)))) d

  -- what is said of the target, and then of the room
  module _ (said : ℕ) (e : said ≡ first_no first) where
    pub no_target : (said ≡ 0 → ⊥) → outcome said area ≡ answer
    no_target d = no_before said (e ∙ sym (first_no_said first (12 asks room_for_answer (fabric_in f) area ∷ []) (λ z. d (e ∙ z)))) d

    module _ (z : said ≡ 0) where
      room_asked : (b : Bool) → room_for_answer (fabric_in f) area ≡ b → first_no before_trace ≡ pick b 0 12
      room_asked b r =
          first_no_more first (12 asks room_for_answer (fabric_in f) area ∷ [])
          (trace_numbered n ((fabric_in f).is_edge q.port) q.limit q.asked) (sym e ∙ z)
          ∙ ap (λ (y : Bool). pick y 0 12) r

      pub no_room : length area < 4 * answer_words n → outcome 12 area ≡ answer
      no_room short =
          no_before 12 (sym (room_asked false (lt-leb (4 * answer_words n) (length area) short))) (λ y. let n : ⊥ = omega arith in n)

      pub all_asked : 4 * answer_words n ≤ length area → first_no before_trace ≡ 0
      all_asked enough = room_asked true (le-leb (4 * answer_words n) (length area) enough)

  module _ (yes : first_no before_trace ≡ 0) where
    then_after : first_no (before_trace ++ after_trace) ≡ first_no after_trace
    then_after = first_no_more before_trace after_trace (omega arith, (omega arith, (omega arith, (omega arith, tt)))) yes

    pub answered_13 : judged_pass.status ≡ 1 → outcome 13 judged_pass.world.area ≡ answer
    answered_13 s =
        let u = budget_used s in
        ap (outcome 13) u.1
        ∙ no_answered 13 _ area _ (sym (then_after ∙ ap (λ (b : Bool). pick b 0 13) u.0)) (λ z. omega arith)

    -- the words of the verdict were written
    written : (judged_pass.status ≡ 1 → ⊥) → (last : List ℕ) → last ≡ written_at 0 (verdict_words n v) area
        → outcome (answer_words n * 256) last ≡ answer
    written one last l =
        yes_answered _ (answer_words n * 256) (verdict_words n v) area last
        (then_after ∙ ap (λ (b : Bool). pick b 0 13) (in_budget one)) (ap (λ (m : ℕ). m * 256) (sym verdict_long)) l

    pub answered_reached : judged_pass.status ≡ 2 → outcome (answer_words n * 256) judged_pass.world.area ≡ answer
    answered_reached s = written (λ e. omega (arith, s, e)) _ (verdict_reached s)

    pub answered_isolated : (judged_pass.status ≡ 1 → ⊥) → (judged_pass.status ≡ 2 → ⊥) → (last : List ℕ)
        → last ≡ written_at 0 (verdict_words n (isolated judged_pass.world.made)) judged_pass.world.area
        → outcome (answer_words n * 256) last ≡ answer
    answered_isolated one two last l =
        let i = verdict_isolated one two in
        written one last (l ∙ ap₂ (λ (w : Verdict) (a : List ℕ). written_at 0 (verdict_words n w) a) (sym i.0) i.1)
