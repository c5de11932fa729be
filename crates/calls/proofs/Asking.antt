-- Questions in turn: with no no they all got a yes; and what a call answers then, and else. Assumes nothing.
use mathlib.Core.Bool.{Bool, true, false}
use mathlib.Core.List.{List, [], ◌∷◌, ◌++◌}
use mathlib.Core.Path.{◌≡◌, refl, sym, ap, ◌∙◌}
use Prim.Native.Nat.{ℕ, ◌+◌, ◌*◌, ◌≤◌, ◌<◌}
use native.Mathlib.Omega.{arith}
use lib.Dec.{eqb, leb}
use lib.ListN.{length, drop}
use borrow.Author.Tests.{ne_eqb, leb-true}
use Rattle.headers.specs.Sets.{Set}
use Rattle.headers.proofs.Booleans.{and_fst, and_snd}
use Rattle.answer.specs.Answer.{Outcome, outcome, refused, answered, written_at, bytes_of}
use Rattle.questions.specs.Questions.{pick, clean, Question, first_no}
use Rattle.questions.specs.Refusals.{number}
use Rattle.questions.specs.declared.Refusal.{Refusal}
use Rattle.questions.specs.declared.Refusal.TheVariants as Refusals
use Rattle.queries.specs.Queries.{limit_right, trace_questions}
use Rattle.calls.specs.Questions.{or_refused}

abbrev pub Yeses : List Question → Type 0
Yeses [] = Unit {0}
Yeses (q ∷ qs) = (q.yes ≡ true) × Yeses qs

-- no question has the number 0
abbrev pub Numbered : List Question → Type 0
Numbered [] = Unit {0}
Numbered (q ∷ qs) = (0 < q.number) × Numbered qs

pub all_yes : (qs : List Question) → Numbered qs → first_no qs ≡ 0 → Yeses qs
all_yes [] n e = tt
all_yes (q ∷ qs) n e = go q.yes refl e (all_yes qs n.1)
  where
    go : (b : Bool) → q.yes ≡ b → pick b (first_no qs) q.number ≡ 0 → (first_no qs ≡ 0 → Yeses qs) → Yeses (q ∷ qs)
    go true d e ih = (d, ih e)
    go false d e ih = absurd (let p = n.0 in omega arith)

-- ---- what the code says of one question

pub number_low : (r : Refusal) → 0 < number r
number_low Refusals.Size = omega arith
number_low Refusals.Start = omega arith
number_low Refusals.Order = omega arith
number_low Refusals.Ports = omega arith
number_low Refusals.Tidiness = omega arith
number_low Refusals.Ends = omega arith
number_low Refusals.Limits = omega arith
number_low Refusals.Target = omega arith
number_low Refusals.HopLimit = omega arith
number_low Refusals.AskedSet = omega arith
number_low Refusals.StartPort = omega arith
number_low Refusals.Room = omega arith
number_low Refusals.Budget = omega arith
number_low Refusals.Input = omega arith

pub number_high : (r : Refusal) → number r ≤ 14
number_high Refusals.Size = omega arith
number_high Refusals.Start = omega arith
number_high Refusals.Order = omega arith
number_high Refusals.Ports = omega arith
number_high Refusals.Tidiness = omega arith
number_high Refusals.Ends = omega arith
number_high Refusals.Limits = omega arith
number_high Refusals.Target = omega arith
number_high Refusals.HopLimit = omega arith
number_high Refusals.AskedSet = omega arith
number_high Refusals.StartPort = omega arith
number_high Refusals.Room = omega arith
number_high Refusals.Budget = omega arith
number_high Refusals.Input = omega arith

-- no refusal has the number 0
pub some_number : {code : ℕ} (r : Refusal) → code ≡ number r → code ≡ 0 → ⊥
some_number r e z = omega (arith, number_low r)

-- the first no is past a question that got a yes, and at one that got a no
pub past : (yes : Bool) (n : ℕ) {said later : ℕ} → 0 < n → 0 ≡ pick yes 0 n → said ≡ later → said ≡ pick yes later n
past true n l e d = d
past false n l e d = absurd (omega arith)

pub stopped : (yes : Bool) (n : ℕ) (later : ℕ) (r : Refusal) → number r ≡ pick yes 0 n → number r ≡ pick yes later n
stopped false n later r e = e
stopped true n later r e = absurd (some_number r refl e)

-- ---- what verdict and list ask first

pub limit_range : (limit : ℕ) → limit_right limit ≡ true → (1 ≤ limit) × (limit ≤ 16)
limit_range limit e =
    (leb-true 1 limit (and_fst (leb 1 limit) (leb limit 16) e), leb-true limit 16 (and_snd (leb 1 limit) (leb limit 16) e))

module _ (n : ℕ) (right : Bool) (limit : ℕ) (asked : Set) where
  pub trace_numbered : Numbered (trace_questions n right limit asked)
  trace_numbered = (omega arith, (omega arith, (omega arith, tt)))

  pub trace_yeses : first_no (trace_questions n right limit asked) ≡ 0
      → (right ≡ true) × ((1 ≤ limit) × (limit ≤ 16)) × (clean n asked ≡ true)
  trace_yeses e =
      let y = all_yes (trace_questions n right limit asked) trace_numbered e in
      (y.0, limit_range limit y.1.0, y.1.1.0)

-- ---- what is answered

-- a no is answered with place 0, and the area is as it was
pub no_answered : (said number : ℕ) (area : List ℕ) (done : Outcome) → said ≡ number → (said ≡ 0 → ⊥)
    → outcome said area ≡ or_refused number area done
unfolding refused
no_answered said number area done e d =
    sym (ap (λ (k : ℕ). pick (eqb k 0) done (refused k 0 area)) (sym e)
    ∙ ap (λ (b : Bool). pick b done (refused said 0 area)) (ne_eqb said 0 d)
    ∙ ap (λ (k : ℕ). outcome k area) (let z : 0 * 256 + said ≡ said = omega arith in z))

-- with no no the words are answered
pub yes_answered : (number words : ℕ) (ws area : List ℕ) (last : List ℕ) → number ≡ 0 → words ≡ length ws * 256
    → last ≡ written_at 0 ws area
    → outcome words last ≡ or_refused number area (answered ws area)
unfolding answered written_at
yes_answered number words ws area last e w l =
    (λ i. outcome (w i) (l i))
    ∙ ap (λ (k : ℕ). outcome (length ws * 256) (bytes_of ws ++ drop (4 * k) area)) (let z : 0 + length ws ≡ length ws =
    omega arith in z)
    ∙ sym (ap (λ (k : ℕ). pick (eqb k 0) (answered ws area) (refused k 0 area)) e)
