-- More questions after the first ones: a no among the first is the first no of all, and else the first no is among the more. Assumes
-- nothing.
use mathlib.Core.Bool.{Bool, true, false}
use mathlib.Core.List.{List, [], ◌∷◌, ◌++◌}
use mathlib.Core.Path.{◌≡◌, refl}
use native.Mathlib.Omega.{arith}
use Rattle.questions.specs.Questions.{pick, Question, first_no}
use Rattle.calls.proofs.Asking.{Numbered}

pub first_no_more : (qs more : List Question) → Numbered qs → first_no qs ≡ 0 → first_no (qs ++ more) ≡ first_no more
first_no_more [] more n e = refl
first_no_more (q ∷ qs) more n e = go q.yes e (first_no_more qs more n.1)
  where
    go : (b : Bool) → pick b (first_no qs) q.number ≡ 0 → (first_no qs ≡ 0 → first_no (qs ++ more) ≡ first_no more)
        → pick b (first_no (qs ++ more)) q.number ≡ first_no more
    go true e ih = ih e
    go false e ih = absurd (let p = n.0 in omega arith)

pub first_no_said : (qs more : List Question) → (first_no qs ≡ 0 → ⊥) → first_no (qs ++ more) ≡ first_no qs
first_no_said [] more d = absurd (d refl)
first_no_said (q ∷ qs) more d = go q.yes d (first_no_said qs more)
  where
    go : (b : Bool) → (pick b (first_no qs) q.number ≡ 0 → ⊥)
        → ((first_no qs ≡ 0 → ⊥) → first_no (qs ++ more) ≡ first_no qs)
        → pick b (first_no (qs ++ more)) q.number ≡ pick b (first_no qs) q.number
    go true d ih = ih d
    go false d ih = refl
