-- A file that is refused has a number from 1 to 7: no refusal is taken for a success.
use mathlib.Core.Bool.{Bool, true, false}
use mathlib.Core.List.{List, [], ◌∷◌}
use mathlib.Core.Path.{◌≡◌, subst}
use Prim.Native.Nat.{ℕ, zero, suc, ◌≤◌}
use native.Mathlib.Omega.{arith}
use lib.Dec.{eqb, eqb-suc-zero}
use Rattle.layout.specs.Words.{words_in}
use Rattle.layout.specs.Records.{width_in}
use Rattle.questions.specs.Questions.{pick, Question, ◌asks◌, first_no, or_else, Passed, after_start, kind, asked, passed, shape_of}
use Rattle.questions.specs.Questions.{in_order, ports_right, sets_tidy, link_free, within_limits, records, sized, started, accepted}
use Rattle.questions.specs.Read.{Read}
use Rattle.questions.specs.Read.{Fabric, No}

-- no question has a number above m
abbrev pub UpTo : ℕ → List Question → Type 0
UpTo m [] = Unit {0}
UpTo m (q ∷ qs) = (q.number ≤ m) × UpTo m qs

pub first_no_up_to : (m : ℕ) (qs : List Question) → UpTo m qs → first_no qs ≤ m
first_no_up_to m [] u = omega arith
first_no_up_to m (q ∷ qs) u = either_way q.yes (first_no_up_to m qs u.1)
  where
    either_way : (b : Bool) → first_no qs ≤ m → pick b (first_no qs) q.number ≤ m
    either_way true later = later
    either_way false later = u.0

-- a refusal's number is 1 to 7
abbrev NoUpTo7 : Read → Type 0
NoUpTo7 (Fabric s) = Unit {0}
NoUpTo7 (No number place) = (1 ≤ number) × (number ≤ 7)

or_else_up_to : (q place : ℕ) (next : Read) → q ≤ 7 → NoUpTo7 next → NoUpTo7 (or_else q place next)
or_else_up_to zero place next l n = n
or_else_up_to (suc q) place next l n = rw (eqb-suc-zero q) (omega arith, l)

asked_up_to : (f : List ℕ) (s : Passed) → asked f s ≤ 7
unfolding asked
asked_up_to f s =
    first_no_up_to 7
    (3 asks in_order f s ∷ 4 asks ports_right f s ∷ 5 asks sets_tidy f s ∷ 6 asks link_free f s ∷ 7 asks within_limits f s ∷ [])
    (omega arith, (omega arith, (omega arith, (omega arith, (omega arith, tt)))))

records_up_to : (k : ℕ) (f : List ℕ) (s : Passed) → NoUpTo7 (records k f s)
unfolding records
records_up_to zero f s = (omega arith, omega arith)
records_up_to (suc k) f s =
    or_else_up_to (asked f s) s.place _ (asked_up_to f s)
    (at_end (eqb (kind f s) 5) (records_up_to k f (passed f s)))
  where
    at_end : (b : Bool) → NoUpTo7 (records k f (passed f s))
        → NoUpTo7 (pick b (Fabric (shape_of (width_in f) s)) (records k f (passed f s)))
    at_end true later = tt
    at_end false later = later

pub refused_number : (w : ℕ) (f : List ℕ) (number place : ℕ) → accepted w f ≡ No number place → (1 ≤ number) × (number ≤ 7)
unfolding accepted
refused_number w f number place e =
    subst NoUpTo7 e
    (or_else_up_to (first_no first_two) 0 _ (first_no_up_to 7 first_two (omega arith, (omega arith, tt)))
    (records_up_to (words_in f) f after_start))
  where
    first_two : List Question
    first_two = 1 asks sized w f ∷ 2 asks started w f ∷ []
