-- Questions asked in turn, each by what the code said to it alone: 0 for a yes, else the question's number.
use mathlib.Core.Bool.{Bool, true, false}
use mathlib.Core.List.{[], ◌∷◌}
use mathlib.Core.Path.{◌≡◌, refl}
use Prim.Native.Nat.{ℕ, ◌<◌}
use native.Mathlib.Omega.{arith}
use Rattle.questions.specs.Questions.{pick, ◌asks◌, first_no}
use Rattle.questions.specs.Refusals.{number}
use Rattle.questions.specs.declared.Refusal.{Refusal}
use Rattle.questions.specs.declared.Refusal.TheVariants as Refusals

-- no question has the number 0
pub number_above : (r : Refusal) → 0 < number r
number_above Refusals.Size = omega arith
number_above Refusals.Start = omega arith
number_above Refusals.Order = omega arith
number_above Refusals.Ports = omega arith
number_above Refusals.Tidiness = omega arith
number_above Refusals.Ends = omega arith
number_above Refusals.Limits = omega arith
number_above Refusals.Target = omega arith
number_above Refusals.HopLimit = omega arith
number_above Refusals.AskedSet = omega arith
number_above Refusals.StartPort = omega arith
number_above Refusals.Room = omega arith
number_above Refusals.Budget = omega arith
number_above Refusals.Input = omega arith

-- what the code says to a question with the number q: r
abbrev pub Said : Bool → ℕ → ℕ → Type 0
Said b q r = r ≡ pick b 0 q

pub said_yes : (b : Bool) (q : ℕ) → 0 < q → Said b q 0 → b ≡ true
said_yes true q l h = refl
said_yes false q l h = absurd (omega arith)

pub said_no : (b : Bool) (q r : ℕ) → 0 < r → Said b q r → (b ≡ false) × (r ≡ q)
said_no true q r l h = absurd (omega arith)
said_no false q r l h = (refl, h)

-- after a yes the answer is what the later questions say
after_yes : (b : Bool) (q r later : ℕ) → 0 < q → Said b q 0 → r ≡ later → r ≡ pick b later q
after_yes true q r later l h e = e
after_yes false q r later l h e = absurd (omega arith)

-- after a no they say nothing more
at_no : (b : Bool) (q r later : ℕ) → 0 < r → Said b q r → r ≡ pick b later q
at_no true q r later l h = absurd (omega arith)
at_no false q r later l h = h

-- ---- questions 3 to 7: up to the one that got a no, or to the last

-- r is the number of the first no, or 0
pub record InTurn (r : ℕ) (b3 b4 b5 b6 b7 : Bool) : Type 0 where
  pub said : r ≡ first_no (3 asks b3 ∷ 4 asks b4 ∷ 5 asks b5 ∷ 6 asks b6 ∷ 7 asks b7 ∷ [])

module _ (r : ℕ) (b3 b4 b5 b6 b7 : Bool) where
  abbrev Asked : Type 0
  Asked = InTurn r b3 b4 b5 b6 b7

  pub up_to_3 : 0 < r → Said b3 3 r → Asked
  up_to_3 l h3 = record { said = at_no b3 3 r _ l h3 }

  pub up_to_4 : 0 < r → Said b3 3 0 → Said b4 4 r → Asked
  up_to_4 l h3 h4 = record { said = after_yes b3 3 r _ (omega arith) h3 (at_no b4 4 r _ l h4) }

  pub up_to_5 : 0 < r → Said b3 3 0 → Said b4 4 0 → Said b5 5 r → Asked
  up_to_5 l h3 h4 h5 = record { said = after_yes b3 3 r _ (omega arith) h3 (after_yes b4 4 r _ (omega arith) h4 (at_no b5 5 r _ l h5)) }

  pub up_to_6 : 0 < r → Said b3 3 0 → Said b4 4 0 → Said b5 5 0 → Said b6 6 r → Asked
  up_to_6 l h3 h4 h5 h6 = record {
    said = after_yes b3 3 r _ (omega arith) h3
        (after_yes b4 4 r _ (omega arith) h4 (after_yes b5 5 r _ (omega arith) h5 (at_no b6 6 r _ l h6)));
  }

  pub up_to_7 : Said b3 3 0 → Said b4 4 0 → Said b5 5 0 → Said b6 6 0 → Said b7 7 r → Asked
  up_to_7 h3 h4 h5 h6 h7 = record {
    said = after_yes b3 3 r _ (omega arith) h3
        (after_yes b4 4 r _ (omega arith) h4 (after_yes b5 5 r _ (omega arith) h5 (after_yes b6 6 r _ (omega arith) h6 h7)));
  }
