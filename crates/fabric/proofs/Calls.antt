-- Each call reads the file first, and answers a file that is not accepted with its number and place; and a call that succeeds had a yes to
-- every question. Assumes nothing.
use mathlib.Core.List.{List}
use mathlib.Core.Path.{◌≡◌, refl, sym, subst}
use Prim.Native.Nat.{ℕ, zero, suc, ◌+◌, ◌*◌, ◌%◌, ◌≤◌}
use native.Mathlib.Omega.{arith}
use lib.Dec.{eqb-suc-zero}
use Rattle.answer.specs.Answer.{Outcome, refused, answered}
use Rattle.layout.specs.Records.{Width}
use Rattle.layout.specs.Shape.{Shape}
use Rattle.questions.specs.Questions.{accepted, first_no}
use Rattle.questions.specs.Read.{Read}
use Rattle.questions.specs.Read.{Fabric, No}
use Rattle.questions.proofs.Numbers.{UpTo, first_no_up_to, refused_number}
use Rattle.forwarding.specs.Fabric as Forwarding
use Rattle.model.specs.Model.{fabric_in}
use Rattle.calls.specs.Questions.{Query, or_refused}
use Rattle.calls.specs.Verdict.{verdict_call}
use Rattle.calls.specs.List.{list_call}
use Rattle.calls.specs.Run.{run_call}
use Rattle.calls.proofs.Asking.{Yeses, Numbered, all_yes}
use Rattle.fabric.specs.Calls.{questions_of, words_of, answer_of, call_of}
use Rattle.fabric.specs.declared.Call.{Call}
use Rattle.fabric.specs.declared.Call.TheVariants as Calls

pub call_answers : (c : Call) (w : ℕ) (f : List ℕ) (q : Query) (area : List ℕ)
    → answer_of c f q (accepted w f) area ≡ call_of c w f q area
unfolding verdict_call list_call run_call
call_answers Calls.Verdict w f q area = refl
call_answers Calls.List w f q area = refl
call_answers Calls.Run w f q area = refl

-- ---- success

-- a question's number is 1 to 13
questions_numbered : (c : Call) (F : Forwarding.Fabric) (q : Query) (area : List ℕ) → Numbered (questions_of c F q area)
questions_numbered Calls.Verdict F q area = (omega arith, (omega arith, (omega arith, (omega arith, (omega arith, tt)))))
questions_numbered Calls.List F q area = (omega arith, (omega arith, (omega arith, (omega arith, (omega arith, tt)))))
questions_numbered Calls.Run F q area = (omega arith, (omega arith, (omega arith, (omega arith, tt))))

questions_up_to : (c : Call) (F : Forwarding.Fabric) (q : Query) (area : List ℕ) → UpTo 13 (questions_of c F q area)
questions_up_to Calls.Verdict F q area = (omega arith, (omega arith, (omega arith, (omega arith, (omega arith, tt)))))
questions_up_to Calls.List F q area = (omega arith, (omega arith, (omega arith, (omega arith, (omega arith, tt)))))
questions_up_to Calls.Run F q area = (omega arith, (omega arith, (omega arith, (omega arith, tt))))

-- the file is accepted by the call, and every question of the call gets a yes
pub record AllYes (c : Call) (w : ℕ) (f : List ℕ) (q : Query) (area : List ℕ) : Type 0 where
  pub shape : Shape
  pub is_read : accepted w f ≡ Fabric shape
  pub no_no : first_no (questions_of c (fabric_in f) q area) ≡ 0
  pub yeses : Yeses (questions_of c (fabric_in f) q area)

pub succeeded : (c : Call) (w : ℕ) → Width w → (f : List ℕ) (q : Query) (area : List ℕ)
    → (call_of c w f q area).returned % 256 ≡ 0
    → AllYes c w f q area
unfolding refused
succeeded c w width f q area e =
    by_reading (accepted w f) refl (subst (λ (o : Outcome). o.returned % 256 ≡ 0) (sym (call_answers c w f q area)) e)
  where
    yeses : first_no (questions_of c (fabric_in f) q area) ≡ 0 → Yeses (questions_of c (fabric_in f) q area)
    yeses = all_yes (questions_of c (fabric_in f) q area) (questions_numbered c (fabric_in f) q area)

    low : first_no (questions_of c (fabric_in f) q area) ≤ 13
    low = first_no_up_to 13 (questions_of c (fabric_in f) q area) (questions_up_to c (fabric_in f) q area)

    by_questions : (s : Shape) → accepted w f ≡ Fabric s → (n : ℕ) → first_no (questions_of c (fabric_in f) q area) ≡ n
        → (or_refused n area (answered (words_of c (fabric_in f) q) area)).returned % 256 ≡ 0 → AllYes c w f q area
    by_questions s ok zero d e =
        record { shape = s; is_read = ok; no_no = d; yeses = yeses d }
    by_questions s ok (suc n) d e =
        let r : (0 * 256 + suc n) % 256 ≡ 0 = rw (eqb-suc-zero n) at e in
        absurd (omega (arith, low))

    by_reading : (r : Read) → accepted w f ≡ r → (answer_of c f q r area).returned % 256 ≡ 0 → AllYes c w f q area
    by_reading (No number place) d e = absurd (let n = refused_number w f number place d in omega (arith, n))
    by_reading (Fabric s) d e = by_questions s d (first_no (questions_of c (fabric_in f) q area)) refl e
