-- `put_isolated` meets its contract: the words written are those of 'isolated'.
use mathlib.Core.List.{List, ◌∷◌}
use mathlib.Core.Path.{◌≡◌, refl, ap, ◌∙◌}
use Prim.Native.Nat.{ℕ, ◌-◌}
use native.Mathlib.Omega.{arith}
use lib.ListN.{length, take, replicate}
use lib.Seq.{length-take-le}
use Rattle.answer.specs.Answer.{answer_words, written_at}
use Rattle.layout.specs.Records.{Width}
use Rattle.layout.specs.Versions.{header_words}
use Rattle.layout.proofs.Widths.{by_width, version_width}
use Rattle.forwarding.specs.Verdict.{isolated}
use Rattle.calls.specs.Verdict.{verdict_words}
use Rattle.verdict_call.proofs.put_isolated.Goals as goal

-- the first words of 28 are those of a verdict
isolated-words : (units n w : ℕ) → Width w → n ≡ answer_words w → take n (0 ∷ units ∷ replicate 26 0) ≡ verdict_words w
    (isolated units)
unfolding verdict_words
isolated-words units n w width e =
    rw e
    (by_width (λ w. take (answer_words w) (0 ∷ units ∷ replicate 26 0) ≡ 0 ∷ units ∷ replicate (answer_words w - 2) 0) refl refl
    w width)

-- so many of 28 are written
written_long : {n w : ℕ} (units : ℕ) → Width w → n ≡ answer_words w → length (take n (0 ∷ units ∷ replicate 26 0)) ≡ n
written_long {n = n} units width e = length-take-le {A = ℕ} n (0 ∷ units ∷ replicate 26 0) (omega (arith, width.high))

pub put_words-requires : goal.put_words-requires
put_words-requires c =
    let e = c.answer_words-n.ensures in
    omega (arith, written_long c.args.units (version_width c.args.version) e, e, c.requires)

pub returns : goal.returns
returns c =
    c.put_words.ensures
    ∙ ap (λ (l : List ℕ). written_at 0 l c.args.area.now)
    (isolated-words c.args.units _ (header_words c.args.version) (version_width c.args.version) c.answer_words-n.ensures)
