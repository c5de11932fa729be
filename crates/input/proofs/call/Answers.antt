-- `call` meets its contract: question 14 is asked first, and the call that word 0 names is made, in the version that it marks. Assumes
-- nothing.
use mathlib.Core.List.{List}
use mathlib.Core.Path.{◌≡◌, sym, ap, ◌∙◌}
use Prim.Native.Nat.{ℕ, ◌%◌, ◌^◌}
use native.Mathlib.Omega.{arith}
use Rattle.answer.specs.Answer.{refused}
use Rattle.layout.specs.Words.{word_at, bits}
use Rattle.input.specs.Program.{width_marked, call_named}
use Rattle.input.proofs.Calls.{number_below, too_short, too_short_marked, unknown, call_made, named, not_named}
use Rattle.input.proofs.call.Goals as goal

-- the number read is in the bits below the mark
number_of_lem : (input : List ℕ) (x : ℕ) → x ≡ word_at input 0 → call_named (bits 30 0 (word_at input 0)) ≡ call_named
    (x % 2 ^ 31)
number_of_lem input x read = ap call_named (sym (number_below (word_at input 0)) ∙ ap (λ (y : ℕ). y % 2 ^ 31) (sym read))

-- and the version read is the one marked
marked_lem : (input : List ℕ) (x : ℕ) {w : ℕ} → x ≡ word_at input 0 → w ≡ width_marked x
    → width_marked (word_at input 0) ≡ w
marked_lem input x read is = ap width_marked (sym read) ∙ sym is

pub returns-then-input-query_bytes-clause-answers : goal.returns-then-input-query_bytes-clause-answers
unfolding refused
returns-then-input-query_bytes-clause-answers c =
    too_short c.args.input.now c.args.area.now (omega (arith, c.if-input-query_bytes.true, c.query_bytes.ensures))

pub returns-then-input-bytes-clause-answers : goal.returns-then-input-bytes-clause-answers
unfolding refused
returns-then-input-bytes-clause-answers c =
    too_short_marked c.args.input.now c.args.area.now
    (marked_lem c.args.input.now c.word-first.result c.word-first.ensures c.marked-version.ensures)
    (omega (arith, c.if-input-bytes.true, c.query_bytes-bytes.ensures))

pub returns-in_default-clause-answers : goal.returns-in_default-clause-answers
unfolding refused
returns-in_default-clause-answers c =
    unknown c.args.input.now c.args.area.now
    (number_of_lem c.args.input.now c.word-first.result c.word-first.ensures
    ∙ not_named (c.word-first.result % 2 ^ 31) c.in_default.ensures)

pub returns-clause-answers : goal.returns-clause-answers
returns-clause-answers c =
    let a = c.args in
    call_made a.input.now a.area.now
    (marked_lem a.input.now c.word-first.result c.word-first.ensures c.marked-version.ensures)
    c.query_bytes-bytes.ensures c.if-input-bytes.false
    (number_of_lem a.input.now c.word-first.result c.word-first.ensures
    ∙ named (c.word-first.result % 2 ^ 31) c.in-Ok.call c.in-Ok.ensures)
    c.word.ensures c.word-2.ensures c.word-3.ensures c.asked.ensures.narrowed c.answer.ensures.answers
