-- `answer` meets its contract: a refused file is answered with its number and place, and an accepted one by `answer_accepted`.
use mathlib.Core.List.{List}
use mathlib.Core.Path.{◌≡◌, sym, ap, ◌∙◌, subst}
use Prim.Native.Nat.{ℕ, ◌+◌, ◌*◌}
use borrow.Author.Rules.{rules}
use Rattle.answer.specs.Answer.{outcome, refused}
use Rattle.layout.specs.Shape.{Shape}
use Rattle.layout.specs.Versions.{header_words, shape_counted}
use Rattle.layout.specs.declared.Version.{Version}
use Rattle.layout.proofs.Widths.{version_width}
use Rattle.wide.specs.Forms.{wide_of, narrowed, Fits}
use Rattle.questions.specs.Questions.{accepted}
use Rattle.questions.specs.Read.{Read}
use Rattle.questions.specs.Read as Reads
use Rattle.questions.specs.Refusals.{number}
use Rattle.file.specs.Accepted.{Accepted}
use Rattle.file.proofs.Accepted.{accepted_own, words_said}
use Rattle.file.proofs.Sound.{accepted_width}
use Rattle.calls.specs.Questions.{query}
use Rattle.calls.specs.Codes.{code_of, code_at, query_of}
use Rattle.fabric.specs.Calls.{answer_of}
use Rattle.fabric.proofs.Calls.{call_answers}
use Rattle.fabric.proofs.answer.Goals as goal

-- the file is accepted with the shape found, in the call's own version
module _ (version : Version) (f : List ℕ) (s : Shape) (said : Reads.Fabric s ≡ accepted (header_words version) f) where
  found : Accepted f s
  found = accepted_own (header_words version) (version_width version) f s (sym said)

  words_found : s.words ≡ header_words version
  words_found = words_said f s found ∙ sym (accepted_width f (header_words version) (version_width version) s (sym said))

pub answer_accepted-requires-clause-accepted : goal.answer_accepted-requires-clause-accepted
answer_accepted-requires-clause-accepted c = found c.args.version c.args.file.now _ c.in_ok-counts.ensures.value

pub answer_accepted-requires-clause-fits : goal.answer_accepted-requires-clause-fits
answer_accepted-requires-clause-fits c =
    subst (λ (w : ℕ). Fits w (wide_of c.args.query.asked))
    (sym (words_found c.args.version c.args.file.now (shape_counted c.in_ok-counts.counts) c.in_ok-counts.ensures.value)) c.requires

pub returns-in_err-counts-clause-answers : goal.returns-in_err-counts-clause-answers
unfolding refused
returns-in_err-counts-clause-answers c =
    let a = c.args in
    let q = query_of a.version a.query in
    let first = c.in_err-counts.field-0.0 in
    let said : code_at c.from_residual.result ≡ first.place * 256 + number first.refusal = search rules in
    ap (λ (n : ℕ). outcome n a.area.now) said
    ∙ ap (λ (r : Read). answer_of a.call a.file.now q r a.area.now) c.in_err-counts.ensures.value
    ∙ call_answers a.call (header_words a.version) a.file.now q a.area.now

pub returns-clause-answers : goal.returns-clause-answers
returns-clause-answers c =
    let a = c.args in
    let q = query_of a.version a.query in
    let s = shape_counted c.in_ok-counts.counts in
    let said : code_at c.map_err.result ≡ code_of c.answer_accepted.result = search rules in
    ap (λ (n : ℕ). outcome n c.answer_accepted.new.area) said
    ∙ c.answer_accepted.ensures.answers
    ∙ ap (λ (w : ℕ). answer_of a.call a.file.now
    (query a.query.port a.query.limit a.query.budget (narrowed w (wide_of a.query.asked))) (Reads.Fabric s) a.area.now)
    (words_found a.version a.file.now s c.in_ok-counts.ensures.value)
    ∙ ap (λ (r : Read). answer_of a.call a.file.now q r a.area.now) c.in_ok-counts.ensures.value
    ∙ call_answers a.call (header_words a.version) a.file.now q a.area.now
