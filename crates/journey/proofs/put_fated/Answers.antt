-- `put_fated` meets its contract: three runs of words, one after the other, are written together.
use mathlib.Core.List.{List, [], ◌∷◌}
use mathlib.Core.Path.{◌≡◌, refl, ap, ap₂, ◌∙◌}
use Prim.Native.Nat.{ℕ, ◌+◌}
use borrow.Author.Rules.{rules}
use lib.ListN.{length, take, length-append}
use lib.Seq.{length-take-le}
use native.Mathlib.Omega.{arith}
use Rattle.layout.specs.Records.{half, Width}
use Rattle.layout.specs.Versions.{header_words}
use Rattle.layout.proofs.Widths.{version_width}
use Rattle.answer.specs.Answer.{written_at}
use Rattle.answer.proofs.Written.{written_three}
use Rattle.wide.specs.Forms.{words_of}
use Rattle.wide.specs.declared.WideHeader.{WideHeader}
use Rattle.journey.proofs.put_fated.Goals as goal

-- the header's words that are written
shown : {w : ℕ} → Width w → (h : WideHeader) → length h.low ≡ half → length h.high ≡ half
    → length (take w (words_of h)) ≡ w
shown {w = w} width h low high = length-take-le w (words_of h) (omega (arith, length-append h.low h.high, width.high))

pub returns : goal.returns
returns c =
    let j = c.args.j in
    let w = header_words c.args.version in
    let places : length j.entries ≡ 16 = search rules in
    c.put_words-2.ensures
    ∙ ap₂ (λ (n : ℕ) (x : List ℕ). written_at (4 + n) j.entries x) c.words.ensures
    (c.put_header.ensures ∙ ap (written_at 4 (take w (words_of j.header))) c.put_words.ensures)
    ∙ written_three (c.args.fate ∷ 0 ∷ j.port ∷ j.hops ∷ []) (take w (words_of j.header)) j.entries c.args.area.now
    4 w refl (shown (version_width c.args.version) j.header (search rules) (search rules)) (omega (arith, places, c.requires.in_bounds))
