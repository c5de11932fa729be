-- `put_header` meets its contract: the first four words and, of eight, the last four behind them.
use mathlib.Core.Path.{◌≡◌, ap, ◌∙◌}
use Prim.Native.Nat.{◌+◌}
use native.Mathlib.Omega.{arith}
use Rattle.layout.specs.Versions.{header_words}
use Rattle.layout.proofs.Widths.{version_width}
use Rattle.wide.proofs.Arrays.{header_halves}
use Rattle.answer.specs.Answer.{written_at}
use Rattle.answer.proofs.Written.{written_both}
use Rattle.answer.proofs.put_header.Goals as goal

pub returns-in-Two : goal.returns-in-Two
returns-in-Two c =
    let a = c.args in
    let f = header_halves a.h c.well_formed.1.1.1.0 in
    let wide : header_words a.version ≡ 8 = ap header_words c.in-Two.is in
    c.put_words-in-Two.ensures ∙ ap (written_at (a.at + 4) a.h.high) c.put_words.ensures
    ∙ written_both a.at (header_words a.version) a.h.low a.h.high a.area.now
    (version_width a.version) f.low.long f.high.long c.requires (λ e. absurd (omega (arith, wide, e)))
