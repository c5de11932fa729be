-- Each byte is below 256, so the four are what `word_at` says.
use Rattle.std.proofs.Common.{ℕ, ◌+◌, ◌*◌, get_or, Fits, w8, rules, arith}
use Rattle.layout.specs.Words.{word_at}
use Rattle.records.proofs.word.Goals as goal

pub returns : goal.returns
unfolding word_at
returns c =
    let i : ℕ = c.args.k * 4 in
    let a : Fits w8 (get_or c.args.file.now i 0) = search rules in
    let b : Fits w8 (get_or c.args.file.now (i + 1) 0) = search rules in
    let d : Fits w8 (get_or c.args.file.now (i + 2) 0) = search rules in
    let e : Fits w8 (get_or c.args.file.now (i + 3) 0) = search rules in
    omega (arith, a.fits, b.fits, d.fits, e.fits, c.from_le_bytes.ensures)
