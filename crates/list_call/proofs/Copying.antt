-- Words copied from where they were written. Assumes nothing.
use mathlib.Core.List.{List, ◌++◌}
use mathlib.Core.Path.{◌≡◌, ap, ◌∙◌}
use Prim.Native.Nat.{ℕ, ◌+◌, ◌*◌}
use native.Mathlib.Omega.{arith}
use lib.ListN.{length, take, drop}
use lib.Seq.{take_at}
use Rattle.answer.specs.Answer.{written_at, bytes_of}
use Rattle.answer.proofs.Written.{bytes_length}

-- words written in one place are, copied from there, written in the other
pub words_copied : (ws own area : List ℕ) {words : ℕ} {bytes last : List ℕ} → words ≡ length ws → bytes ≡ written_at 0 ws own
    → last ≡ take (4 * words) bytes ++ drop (4 * words) area → last ≡ written_at 0 ws area
unfolding written_at
words_copied ws own area {words} {bytes} are written copied =
    let z : 0 + length ws ≡ length ws = omega arith in
    let whole = take_at (bytes_of ws) (drop (4 * length ws) own) (4 * length ws) (bytes_length ws) in
    copied ∙ rw (are, written, z) (ap (λ (l : List ℕ). l ++ drop (4 * length ws) area) whole)
