-- What the words of 'isolated' say, read back from the area.
use mathlib.Core.Path.{◌≡◌, ◌∙◌}
use mathlib.Core.List.{List}
use Prim.Native.Nat.{ℕ, zero, suc, ◌-◌, ◌^◌, ◌≤◌, ◌<◌}
use native.Mathlib.Omega.{arith}
use lib.ListN.{length, get_or-replicate, length-replicate}
use Rattle.headers.specs.Bits.{word}
use Rattle.answer.specs.Answer.{answer_words, answered}
use Rattle.forwarding.specs.Verdict.{isolated}
use Rattle.calls.specs.Verdict.{verdict_words}
use Rattle.fabric.specs.Demands.{said}
use Rattle.fabric.proofs.Said.{Fit}
use Rattle.fabric.proofs.AnswerSaid.{fit_zeros, said_word}

module _ (n u : ℕ) (area : List ℕ) (low : u < 2 ^ 32) where
  isolated_fit : Fit (verdict_words n (isolated u))
  unfolding verdict_words
  isolated_fit = (omega arith, (low, fit_zeros (answer_words n - 2)))

  pub isolated_long : length (verdict_words n (isolated u)) ≡ answer_words n
  unfolding verdict_words
  isolated_long = omega (arith, length-replicate {A = ℕ} (answer_words n - 2) 0)

  isolated_word : (k : ℕ) → k < answer_words n
      → said (answered (verdict_words n (isolated u)) area) k ≡ word (verdict_words n (isolated u)) k
  isolated_word k l = said_word (verdict_words n (isolated u)) area isolated_fit k (omega (arith, isolated_long))

  pub isolated_word_0 : said (answered (verdict_words n (isolated u)) area) 0 ≡ 0
  unfolding verdict_words
  isolated_word_0 = isolated_word 0 (omega arith)

  pub isolated_units_said : said (answered (verdict_words n (isolated u)) area) 1 ≡ u
  unfolding verdict_words
  isolated_units_said = isolated_word 1 (omega arith)

  pub isolated_rest_said : (k : ℕ) → 2 ≤ k → k < answer_words n → said (answered (verdict_words n (isolated u)) area) k ≡ 0
  unfolding verdict_words
  isolated_rest_said zero l h = absurd (omega arith)
  isolated_rest_said (suc zero) l h = absurd (omega arith)
  isolated_rest_said (suc (suc k)) l h = isolated_word (suc (suc k)) h ∙ get_or-replicate (answer_words n - 2) k 0 0 (omega arith)
