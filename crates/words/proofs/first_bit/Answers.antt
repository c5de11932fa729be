-- The first word that is not 0 holds the first set bit, its highest.
use Rattle.std.proofs.Common.{◌≡◌, ℕ, ◌<◌, ◌≤◌, List, None, Bool, true, false, not, ◌==◌, length, position}
use Rattle.std.proofs.Common.{Fits, w32, sym, ◌∙◌, eq-eqb, rules, arith}
use Rattle.std.specs.List.{position_or_len}
use Rattle.std.proofs.lemmas.Grind.{common_steps}
use Rattle.std.proofs.lemmas.List.Quantifiers.{position-Some}
use Rattle.std.proofs.lemmas.List.Sums.{fails_before_first}
use Rattle.headers.specs.Bits.{word, Words}
use Rattle.headers.proofs.Positions.{every_of, array_words}
use Rattle.headers.proofs.SetBits.{first_bit_in, first_bit_none}
use Rattle.words.proofs.first_bit.Goals as goal

abbrev some_bit : ℕ → Bool
some_bit w = not (w == 0)

zero_word : (w : ℕ) → some_bit w ≡ false → w ≡ 0
zero_word w e = grind (arith, common_steps)

set_word : (w : ℕ) → some_bit w ≡ true → 0 < w
set_word w e = grind (arith, common_steps)

-- where none is first, all are 0
none_first : (x : List ℕ) → position some_bit x ≡ None → (v : ℕ) → v < length x → word x v ≡ 0
none_first x e v l =
    let past : length x ≤ position_or_len some_bit x = grind (arith, common_steps) in
    zero_word _ (fails_before_first some_bit x v 0 (omega arith))

pub returns-in-Some : goal.returns-in-Some
returns-in-Some c =
    let x : List ℕ = c.args.x in
    let found = position-Some some_bit x c.in-Some.i 0 (sym c.first_word.ensures ∙ c.in-Some.is) in
    let long : length x ≡ 4 = search rules in
    let h : Fits w32 (word x c.in-Some.i) = search rules in
    c.alone.ensures
    ∙ rw c.top.ensures
    (sym (first_bit_in 4 x c.in-Some.i (omega (arith, found.0, long)) (λ v l. zero_word _ (found.2 v l)) (set_word _ found.1) h.fits))

pub returns-in-None : goal.returns-in-None
returns-in-None c =
    let x : List ℕ = c.args.x in
    let long : length x ≡ 4 = search rules in
    let w : Words 4 x = array_words 4 _ (search rules) (λ w. search rules) in
    sym (first_bit_none 4 x w
    (every_of 4 _ (λ v l. eq-eqb _ _ (none_first x (sym c.first_word.ensures ∙ c.in-None.is) v (omega (arith, l, long))))))
