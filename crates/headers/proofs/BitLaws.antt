-- The bits of `&`, `|`, `!` and of single-bit words; words with the same bits are equal. Assumes nothing.
use mathlib.Core.Path.{◌≡◌, refl, sym, ap, ◌∙◌}
use mathlib.Core.Bool.{true, false, not, ◌&&◌, ◌||◌, true≢false, false≢true}
use Prim.Native.Nat.{ℕ, zero, suc, ◌+◌, ◌-◌, ◌*◌, ◌/◌, ◌%◌, ◌^◌, ◌≤◌, ◌<◌}
use native.Mathlib.Nat.{pow-suc, mod-lt, div-div-eq-div-mul, mul_comm, div-one, mul-div_cancel, mul-mod_left, div-eq_of_lt, lt_of_lt_of_le}
use native.Mathlib.Nat.{div-lt_iff_lt-mul, le-div_iff_mul-le}
use native.Mathlib.Omega.{arith}
use lib.Arith.{bin_ind}
use lib.Bits.{bit_and, bit_or, and_shr, or_shr, and_mod, or_mod}
use lib.Dec.{eqb, eqb-zero-suc, eqb-suc-zero, eqb-suc-suc}
use lib.Pow.{pow_pos, pow_mono}
use Rattle.headers.specs.Bits.{bit}

-- ---- one binary digit

digit_and : (x y : ℕ) → x < 2 → y < 2 → eqb (bit_and x y) 1 ≡ (eqb x 1 && eqb y 1)
digit_and zero y hx hy = refl
digit_and (suc zero) zero hx hy = refl
digit_and (suc zero) (suc zero) hx hy = refl
digit_and (suc zero) (suc (suc y)) hx hy = absurd (omega arith)
digit_and (suc (suc x)) y hx hy = absurd (omega arith)

digit_or : (x y : ℕ) → x < 2 → y < 2 → eqb (bit_or x y) 1 ≡ (eqb x 1 || eqb y 1)
digit_or zero y hx hy = refl
digit_or (suc zero) zero hx hy = refl
digit_or (suc zero) (suc zero) hx hy = refl
digit_or (suc zero) (suc (suc y)) hx hy = absurd (omega arith)
digit_or (suc (suc x)) y hx hy = absurd (omega arith)

digit_not : (x y : ℕ) → x + y ≡ 1 → eqb x 1 ≡ not (eqb y 1)
digit_not zero y h = ap (λ (z : ℕ). not (eqb z 1)) (let e : 1 ≡ y = omega arith in e)
digit_not (suc x) y h =
    ap (λ (p : ℕ). eqb p 1) (let e : suc x ≡ 1 = omega arith in e)
    ∙ ap (λ (z : ℕ). not (eqb z 1)) (let e : 0 ≡ y = omega arith in e)

digit_same : (x y : ℕ) → x < 2 → y < 2 → eqb x 1 ≡ eqb y 1 → x ≡ y
digit_same zero zero hx hy e = refl
digit_same zero (suc zero) hx hy e = absurd (false≢true e)
digit_same (suc zero) zero hx hy e = absurd (true≢false e)
digit_same (suc zero) (suc zero) hx hy e = refl
digit_same zero (suc (suc y)) hx hy e = absurd (omega arith)
digit_same (suc zero) (suc (suc y)) hx hy e = absurd (omega arith)
digit_same (suc (suc x)) y hx hy e = absurd (omega arith)

-- ---- the bits of a word

two : 0 < 2
two = omega arith

pub bit_and_lem : (a b k : ℕ) → bit (bit_and a b) k ≡ (bit a k && bit b k)
unfolding bit
bit_and_lem a b k =
    ap (λ (x : ℕ). eqb (x % 2) 1) (and_shr a b k)
    ∙ ap (λ (x : ℕ). eqb x 1) (and_mod (a / 2 ^ k) (b / 2 ^ k) 1)
    ∙ digit_and (a / 2 ^ k % 2) (b / 2 ^ k % 2) (mod-lt (a / 2 ^ k) two) (mod-lt (b / 2 ^ k) two)

pub bit_or_lem : (a b k : ℕ) → bit (bit_or a b) k ≡ (bit a k || bit b k)
unfolding bit
bit_or_lem a b k =
    ap (λ (x : ℕ). eqb (x % 2) 1) (or_shr a b k)
    ∙ ap (λ (x : ℕ). eqb x 1) (or_mod (a / 2 ^ k) (b / 2 ^ k) 1)
    ∙ digit_or (a / 2 ^ k % 2) (b / 2 ^ k % 2) (mod-lt (a / 2 ^ k) two) (mod-lt (b / 2 ^ k) two)

bit_low : (a : ℕ) → bit a 0 ≡ eqb (a % 2) 1
unfolding bit
bit_low a = ap (λ (x : ℕ). eqb (x % 2) 1) (div-one a)

bit_suc : (a k : ℕ) → bit a (suc k) ≡ bit (a / 2) k
unfolding bit
bit_suc a k =
    ap (λ (x : ℕ). eqb (x % 2) 1)
    (ap (λ (x : ℕ). a / x) (pow-suc 2 k ∙ mul_comm (2 ^ k) 2) ∙ sym (div-div-eq-div-mul a 2 (2 ^ k)))

pub bit_zero : (k : ℕ) → bit 0 k ≡ false
unfolding bit
bit_zero zero = refl
bit_zero (suc k) = bit_suc 0 k ∙ bit_zero k

same_halves : (a b : ℕ) → a / 2 ≡ b / 2 → bit a 0 ≡ bit b 0 → a ≡ b
same_halves a b p q =
    let e : a % 2 ≡ b % 2 = digit_same (a % 2) (b % 2) (mod-lt a two) (mod-lt b two) (sym (bit_low a) ∙ q ∙ bit_low b) in
    omega arith

no_bits : (b : ℕ) → ((k : ℕ) → bit b k ≡ false) → b ≡ 0
no_bits =
    bin_ind (λ (b : ℕ). ((k : ℕ) → bit b k ≡ false) → b ≡ 0) (λ h. refl)
    (λ b ih h. same_halves b 0 (ih (λ k. sym (bit_suc b k) ∙ h (suc k))) (h 0 ∙ sym (bit_zero 0)))

-- two numbers with the same bits are equal
pub bit_ext : (a b : ℕ) → ((k : ℕ) → bit a k ≡ bit b k) → a ≡ b
bit_ext =
    bin_ind (λ (a : ℕ). (b : ℕ) → ((k : ℕ) → bit a k ≡ bit b k) → a ≡ b)
    (λ b h. sym (no_bits b (λ k. sym (h k) ∙ bit_zero k)))
    (λ a ih b h. same_halves a b (ih (b / 2) (λ k. sym (bit_suc a k) ∙ h (suc k) ∙ bit_suc b k)) (h 0))

-- the word with bit j alone
pub bit_single : (j k : ℕ) → bit (2 ^ j) k ≡ eqb j k
unfolding bit
bit_single zero zero = refl
bit_single zero (suc k) = bit_suc 1 k ∙ bit_zero k ∙ sym (eqb-zero-suc k)
bit_single (suc j) zero =
    bit_low (2 ^ suc j)
    ∙ ap (λ (x : ℕ). eqb (x % 2) 1) (pow-suc 2 j)
    ∙ ap (λ (x : ℕ). eqb x 1) (mul-mod_left (2 ^ j) 2)
    ∙ sym (eqb-suc-zero j)
bit_single (suc j) (suc k) =
    bit_suc (2 ^ suc j) k
    ∙ ap (λ (x : ℕ). bit x k) (ap (λ (x : ℕ). x / 2) (pow-suc 2 j) ∙ mul-div_cancel (2 ^ j) two)
    ∙ bit_single j k
    ∙ sym (eqb-suc-suc j k)

-- past a word's width
pub bit_high : {a : ℕ} (w k : ℕ) → a < 2 ^ w → w ≤ k → bit a k ≡ false
unfolding bit
bit_high w k h l = ap (λ (x : ℕ). eqb (x % 2) 1) (div-eq_of_lt (lt_of_lt_of_le h (pow_mono l)))

-- the highest bit of a number below 2 ^ (j + 1) and not below 2 ^ j
pub bit_top : (a j : ℕ) → 2 ^ j ≤ a → a < 2 ^ suc j → bit a j ≡ true
unfolding bit
bit_top a j l h =
    let low : 1 ≤ a / 2 ^ j = (le-div_iff_mul-le (pow_pos j)).1 (let e : 1 * 2 ^ j ≤ a = omega arith in e) in
    let high : a / 2 ^ j < 2 = (div-lt_iff_lt-mul (pow_pos j)).1 (let p : 2 ^ suc j ≡ 2 ^ j * 2 = pow-suc 2 j in let e : a < 2 * 2 ^ j =
    omega arith in e) in
    ap (λ (x : ℕ). eqb (x % 2) 1) (let e : a / 2 ^ j ≡ 1 = omega arith in e)

-- the complement at a width
pub bit_not_lem : (w a k : ℕ) → a < 2 ^ w → k < w → bit ((2 ^ w - 1) - a) k ≡ not (bit a k)
bit_not_lem zero a k h l = absurd (omega arith)
bit_not_lem (suc w) a zero h l =
    let p : 2 ^ suc w ≡ 2 ^ w * 2 = pow-suc 2 w in
    bit_low ((2 ^ suc w - 1) - a) ∙ digit_not (((2 ^ suc w - 1) - a) % 2) (a % 2) (omega arith) ∙ ap not (sym (bit_low a))
bit_not_lem (suc w) a (suc k) h l =
    let p : 2 ^ suc w ≡ 2 ^ w * 2 = pow-suc 2 w in
    bit_suc ((2 ^ suc w - 1) - a) k
    ∙ ap (λ (x : ℕ). bit x k) (let e : ((2 ^ suc w - 1) - a) / 2 ≡ (2 ^ w - 1) - a / 2 = omega arith in e)
    ∙ bit_not_lem w (a / 2) k (omega arith) (omega arith)
    ∙ ap not (sym (bit_suc a k))
