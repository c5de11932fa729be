-- Booleans: what a conjunction says, and identities that hold at every value, found by computing all of them. Assumes nothing.
use mathlib.Core.Bool.{Bool, true, false, not, ◌&&◌, false≢true}
use mathlib.Core.Path.{◌≡◌, refl, sym}
use lib.Dec.{T}

infixr 3 ◌⇒◌
infix 5 ◌==◌
abbrev pub ◌⇒◌ : Bool → Bool → Bool
◌⇒◌ true b = b
◌⇒◌ false b = true

abbrev pub ◌==◌ : Bool → Bool → Bool
◌==◌ true b = b
◌==◌ false b = not b

pub and_fst : (a b : Bool) → (a && b) ≡ true → a ≡ true
and_fst true b e = refl
and_fst false b e = e

pub and_snd : (a b : Bool) → (a && b) ≡ true → b ≡ true
and_snd true b e = e
and_snd false b e = absurd (false≢true e)

-- two tests that pass together are equal
pub both_ways : (a b : Bool) → (a ≡ true → b ≡ true) → (b ≡ true → a ≡ true) → a ≡ b
both_ways true b f g = sym (f refl)
both_ways false true f g = g refl
both_ways false false f g = refl

-- a test that is refuted is false
pub refuted : (a : Bool) → (a ≡ true → ⊥) → a ≡ false
refuted true f = absurd (f refl)
refuted false f = refl

pub same_true : (a b : Bool) → (a == b) ≡ true → a ≡ b
same_true true b e = sym e
same_true false true e = absurd (false≢true e)
same_true false false e = refl

pub true_same : (a b : Bool) → a ≡ b → (a == b) ≡ true
true_same true b e = sym e
true_same false true e = absurd (false≢true e)
true_same false false e = refl

pub implied : (a b : Bool) → (a ⇒ b) ≡ true → a ≡ true → b ≡ true
implied true b e h = e
implied false b e h = absurd (false≢true h)

pub implies : (a b : Bool) → (a ≡ true → b ≡ true) → (a ⇒ b) ≡ true
implies true b f = f refl
implies false b f = refl

-- ---- identities

-- f passes at both values
abbrev pub both : (Bool → Bool) → Bool
both f = f true && f false

left : (a b : Bool) → T (a && b) → T a
left true b h = tt
left false b h = h

right : (a b : Bool) → T (a && b) → T b
right true b h = h
right false b h = absurd h

at : (f : Bool → Bool) → T (both f) → (a : Bool) → T (f a)
at f h true = left (f true) (f false) h
at f h false = right (f true) (f false) h

is_true : (a : Bool) → T a → a ≡ true
is_true true t = refl
is_true false t = absurd t

-- an identity in five Booleans, by its 32 cases
pub always : (f : Bool → Bool → Bool → Bool → Bool → Bool)
    → T (both λ a. both λ b. both λ c. both λ d. both λ e. f a b c d e)
    → (a b c d e : Bool) → f a b c d e ≡ true
always f h a b c d e =
    is_true (f a b c d e)
    (at (λ e. f a b c d e)
    (at (λ d. both λ e. f a b c d e)
    (at (λ c. both λ d. both λ e. f a b c d e)
    (at (λ b. both λ c. both λ d. both λ e. f a b c d e)
    (at (λ a. both λ b. both λ c. both λ d. both λ e. f a b c d e) h a)
    b) c) d) e)
