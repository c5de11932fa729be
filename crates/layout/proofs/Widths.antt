-- A file's width is one of two (document 02, 2.6), and a set of as many words is made of halves of four.
use mathlib.Core.Bool.{Bool, true, false, cond}
use mathlib.Core.List.{List, ◌++◌}
use mathlib.Core.Path.{◌≡◌, refl, sym, ap, ◌∙◌, subst}
use Prim.Native.Nat.{ℕ, ◌+◌, ◌-◌, ◌*◌}
use native.Mathlib.Decide.{ℕ_discrete}
use native.Mathlib.Omega.{arith}
use lib.Dec.{eqb}
use Rattle.headers.specs.Sets.{beside, padded}
use Rattle.headers.proofs.Beside.{words_beside}
use Rattle.layout.specs.Words.{word_at, words_from, version_of}
use Rattle.layout.specs.Records.{half, Width, width_in, set_from, low_from, high_from}
use Rattle.layout.specs.Versions.{header_words}
use Rattle.layout.specs.declared.Version.{Version}
use Rattle.layout.specs.declared.Version.TheVariants.{One, Two}

-- what holds of four words and of eight
pub by_width : (P : ℕ → Type 0) → P 4 → P 8 → (w : ℕ) → Width w → P w
by_width P p q w d = go (ℕ_discrete w 4)
  where
    go : Dec (w ≡ 4) → P w
    go (yes e) = subst P (sym e) p
    go (no e) = let h : 8 ≡ w = omega arith in subst P h q

pub width_is : (f : List ℕ) → Width (width_in f)
unfolding width_in
width_is f = go (eqb (version_of (word_at f 0)) 2)
  where
    go : (b : Bool) → Width (cond b (2 * half) half)
    go true = record { low = omega arith; high = omega arith; halves = refl }
    go false = record { low = omega arith; high = omega arith; halves = refl }

pub width_said : (f : List ℕ) {w : ℕ} → w ≡ width_in f → Width w
width_said f e = rw e (width_is f)

-- the words of either version
pub version_width : (v : Version) → Width (header_words v)
version_width One = record { low = omega arith; high = omega arith; halves = refl }
version_width Two = record { low = omega arith; high = omega arith; halves = refl }

-- ---- halves

module _ (f : List ℕ) where
  abbrev from : ℕ → ℕ → ℕ
  from k w = word_at f (k + w)

  words_halved : (k : ℕ) → words_from 8 f k ≡ words_from 4 f k ++ words_from 4 f (k + 4)
  words_halved k =
      words_beside 4 4 (from k) (from k) (from (k + 4)) (λ w l. refl)
      (λ w l. ap (word_at f) (let e : k + (4 + w) ≡ k + 4 + w = omega arith in e))

  pub set_halves : (w : ℕ) → Width w → (k : ℕ) → beside (low_from w f k) (high_from w f k) ≡ padded (8 - w) (set_from w f k)
  set_halves w d k = by_width (λ w. beside (low_from w f k) (high_from w f k) ≡ padded (8 - w) (set_from w f k)) refl eight w d
    where
      later : k + 4 + 8 ≡ k + 8 + 4
      later = omega arith

      eight : beside (low_from 8 f k) (high_from 8 f k) ≡ padded 0 (set_from 8 f k)
      eight = λ i. record {
        care = sym (words_halved k) i;
        value = (ap (λ (j : ℕ). words_from 4 f (k + 8) ++ words_from 4 f j) later ∙ sym (words_halved (k + 8))) i;
      }
