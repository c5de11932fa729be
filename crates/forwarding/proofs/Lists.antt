-- Lists: members, sums and counts, and lists put together from lists. Assumes nothing.
use mathlib.Core.Bool.{Bool, true, false, not, ◌&&◌, false≢true, and-true, and_assoc}
use mathlib.Core.List.{List, [], ◌∷◌, ◌++◌, reverse, reverse_aux, reverse-reverse, map, flat_map, append_assoc, map-append}
use mathlib.Core.List.Memᴰ
use mathlib.Core.List.{Memᴰ}
use mathlib.Core.Logic.{◌⊎◌, inl, inr}
use mathlib.Core.Path.{◌≡◌, refl, sym, ap, ap₂, ◌∙◌}
use Prim.Native.Nat.{ℕ, zero, suc, ◌+◌, ◌*◌, ◌≤◌, ◌<◌}
use native.Mathlib.Nat.{add-mul, mul-zero}
use native.Mathlib.Omega.{arith}
use native.Mathlib.Decide.{ℕ_discrete, dec_lt}
use lib.Dec.{eqb, ltb, leb-suc-zero, leb-suc-suc}
use borrow.Author.Tests.{eq-eqb, eqb-true, lt-ltb}
use Rattle.headers.specs.Bits.{every, positions, keep_if, those}
use Rattle.headers.specs.Sets.{Header, Set, contains}
use Rattle.headers.specs.Carving.{one, holders}
use Rattle.headers.proofs.Booleans.{and_fst, and_snd, both_ways}
use Rattle.headers.proofs.Positions.{every_same}
use Rattle.headers.proofs.SetBits.{those_none}
use Rattle.forwarding.specs.Trace.{same}

-- ---- the same list

pub same_refl : (l : List ℕ) → same l l ≡ true
unfolding same
same_refl [] = refl
same_refl (a ∷ l) = ap₂ ◌&&◌ (eq-eqb a a refl) (same_refl l)

pub same_equal : (l m : List ℕ) → same l m ≡ true → l ≡ m
unfolding same
same_equal [] [] e = refl
same_equal [] (b ∷ m) e = absurd (false≢true e)
same_equal (a ∷ l) [] e = absurd (false≢true e)
same_equal (a ∷ l) (b ∷ m) e = ap₂ ◌∷◌ (eqb-true a b (and_fst _ _ e)) (same_equal l m (and_snd (eqb a b) _ e))

pub same_reverse : (l m : List ℕ) → same (reverse l) m ≡ same l (reverse m)
same_reverse l m = both_ways _ _
    (λ e. rw (← same_equal (reverse l) m e, reverse-reverse) (same_refl l))
    (λ e. rw (same_equal l (reverse m) e, reverse-reverse) (same_refl m))

-- ---- every element

abbrev pub All : (ℕ → Type 0) → List ℕ → Type 0
All P [] = Unit {0}
All P (a ∷ l) = P a × All P l

all_reverse_aux : (P : ℕ → Type 0) (l r : List ℕ) → All P l → All P r → All P (reverse_aux l r)
all_reverse_aux P [] r a b = b
all_reverse_aux P (x ∷ l) r a b = all_reverse_aux P l (x ∷ r) a.1 (a.0, b)

pub all_reverse : (P : ℕ → Type 0) (l : List ℕ) → All P (reverse l) → All P l
all_reverse P l a = rw reverse-reverse at (all_reverse_aux P (reverse l) [] a tt)

-- ---- lists put together

module _ {A B : Type 0} where
  pub flat_map_same : (g k : A → List B) → ((a : A) → g a ≡ k a) → (l : List A) → flat_map g l ≡ flat_map k l
  unfolding flat_map
  flat_map_same g k e [] = refl
  flat_map_same g k e (a ∷ l) = ap₂ ◌++◌ (e a) (flat_map_same g k e l)

  pub flat_map_append : (g : A → List B) (a b : List A) → flat_map g (a ++ b) ≡ flat_map g a ++ flat_map g b
  unfolding flat_map
  flat_map_append g [] b = refl
  flat_map_append g (x ∷ a) b = ap (λ (l : List B). g x ++ l) (flat_map_append g a b)
      ∙ sym (append_assoc (g x) (flat_map g a) (flat_map g b))

  pub flat_map_member : (g : A → List B) {b : B} (l : List A) → Memᴰ b (flat_map g l) → (a : A) × Memᴰ a l × Memᴰ b (g a)
  unfolding flat_map
  flat_map_member g [] m = absurd (Memᴰ.not-nil m)
  flat_map_member g {b} (a ∷ l) m = go (Memᴰ.append_cases (g a) m) (flat_map_member g l)
    where
      go : Memᴰ b (g a) ⊎ Memᴰ b (flat_map g l) → (Memᴰ b (flat_map g l) → (c : A) × Memᴰ c l × Memᴰ b (g c))
          → (c : A) × Memᴰ c (a ∷ l) × Memᴰ b (g c)
      go (inl x) ih = (a, Memᴰ.head refl, x)
      go (inr x) ih = let r = ih x in (r.0, Memᴰ.tail r.1, r.2)

module _ {A B C : Type 0} where
  pub flat_map_flat_map : (g : B → List C) (k : A → List B) (l : List A)
      → flat_map g (flat_map k l) ≡ flat_map (λ a. flat_map g (k a)) l
  unfolding flat_map
  flat_map_flat_map g k [] = refl
  flat_map_flat_map g k (a ∷ l) =
      flat_map_append g (k a) (flat_map k l) ∙ ap (λ (m : List C). flat_map g (k a) ++ m) (flat_map_flat_map g k l)

  pub map_flat_map : (g : B → C) (k : A → List B) (l : List A) → map g (flat_map k l) ≡ flat_map (λ a. map g (k a)) l
  unfolding flat_map
  map_flat_map g k [] = refl
  map_flat_map g k (a ∷ l) = map-append g (k a) (flat_map k l) ∙ ap (λ (m : List C). map g (k a) ++ m) (map_flat_map g k l)

-- ---- sums

unfoldable pub total : {A : Type 0} → (A → ℕ) → List A → ℕ
total c [] = 0
total c (a ∷ l) = c a + total c l

module _ {A : Type 0} where
  pub total_append : (c : A → ℕ) (a b : List A) → total c (a ++ b) ≡ total c a + total c b
  unfolding total
  total_append c [] b = omega arith
  total_append c (x ∷ a) b = let e = total_append c a b in omega arith

  -- v times over
  pub total_times : (c d : A → ℕ) (v : ℕ) (l : List A) → ((a : A) → Memᴰ a l → c a ≡ d a * v)
      → total c l ≡ total d l * v
  unfolding total
  total_times c d v [] e = omega arith
  total_times c d v (a ∷ l) e =
      ap₂ ◌+◌ (e a (Memᴰ.head refl)) (total_times c d v l (λ x m. e x (Memᴰ.tail m))) ∙ sym (add-mul (d a) (total d l) v)

  pub total_zero : (c : A → ℕ) (l : List A) → ((a : A) → c a ≡ 0) → total c l ≡ 0
  total_zero c l e = total_times c (λ a. 0) 0 l (λ a m. e a) ∙ mul-zero _

  pub member_total : (c : A → ℕ) {a : A} (l : List A) → Memᴰ a l → c a ≤ total c l
  unfolding total
  member_total c [] m = absurd (Memᴰ.not-nil m)
  member_total c {a} (x ∷ l) m = go (Memᴰ.cases_cons m) (member_total c l)
    where
      go : (a ≡ x) ⊎ Memᴰ a l → (Memᴰ a l → c a ≤ total c l) → c a ≤ c x + total c l
      go (inl e) ih = let d : c a ≡ c x = ap c e in omega arith
      go (inr m) ih = let d = ih m in omega arith

  pub total_member : (c : A → ℕ) (l : List A) → 0 < total c l → (a : A) × Memᴰ a l × (0 < c a)
  unfolding total
  total_member c [] p = absurd (omega arith)
  total_member c (x ∷ l) p = go (dec_lt 0 (c x)) (total_member c l)
    where
      go : Dec (0 < c x) → (0 < total c l → (a : A) × Memᴰ a l × (0 < c a)) → (a : A) × Memᴰ a (x ∷ l) × (0 < c a)
      go (yes q) ih = (x, Memᴰ.head refl, q)
      go (no q) ih = let r = ih (omega arith) in (r.0, Memᴰ.tail r.1, r.2)

module _ {A B : Type 0} where
  pub total_flat_map : (c : B → ℕ) (g : A → List B) (l : List A) → total c (flat_map g l) ≡ total (λ a. total c (g a)) l
  unfolding total flat_map
  total_flat_map c g [] = refl
  total_flat_map c g (a ∷ l) = total_append c (g a) (flat_map g l) ∙ ap (λ (m : ℕ). total c (g a) + m) (total_flat_map c g l)

  pub total_map : (c : B → ℕ) (g : A → B) (l : List A) → total c (map g l) ≡ total (λ a. c (g a)) l
  unfolding total
  total_map c g [] = refl
  total_map c g (a ∷ l) = ap (λ (m : ℕ). c (g a) + m) (total_map c g l)

-- ---- counts

pub one_and : (a b : Bool) → one (a && b) ≡ one a * one b
one_and true true = refl
one_and true false = refl
one_and false b = omega arith

pub one_true : (a : Bool) → 0 < one a → a ≡ true
one_true true l = refl
one_true false l = absurd (omega arith)

pub holders_total : (n : ℕ) (l : List Set) (h : Header) → holders n l h ≡ total (λ s. one (contains n s h)) l
unfolding holders total
holders_total n [] h = refl
holders_total n (s ∷ l) h = ap (λ (m : ℕ). one (contains n s h) + m) (holders_total n l h)

-- ---- those of some numbers that pass a test

total_those : (c : ℕ → ℕ) (t : ℕ → Bool) (l : List ℕ) → total c (those t l) ≡ total (λ a. one (t a) * c a) l
unfolding total those
total_those c t [] = refl
total_those c t (a ∷ l) = go (t a) (total_those c t l)
  where
    go : (b : Bool) → total c (those t l) ≡ total (λ a. one (t a) * c a) l
        → total c (keep_if b a (those t l)) ≡ one b * c a + total (λ a. one (t a) * c a) l
    go true e = omega arith
    go false e = omega arith

total_shift : (c : ℕ → ℕ) (k j : ℕ) → total c (positions k (suc j)) ≡ total (λ a. c (suc a)) (positions k j)
unfolding total positions
total_shift c zero j = refl
total_shift c (suc k) j = ap (λ (m : ℕ). c (suc j) + m) (total_shift c k (suc j))

total_at : (c : ℕ → ℕ) (k e : ℕ) → ((a : ℕ) → ¬ (e ≡ a) → c a ≡ 0) → total c (positions k 0) ≡ one (ltb e k) * c e
unfolding total positions
total_at c zero e z = rw (leb-suc-zero e) (omega arith)
total_at c (suc k) zero z =
    rw (lt-ltb 0 (suc k) (omega arith))
    (let l = total_shift c k 0 ∙ total_zero (λ a. c (suc a)) (positions k 0) (λ a. z (suc a) (λ d. omega arith)) in omega arith)
total_at c (suc k) (suc e) z =
    let h : c 0 ≡ 0 = z 0 (λ d. omega arith) in
    let l = total_shift c k 0 ∙ total_at (λ a. c (suc a)) k e (λ a d. z (suc a) (λ q. d (omega arith))) in
    rw (leb-suc-suc (suc e) k) (omega arith)

-- a sum over them to which only one number adds
pub total_only : (c : ℕ → ℕ) (t : ℕ → Bool) (k e : ℕ) → ((a : ℕ) → ¬ (e ≡ a) → c a ≡ 0)
    → total c (those t (positions k 0)) ≡ one (ltb e k) * (one (t e) * c e)
total_only c t k e z = total_those c t (positions k 0) ∙ total_at (λ a. one (t a) * c a) k e (λ a d. rw (z a d) (mul-zero _))

-- none of them passes another test
unfoldable pub none_of : (ℕ → Bool) → List ℕ → Bool
none_of t [] = true
none_of t (a ∷ l) = not (t a) && none_of t l

every_first : (k : ℕ) (g : ℕ → Bool) → every (suc k) g ≡ (g 0 && every k (λ i. g (suc i)))
every_first zero g = sym (and-true (g 0))
every_first (suc k) g =
    ap (λ (b : Bool). b && g (suc k)) (every_first k g) ∙ and_assoc (g 0) (every k (λ i. g (suc i))) (g (suc k))

pub none_of_those : (s t : ℕ → Bool) (k j : ℕ) → none_of t (those s (positions k j)) ≡ every k
    (λ i. not (s (j + i) && t (j + i)))
unfolding none_of those positions
none_of_those s t zero j = refl
none_of_those s t (suc k) j =
    go (s j)
    ∙ ap₂ (λ (i : ℕ) (b : Bool). not (s i && t i) && b) (let e : j ≡ j + 0 = omega arith in e)
    (none_of_those s t k (suc j)
    ∙ every_same k _ _ (λ i l. ap (λ (m : ℕ). not (s m && t m)) (let e : suc j + i ≡ j + suc i = omega arith in e)))
    ∙ sym (every_first k (λ i. not (s (j + i) && t (j + i))))
  where
    go : (b : Bool) → none_of t (keep_if b j (those s (positions k (suc j)))) ≡
        (not (b && t j) && none_of t (those s (positions k (suc j))))
    go true = refl
    go false = refl

-- ---- members

pub positions_member : (k j e : ℕ) → j ≤ e → e < j + k → Memᴰ e (positions k j)
unfolding positions
positions_member zero j e l m = absurd (omega arith)
positions_member (suc k) j e l m = go (ℕ_discrete e j) (positions_member k (suc j) e)
  where
    go : Dec (e ≡ j) → (suc j ≤ e → e < suc j + k → Memᴰ e (positions k (suc j)))
        → Memᴰ e (j ∷ positions k (suc j))
    go (yes d) ih = Memᴰ.head d
    go (no d) ih = Memᴰ.tail (ih (omega arith) (omega arith))

pub those_member : (t : ℕ → Bool) {a : ℕ} (l : List ℕ) → t a ≡ true → Memᴰ a l → Memᴰ a (those t l)
unfolding those
those_member t [] e m = m
those_member t {a} (b ∷ l) e m = go (Memᴰ.cases_cons m) (t b) refl (those_member t l e)
  where
    go : (a ≡ b) ⊎ Memᴰ a l → (c : Bool) → t b ≡ c → (Memᴰ a l → Memᴰ a (those t l))
        → Memᴰ a (keep_if c b (those t l))
    go (inl d) true q ih = Memᴰ.head d
    go (inl d) false q ih = absurd (false≢true (sym q ∙ ap t (sym d) ∙ e))
    go (inr m) true q ih = Memᴰ.tail (ih m)
    go (inr m) false q ih = ih m

-- the one that passes a test
pub those_one : (t : ℕ → Bool) (k s b : ℕ) → s ≤ b → b < s + k → t b ≡ true
    → ((i : ℕ) → s ≤ i → i < s + k → ¬ (i ≡ b) → t i ≡ false) → those t (positions k s) ≡ b ∷ []
unfolding those positions
those_one t zero s b l m e d = absurd (omega arith)
those_one t (suc k) s b l m e d = go (ℕ_discrete s b) (those_one t k (suc s) b)
  where
    go : Dec (s ≡ b)
        → (suc s ≤ b → b < suc s + k → t b ≡ true
        → ((i : ℕ) → suc s ≤ i → i < suc s + k → ¬ (i ≡ b) → t i ≡ false) → those t (positions k (suc s)) ≡ b ∷ [])
        → keep_if (t s) s (those t (positions k (suc s))) ≡ b ∷ []
    go (yes q) ih = rw (q, e, those_none t k (suc b) (λ i n p. d i (omega arith) (omega arith) (λ z. omega arith)))
    go (no q) ih = rw (d s (omega arith) (omega arith) q) (ih (omega arith) (omega arith) e (λ i n p z. d i (omega arith) (omega arith) z))
