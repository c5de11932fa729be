-- The entries that may take a header, found by one pass over the entries that keeps one of the highest priority so far, and whether
-- another has the same.
use mathlib.Core.Bool.{Bool, true, false, not, ◌&&◌, true≢false, false≢true}
use mathlib.Core.List.Memᴰ
use mathlib.Core.List.{List, [], ◌∷◌, Memᴰ}
use mathlib.Core.Path.{◌≡◌, refl, sym, ap, ap₂, ◌∙◌, subst}
use Prim.Native.Nat.{ℕ, zero, suc, ◌+◌, ◌≤◌, ◌<◌}
use native.Mathlib.Numerals.{add-one}
use native.Mathlib.Decide.{ℕ_discrete, dec_lt}
use native.Mathlib.Omega.{arith}
use borrow.Author.Tests.{eq-eqb, eqb-true}
use lib.Dec.{eqb}
use lib.ListN.{length}
use Rattle.headers.specs.Bits.{positions, those}
use Rattle.headers.specs.Sets.{Header}
use Rattle.headers.proofs.Booleans.{and_fst, and_snd, refuted}
use Rattle.headers.proofs.Positions.{every_at, every_of}
use Rattle.headers.proofs.SetBits.{those_none}
use Rattle.forwarding.specs.Fabric.{Fabric, in_port_of, priority_of, holds, beats}
use Rattle.forwarding.specs.Run.{unbeaten, takes, takers}
use Rattle.forwarding.specs.Choices.{Several}
use Rattle.forwarding.specs.Best.{candidate, Rival, BestSoFar}
use Rattle.forwarding.proofs.Lists.{positions_member, those_member, those_one}
use Rattle.forwarding.proofs.Takers.{higher_beats, beats_means, takes_means, takes_of}

several : (l : List ℕ) (a b : ℕ) → ¬ (a ≡ b) → Memᴰ a l → Memᴰ b l → Several l
several [] a b d m n = absurd (Memᴰ.not-nil m)
several (i ∷ []) a b d m n = absurd (d (Memᴰ.eq_of_singleton m ∙ sym (Memᴰ.eq_of_singleton n)))
several (i ∷ j ∷ l) a b d m n = record { first = i; second = j; rest = l; is = refl }

module _ (f : Fabric) (x : ℕ) (h : Header) where
  pub best_start : BestSoFar f x h 0 f.entries false
  best_start = record {
    nothing = λ n j l. absurd (omega arith);
    below = λ l. absurd (omega arith);
    is_candidate = λ l. absurd (omega arith);
    highest = λ l. absurd (omega arith);
    alone = λ l. absurd (omega arith);
    rival = λ l. absurd (omega arith);
  }

  -- what holds below i and at i holds below i + 1
  one_more : (P : ℕ → Type 0) (i : ℕ) → ((j : ℕ) → j < i → P j) → P i → (j : ℕ) → j < i + 1 → P j
  one_more P i d e j l = go (ℕ_discrete j i)
    where
      go : Dec (j ≡ i) → P j
      go (yes z) = rw z e
      go (no z) = d j (omega arith)

  -- entry j, if it is a candidate, is no higher than b, and is b if it is as high
  abbrev NoHigher : ℕ → ℕ → Type 0
  NoHigher b j = candidate f x h j ≡ true → priority_of f j ≤ priority_of f b

  abbrev Alone : ℕ → ℕ → Type 0
  Alone b j = candidate f x h j ≡ true → priority_of f j ≡ priority_of f b → j ≡ b

  later_rival : {i b : ℕ} → Rival f x h i b → Rival f x h (i + 1) b
  later_rival r = record {
    number = r.number;
    low = omega (arith, r.low);
    other = r.other;
    is_candidate = r.is_candidate;
    equal = r.equal;
  }

  -- entry i is no candidate
  pub best_skip : (i b : ℕ) (t : Bool) → BestSoFar f x h i b t → candidate f x h i ≡ false → BestSoFar f x h (i + 1) b t
  best_skip i b t c e = record {
    nothing = λ n. one_more (λ j. candidate f x h j ≡ false) i (c.nothing n) e;
    below = λ l. omega (arith, c.below l);
    is_candidate = c.is_candidate;
    highest = λ l. one_more (NoHigher b) i (c.highest l) (λ d. absurd (true≢false (sym d ∙ e)));
    alone = λ l z. one_more (Alone b) i (c.alone l z) (λ d. absurd (true≢false (sym d ∙ e)));
    rival = λ l z. later_rival (c.rival l z);
  }

  -- entry i is below the best so far
  pub best_keep : (i b : ℕ) (t : Bool) → BestSoFar f x h i b t → b < f.entries → priority_of f i < priority_of f b
      → BestSoFar f x h (i + 1) b t
  best_keep i b t c m p = record {
    nothing = λ n. absurd (n m);
    below = λ l. omega (arith, c.below l);
    is_candidate = c.is_candidate;
    highest = λ l. one_more (NoHigher b) i (c.highest l) (λ d. omega arith);
    alone = λ l z. one_more (Alone b) i (c.alone l z) (λ d q. absurd (omega arith));
    rival = λ l z. later_rival (c.rival l z);
  }

  -- entry i is a candidate of the same priority
  pub best_tie : (i b : ℕ) (t : Bool) → BestSoFar f x h i b t → b < f.entries → candidate f x h i ≡ true
      → priority_of f i ≡ priority_of f b → BestSoFar f x h (i + 1) b true
  best_tie i b t c m e p = record {
    nothing = λ n. absurd (n m);
    below = λ l. omega (arith, c.below l);
    is_candidate = c.is_candidate;
    highest = λ l. one_more (NoHigher b) i (c.highest l) (λ d. omega arith);
    alone = λ l z. absurd (true≢false z);
    rival = λ l z. record { number = i; low = omega arith; other = λ q. omega (arith, c.below l); is_candidate = e; equal = p };
  }

  -- entry i is a candidate, and the first or of a higher priority than the best so far
  pub best_take : (i b : ℕ) (t : Bool) → BestSoFar f x h i b t → i < f.entries → candidate f x h i ≡ true
      → (b < f.entries → priority_of f b < priority_of f i) → BestSoFar f x h (i + 1) i false
  best_take i b t c n e p = record {
    nothing = λ m. absurd (m n);
    below = λ l. omega arith;
    is_candidate = λ l. e;
    highest = λ l. one_more (NoHigher i) i (λ j m d. omega (arith, lower (dec_lt b f.entries) j m d)) (λ d. omega arith);
    alone = λ l z. one_more (Alone i) i (λ j m d q. absurd (omega (arith, lower (dec_lt b f.entries) j m d))) (λ d q. refl);
    rival = λ l z. absurd (false≢true z);
  }
    where
      lower : Dec (b < f.entries) → (j : ℕ) → j < i → candidate f x h j ≡ true → priority_of f j < priority_of f i
      lower (yes m) j l d = omega (arith, p m, c.highest m j l d)
      lower (no m) j l d = absurd (true≢false (sym d ∙ c.nothing m j l))

  -- ---- the pass is done

  taker_candidate : (e : ℕ) → takes f e x h ≡ true → candidate f x h e ≡ true
  taker_candidate e d = let t = takes_means f e x h d in ap₂ ◌&&◌ (eq-eqb x (in_port_of f e) t.port) t.match

  -- no candidate: nothing takes it
  pub best_none : (b : ℕ) (t : Bool) → BestSoFar f x h f.entries b t → ¬ (b < f.entries) → takers f x h ≡ []
  unfolding takers
  best_none b t c n = those_none _ f.entries 0 (λ e l m. refuted _ (λ d.
      true≢false (sym (taker_candidate e d) ∙ c.nothing n e (omega arith))))

  module _ (b : ℕ) (t : Bool) (c : BestSoFar f x h f.entries b t) (l : b < f.entries) where
    at_port : (e : ℕ) → candidate f x h e ≡ true → x ≡ in_port_of f e
    at_port e d = eqb-true _ _ (and_fst _ _ d)

    -- a candidate of the highest priority may take it
    equal_takes : (e : ℕ) → e < f.entries → candidate f x h e ≡ true → priority_of f e ≡ priority_of f b
        → takes f e x h ≡ true
    unfolding unbeaten
    equal_takes e m d p = takes_of f e x h (record {
      number = m;
      port = at_port e d;
      match = and_snd (eqb x (in_port_of f e)) _ d;
      best = every_of f.entries _ (λ a k. ap not (refuted _ (better a k)));
    })
      where
        better : (a : ℕ) → a < f.entries → (beats f a e && holds f a h) ≡ true → ⊥
        better a k q =
            let r = beats_means f a e (and_fst _ _ q) in
            let is : candidate f x h a ≡ true =
            ap₂ ◌&&◌ (eq-eqb x (in_port_of f a) (at_port e d ∙ sym r.port)) (and_snd (beats f a e) _ q)
            in
            omega (arith, r.high, c.highest l a k is)

    -- and no other does
    takes_equal : (e : ℕ) → takes f e x h ≡ true → priority_of f e ≡ priority_of f b
    unfolding unbeaten
    takes_equal e d = go (dec_lt (priority_of f e) (priority_of f b))
      where
        go : Dec (priority_of f e < priority_of f b) → priority_of f e ≡ priority_of f b
        go (yes k) =
            let r = takes_means f e x h d in
            let above = higher_beats f b e (sym (at_port b (c.is_candidate l)) ∙ r.port) k in
            let held = and_snd (eqb x (in_port_of f b)) _ (c.is_candidate l) in
            absurd (false≢true (sym (ap not (ap₂ ◌&&◌ above held)) ∙ every_at f.entries _ r.best b l))
        go (no k) = omega (arith, c.highest l e (takes_means f e x h d).number (taker_candidate e d))

    pub best_alone : t ≡ false → takers f x h ≡ b ∷ []
    unfolding takers
    best_alone z = those_one _ f.entries 0 b (omega arith) (omega arith) (equal_takes b l (c.is_candidate l) refl)
        (λ i k m d. refuted _ (λ q. d (c.alone l z i (omega arith) (taker_candidate i q) (takes_equal i q))))

    pub best_several : t ≡ true → Several (takers f x h)
    unfolding takers
    best_several z =
        let r = c.rival l z in
        several _ r.number b r.other (there r.number r.low (equal_takes r.number r.low r.is_candidate r.equal))
        (there b l (equal_takes b l (c.is_candidate l) refl))
      where
        there : (e : ℕ) → e < f.entries → takes f e x h ≡ true
            → Memᴰ e (those (λ a. takes f a x h) (positions f.entries 0))
        there e m d = those_member _ _ d (positions_member f.entries 0 e (omega arith) (omega arith))

  -- ---- W2: where an entry holds the header, some entry may take it

  -- the pass finds a best
  passed : (i : ℕ) → i ≤ f.entries → (b : ℕ) × (t : Bool) × BestSoFar f x h i b t
  passed zero l = (f.entries, false, best_start)
  passed (suc i) l = go (passed i (omega arith)) (candidate f x h i) refl
    where
      on : (b : ℕ) (t : Bool) → BestSoFar f x h i b t → candidate f x h i ≡ true → Dec (b < f.entries)
          → Dec (priority_of f b < priority_of f i) → Dec (priority_of f i < priority_of f b)
          → (b : ℕ) × (t : Bool) × BestSoFar f x h (i + 1) b t
      on b t c e (no m) p q = (i, false, best_take i b t c (omega arith) e (λ n. absurd (m n)))
      on b t c e (yes m) (yes p) q = (i, false, best_take i b t c (omega arith) e (λ n. p))
      on b t c e (yes m) (no p) (yes q) = (b, t, best_keep i b t c m q)
      on b t c e (yes m) (no p) (no q) = (b, true, best_tie i b t c m e (omega arith))

      next : (c : (b : ℕ) × (t : Bool) × BestSoFar f x h i b t) → (d : Bool) → candidate f x h i ≡ d
          → (b : ℕ) × (t : Bool) × BestSoFar f x h (i + 1) b t
      next c false e = (c.0, c.1, best_skip i c.0 c.1 c.2 e)
      next c true e =
          let b = c.0 in
          on b c.1 c.2 e (dec_lt b f.entries) (dec_lt (priority_of f b) (priority_of f i)) (dec_lt (priority_of f i) (priority_of f b))

      go : (c : (b : ℕ) × (t : Bool) × BestSoFar f x h i b t) → (d : Bool) → candidate f x h i ≡ d
          → (b : ℕ) × (t : Bool) × BestSoFar f x h (suc i) b t
      go c d e = subst (λ (k : ℕ). (b : ℕ) × (t : Bool) × BestSoFar f x h k b t) (add-one i) (next c d e)

  pub some_takes : (e : ℕ) → e < f.entries → candidate f x h e ≡ true → ¬ (takers f x h ≡ [])
  some_takes e l d none = let c = passed f.entries (omega arith) in go c.0 c.1 c.2 (dec_lt c.0 f.entries)
    where
      go : (b : ℕ) (t : Bool) → BestSoFar f x h f.entries b t → Dec (b < f.entries) → ⊥
      go b t c (no m) = true≢false (sym d ∙ c.nothing m e l)
      go b false c (yes m) = let z = ap length (sym (best_alone b false c m refl) ∙ none) in omega arith
      go b true c (yes m) = let s = best_several b true c m refl in let z = ap length (sym s.is ∙ none) in omega arith
