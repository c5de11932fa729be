-- The parts of a carving: they cover, are disjoint, well-formed and not empty. For any number of words. Assumes nothing.
use mathlib.Core.Bool.{Bool, true, false, not, ◌&&◌, ◌||◌, cond, false≢true}
use mathlib.Core.List.{List, [], ◌∷◌}
use mathlib.Core.Logic.{◌↔◌}
use mathlib.Core.Path.{◌≡◌, refl, sym, ap, ◌∙◌}
use Prim.Native.Nat.{ℕ, zero, suc, ◌+◌, ◌≤◌, ◌<◌}
use native.Mathlib.Omega.{arith}
use lib.ListN.{length, get_or}
use Rattle.headers.specs.Bits.{Words, set_bits}
use Rattle.headers.specs.Sets.{Header, Set, contains, WellFormed, overlaps, lowest}
use Rattle.headers.specs.Carving.{free, opposite, like, parts_at, parts, carve, Each, within, one, holders}
use Rattle.headers.proofs.Members.{lowest_fits, lowest_member}
use Rattle.headers.proofs.Fixed.{opposite_fits, fixed_well_formed}
use Rattle.headers.proofs.Carved.{carve_exact}

module _ (n : ℕ) (h : Header) where
  -- a header that one set of a list holds, and one that no set holds
  within_held : (l : List Set) (x : Bool) → holders n l h ≡ one x → within n l h ≡ x
  unfolding within holders
  within_held [] true e = absurd (omega arith)
  within_held [] false e = refl
  within_held (s ∷ l) x e = go (contains n s h) x e (within_held l)
    where
      go : (c x : Bool) → one c + holders n l h ≡ one x → ((x : Bool) → holders n l h ≡ one x → within n l h ≡ x)
          → (c || within n l h) ≡ x
      go true true e ih = refl
      go true false e ih = absurd (omega arith)
      go false x e ih = ih x (omega arith)

  held_once : (l : List Set) (d : Set) (i : ℕ) → i < length l → contains n (get_or l i d) h ≡ true → 1 ≤ holders n l h
  unfolding holders
  held_once [] d i l e = absurd (omega arith)
  held_once (s ∷ l) d zero m e = rw e (omega arith)
  held_once (s ∷ l) d (suc i) m e = let r = held_once l d i (omega arith) e in omega arith

  held_twice : (l : List Set) (d : Set) (i j : ℕ) → i < j → j < length l → contains n (get_or l i d) h ≡ true
      → contains n (get_or l j d) h ≡ true
      → 2 ≤ holders n l h
  unfolding holders
  held_twice [] d i j k m e f = absurd (omega arith)
  held_twice (s ∷ l) d i zero k m e f = absurd (omega arith)
  held_twice (s ∷ l) d zero (suc j) k m e f = rw e (let r = held_once l d j (omega arith) f in omega arith)
  held_twice (s ∷ l) d (suc i) (suc j) k m e f = let r = held_twice l d i j (omega arith) (omega arith) e f in omega arith

module _ (n : ℕ) (p b : Set) (wp : WellFormed n p) (wb : WellFormed n b) where
  exact : (h : Header) → holders n (carve n p b) h ≡ one (contains n p h && not (contains n b h))
  exact = carve_exact n b wb.care wb.value p wp.care

  -- a header is in some part exactly if it is in p and not in b
  pub carve_covers : (h : Header) → within n (carve n p b) h ≡ (contains n p h && not (contains n b h))
  carve_covers h = within_held n h (carve n p b) _ (exact h)

  -- no header is in two parts
  pub carve_disjoint : (h : Header) (d : Set) (i j : ℕ) → i < j → j < length (carve n p b)
      → contains n (get_or (carve n p b) i d) h ≡ true → contains n (get_or (carve n p b) j d) h ≡ true → ⊥
  carve_disjoint h d i j l m e f =
      let two = held_twice n h (carve n p b) d i j l m e f in
      let is = exact h in
      at_most_one (contains n p h && not (contains n b h)) (omega arith)
    where
      at_most_one : (x : Bool) → 2 ≤ one x → ⊥
      at_most_one true e = omega arith
      at_most_one false e = omega arith

  -- every part is well-formed
  pub carve_well_formed : Each (WellFormed n) (carve n p b)
  unfolding carve parts parts_at Each
  carve_well_formed = go (overlaps n p b)
    where
      go : (o : Bool) → Each (WellFormed n) (cond o (parts_at n p b (set_bits n (free n p b))) (p ∷ []))
      go true = parts_well_formed (set_bits n (free n p b)) p wp
        where
          parts_well_formed : (l : List ℕ) (q : Set) → WellFormed n q → Each (WellFormed n) (parts_at n q b l)
          parts_well_formed [] q w = tt
          parts_well_formed (i ∷ l) q w = (
            fixed_well_formed n q (opposite n b.value) i (opposite_fits n b.value) w,
            parts_well_formed l (like n q b i) (fixed_well_formed n q b.value i wb.value w),
          )
      go false = (wp, tt)

  -- no part is empty: its lowest header is in it
  pub carve_inhabited : Each (λ s. contains n s (lowest n s) ≡ true) (carve n p b)
  unfolding Each
  carve_inhabited = go (carve n p b) carve_well_formed
    where
      go : (l : List Set) → Each (WellFormed n) l → Each (λ s. contains n s (lowest n s) ≡ true) l
      go [] e = tt
      go (s ∷ l) e = (lowest_member n s e.0.care, go l e.1)

  -- there is no part exactly if b covers p
  pub carve_nothing : (carve n p b ≡ []) ↔ ((h : Header) → Words n h → contains n p h ≡ true → contains n b h ≡ true)
  unfolding holders Each
  carve_nothing = (
    (λ e h w i. covered (contains n p h) (contains n b h) (ap (λ (l : List Set). holders n l h) (sym e) ∙ exact h) i),
    go (carve n p b) refl carve_well_formed,
  )
    where
      covered : (P B : Bool) → 0 ≡ one (P && not B) → P ≡ true → B ≡ true
      covered true true e i = refl
      covered true false e i = absurd (omega arith)
      covered false B e i = absurd (false≢true i)

      outside : (P B : Bool) (m : ℕ) → 1 + m ≡ one (P && not B) → (P ≡ true → B ≡ true) → ⊥
      outside true true m e f = omega arith
      outside true false m e f = false≢true (f refl)
      outside false B m e f = omega arith

      go : (l : List Set) → carve n p b ≡ l → Each (WellFormed n) l
          → ((h : Header) → Words n h → contains n p h ≡ true → contains n b h ≡ true) → carve n p b ≡ []
      go [] e w f = e
      go (s ∷ l) e w f =
          let h : Header = lowest n s in
          absurd (outside (contains n p h) (contains n b h) (holders n l h)
          (ap (λ (x : Bool). one x + holders n l h) (sym (lowest_member n s w.0.care))
          ∙ ap (λ (l : List Set). holders n l h) (sym e) ∙ exact h)
          (f h (lowest_fits n s w.0.care)))
