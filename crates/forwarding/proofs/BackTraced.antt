-- Demand 2: the back-traced parts of one entry hold exactly the headers that it, and no better entry, takes and makes into headers of
-- the exit set, each in just one part. Assumes nothing.
use mathlib.Core.Bool.{Bool, true, false, not, ◌&&◌, and-true, and_assoc, and_comm}
use mathlib.Core.List.Memᴰ
use mathlib.Core.List.{List, [], ◌∷◌, flat_map, Memᴰ}
use mathlib.Core.Logic.{◌↔◌}
use mathlib.Core.Option.{Option, some, none, bind, Option-elim}
use mathlib.Core.Path.{◌≡◌, refl, sym, ap, ap₂, ◌∙◌, subst}
use Prim.Native.Nat.{ℕ, ◌+◌, ◌*◌, ◌<◌}
use native.Mathlib.Omega.{arith}
use borrow.Author.Tests.{eq-eqb, lt-ltb}
use Rattle.headers.specs.Bits.{Words}
use Rattle.headers.specs.Sets.{Header, Set, contains, WellFormed, intersection, among}
use Rattle.headers.specs.Carving.{carve, one, holders}
use Rattle.headers.proofs.Booleans.{and_fst, and_snd}
use Rattle.headers.proofs.Positions.{every_same}
use Rattle.headers.proofs.Intersection.{intersection_exact, intersection_well_formed}
use Rattle.headers.proofs.Carved.{carve_exact}
use Rattle.forwarding.specs.Fabric.{Fabric, Sound, in_port_of, holds, beats, applied, undoes}
use Rattle.forwarding.specs.Run.{unbeaten, takes}
use Rattle.forwarding.specs.BackTrace.{back, beaters, survivors, back_traced}
use Rattle.forwarding.proofs.Lists.{flat_map_member, total, total_flat_map, total_times, member_total, total_member, one_and, one_true}
use Rattle.forwarding.proofs.Lists.{holders_total, none_of, none_of_those}
use Rattle.forwarding.proofs.OneHop.{undoes_exact, undoes_well_formed}
use Rattle.forwarding.proofs.Parts.{part_well_formed}

module _ (f : Fabric) (sound : Sound f) where
  -- ---- carving by several entries

  pub survivors_well_formed : (bs : List ℕ) (p : Set) → WellFormed f.words p
      → (s : Set) → Memᴰ s (survivors f bs p) → WellFormed f.words s
  unfolding survivors
  survivors_well_formed [] p wp s m = subst (WellFormed f.words) (sym (Memᴰ.eq_of_singleton m)) wp
  survivors_well_formed (b ∷ bs) p wp s m =
      let c = flat_map_member (survivors f bs) (carve f.words p (f.entry b).matches) m in
      survivors_well_formed bs c.0 (part_well_formed f.words p _ wp (sound.match_well_formed b) c.0 c.1) s c.2

  -- h is in just one of the parts left if it is in p and none of the entries holds it, and else in none
  pub survivors_exact : (h : Header) (bs : List ℕ) (p : Set) → WellFormed f.words p
      → holders f.words (survivors f bs p) h ≡ one (contains f.words p h && none_of (λ b. holds f b h) bs)
  unfolding survivors holders none_of holds
  survivors_exact h [] p wp = rw and-true (omega arith)
  survivors_exact h (b ∷ bs) p wp =
      holders_total n (flat_map (survivors f bs) parts) h
      ∙ total_flat_map _ (survivors f bs) parts
      ∙ total_times _ (λ s. one (contains n s h)) (one rest) parts (each_part (survivors_exact h bs))
      ∙ ap (λ (m : ℕ). m * one rest) (sym (holders_total n parts h) ∙ carved_by_b)
      ∙ sym (one_and (contains n p h && not (contains n (f.entry b).matches h)) rest)
      ∙ ap one (and_assoc (contains n p h) _ rest)
    where
      n : ℕ
      n = f.words

      parts : List Set
      parts = carve n p (f.entry b).matches

      rest : Bool
      rest = none_of (λ b. contains n (f.entry b).matches h) bs

      carved_by_b : holders n parts h ≡ one (contains n p h && not (contains n (f.entry b).matches h))
      carved_by_b = carve_exact n _ (sound.match_well_formed b).care (sound.match_well_formed b).value p wp.care h

      each_part : ((s : Set) → WellFormed n s → holders n (survivors f bs s) h ≡ one (contains n s h && rest))
          → (s : Set) → Memᴰ s parts → total (λ s. one (contains n s h)) (survivors f bs s) ≡ one (contains n s h) * one rest
      each_part ih s m =
          sym (holders_total n (survivors f bs s) h)
          ∙ ih s (part_well_formed n p _ wp (sound.match_well_formed b) s m)
          ∙ one_and (contains n s h) rest

  module _ (e : ℕ) (t : Set) (wt : WellFormed f.words t) where
    -- ---- undone and intersected with the match

    back_exact : (h : Header) → Words f.words h → among f.words (back f e t) h ≡ (holds f e h && contains f.words t (applied f e h))
    unfolding back bind holds
    back_exact h w = go (undoes f e t) refl ∙ ap (λ (b : Bool). holds f e h && b) (undoes_exact f sound e t wt h w)
      where
        go : (o : Option Set) → undoes f e t ≡ o
            → among f.words (bind o (λ s. intersection f.words s (f.entry e).matches)) h ≡ (holds f e h && among f.words o h)
        go none d = and_comm false (holds f e h)
        go (some s) d =
            intersection_exact f.words s _ (undoes_well_formed f sound e t wt s d) (sound.match_well_formed e) h
            ∙ and_comm (contains f.words s h) (holds f e h)

    pub back_well_formed : (s : Set) → back f e t ≡ some s → WellFormed f.words s
    unfolding back bind
    back_well_formed s d = go (undoes f e t) refl d
      where
        go : (o : Option Set) → undoes f e t ≡ o → bind o (λ s. intersection f.words s (f.entry e).matches) ≡ some s
            → WellFormed f.words s
        go none q d = let z : ◌≡◌ {A = ℕ} 0 1 = cc in absurd (omega arith)
        go (some u) q d = intersection_well_formed f.words u _ (undoes_well_formed f sound e t wt u q) (sound.match_well_formed e) s d

    pub back_traced_well_formed : (s : Set) → Memᴰ s (back_traced f e t) → WellFormed f.words s
    unfolding back_traced Option-elim
    back_traced_well_formed s m = go (back f e t) refl m
      where
        go : (o : Option Set) → back f e t ≡ o → Memᴰ s (Option-elim o [] (survivors f (beaters f e))) → WellFormed f.words s
        go none d m = absurd (Memᴰ.not-nil m)
        go (some u) d m = survivors_well_formed (beaters f e) u (back_well_formed u d) s m

    none_of_beaters : (h : Header) → none_of (λ b. holds f b h) (beaters f e) ≡ unbeaten f e h
    unfolding beaters unbeaten
    none_of_beaters h =
        none_of_those (λ b. beats f b e) (λ b. holds f b h) f.entries 0
        ∙ every_same f.entries _ _ (λ i l. ap (λ (b : ℕ). not (beats f b e && holds f b h)) (let z : 0 + i ≡ i = omega arith in z))

    -- the number of back-traced parts that hold h
    pub back_traced_holders : (h : Header) → Words f.words h
        → holders f.words (back_traced f e t) h ≡ one ((holds f e h && unbeaten f e h) && contains f.words t (applied f e h))
    unfolding back_traced Option-elim holders
    back_traced_holders h w =
        go (back f e t) refl
        ∙ ap (λ (b : Bool). one (b && unbeaten f e h)) (back_exact h w)
        ∙ ap one (turn (holds f e h) (contains f.words t (applied f e h)) (unbeaten f e h))
      where
        turn : (a b c : Bool) → ((a && b) && c) ≡ ((a && c) && b)
        turn true b c = and_comm b c
        turn false b c = refl

        go : (o : Option Set) → back f e t ≡ o
            → holders f.words (Option-elim o [] (survivors f (beaters f e))) h ≡ one (among f.words (back f e t) h && unbeaten f e h)
        go none d = rw d
        go (some s) d = survivors_exact h (beaters f e) s (back_well_formed s d) ∙ rw (none_of_beaters h, d)

    -- ---- for readers

    module _ (number : e < f.entries) (h : Header) (w : Words f.words h) where
      -- just one part holds h if the entry takes it at its in-port and makes it into a header of t, and else none
      pub back_traced_exact : holders f.words (back_traced f e t) h ≡ one
          (takes f e (in_port_of f e) h && contains f.words t (applied f e h))
      unfolding takes
      back_traced_exact = back_traced_holders h w ∙ rw (lt-ltb e f.entries number, eq-eqb (in_port_of f e) (in_port_of f e) refl)

      -- some part holds h exactly if the entry takes it at its in-port and makes it into a header of t
      pub back_traced_exactly : ((s : Set) × Memᴰ s (back_traced f e t) × (contains f.words s h ≡ true))
          ↔ ((takes f e (in_port_of f e) h ≡ true) × (contains f.words t (applied f e h) ≡ true))
      back_traced_exactly = (
        (λ r.
            let held : one (contains f.words r.0 h) ≡ 1 = ap one r.2 in
            let least = member_total (λ s. one (contains f.words s h)) (back_traced f e t) r.1 in
            let d = one_true taken (omega (arith, number_held)) in
            (and_fst _ _ d, and_snd (takes f e (in_port_of f e) h) _ d)),
        λ r.
            let held : one taken ≡ 1 = ap one (ap₂ ◌&&◌ r.0 r.1) in
            let m = total_member (λ s. one (contains f.words s h)) (back_traced f e t) (omega (arith, number_held)) in
            (m.0, m.1, one_true _ m.2),
      )
        where
          taken : Bool
          taken = takes f e (in_port_of f e) h && contains f.words t (applied f e h)

          number_held : total (λ s. one (contains f.words s h)) (back_traced f e t) ≡ one taken
          number_held = sym (holders_total f.words (back_traced f e t) h) ∙ back_traced_exact
