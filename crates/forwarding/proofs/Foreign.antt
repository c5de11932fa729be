-- The foreign packet of a find: it is in the find and foreign, and a find without one holds no foreign packet. Assumes nothing.
use mathlib.Core.Bool.{Bool, true, false, not, ◌&&◌, ◌||◌, cond, or-true}
use mathlib.Core.List.{List, [], ◌∷◌, head?, Memᴰ}
use mathlib.Core.Option.{some, none, map}
use mathlib.Core.Path.{◌≡◌, refl, sym, ap, ◌∙◌, subst}
use Prim.Native.Nat.{ℕ, ◌+◌}
use native.Mathlib.Omega.{arith}
use lib.Dec.{eqb}
use Rattle.headers.specs.Bits.{Words}
use Rattle.headers.specs.Sets.{Header, Set, contains, WellFormed, lowest}
use Rattle.headers.specs.Carving.{carve, one, holders}
use Rattle.headers.proofs.Booleans.{and_fst, and_snd}
use Rattle.headers.proofs.Members.{lowest_fits, lowest_member}
use Rattle.headers.proofs.Carved.{carve_exact}
use Rattle.forwarding.specs.Fabric.{Fabric, Sound}
use Rattle.forwarding.specs.Trace.{Find}
use Rattle.forwarding.specs.Verdict.{foreign, foreign_packet}
use Rattle.forwarding.proofs.Lists.{one_true}
use Rattle.forwarding.proofs.Parts.{part_well_formed}

-- a foreign packet that a find holds
pub record ForeignIn (f : Fabric) (target : ℕ) (d : Find) (h : Header) : Type 0 where
  pub held : contains f.words d.set h ≡ true
  pub is_foreign : foreign f target d.port h ≡ true
  pub fits : Words f.words h

module _ (f : Fabric) (sound : Sound f) (target : ℕ) (d : Find) (wd : WellFormed f.words d.set) where
  -- the headers of the find that are not admitted at its port, in parts
  abbrev unadmitted : List Set
  unadmitted = carve f.words d.set (f.admitted d.port)

  is_unadmitted : Header → Bool
  is_unadmitted h = contains f.words d.set h && not (contains f.words (f.admitted d.port) h)

  unadmitted_exact : (h : Header) → holders f.words unadmitted h ≡ one (is_unadmitted h)
  unfolding is_unadmitted
  unadmitted_exact =
      carve_exact f.words _ (sound.admitted_well_formed d.port).care (sound.admitted_well_formed d.port).value d.set wd.care

  -- the packet reported is in the find, and foreign
  pub foreign_some : (h : Header) → foreign_packet f target d ≡ some h → ForeignIn f target d h
  unfolding foreign_packet foreign holders is_unadmitted
  foreign_some h e = by_group (eqb (f.group d.port) (f.group target)) refl e
    where
      first_part : (l : List Set) → unadmitted ≡ l → map (lowest f.words) (head? l) ≡ some h → ForeignIn f target d h
      first_part [] q e = let z : ◌≡◌ {A = ℕ} 0 1 = cc in absurd (omega arith)
      first_part (c ∷ l) q e =
          let is : lowest f.words c ≡ h = cc in
          let wc : WellFormed f.words c =
          part_well_formed f.words d.set _ wd (sound.admitted_well_formed d.port) c (subst (Memᴰ c) (sym q) (Memᴰ.head refl)) in
          let low : Header = lowest f.words c in
          let held : one (contains f.words c low) ≡ 1 = ap one (lowest_member f.words c wc.care) in
          let all : one (contains f.words c low) + holders f.words l low ≡ one (is_unadmitted low) =
          ap (λ (l : List Set). holders f.words l low) (sym q) ∙ unadmitted_exact low in
          let t = one_true (is_unadmitted low) (omega arith) in
          subst (ForeignIn f target d) is (record {
            held = and_fst _ _ t;
            is_foreign = rw (and_snd (contains f.words d.set low) _ t) (or-true (not (eqb (f.group d.port) (f.group target))));
            fits = lowest_fits f.words c wc.care;
          })

      by_group : (b : Bool) → eqb (f.group d.port) (f.group target) ≡ b
          → cond b (map (lowest f.words) (head? unadmitted)) (some (lowest f.words d.set)) ≡ some h → ForeignIn f target d h
      by_group true b e = first_part unadmitted refl e
      by_group false b e =
          let is : lowest f.words d.set ≡ h = cc in
          subst (ForeignIn f target d) is (record {
            held = lowest_member f.words d.set wd.care;
            is_foreign = rw b;
            fits = lowest_fits f.words d.set wd.care;
          })

  -- where none is reported the find holds no foreign packet
  pub foreign_none : foreign_packet f target d ≡ none → (h : Header) → contains f.words d.set h ≡ true
      → foreign f target d.port h ≡ false
  unfolding foreign_packet foreign holders is_unadmitted
  foreign_none e h i = by_group (eqb (f.group d.port) (f.group target)) e
    where
      admits : Bool
      admits = contains f.words (f.admitted d.port) h

      covered : (b : Bool) → 0 ≡ one (true && not b) → not b ≡ false
      covered true z = refl
      covered false z = absurd (omega arith)

      no_part : (l : List Set) → unadmitted ≡ l → map (lowest f.words) (head? l) ≡ none → not admits ≡ false
      no_part [] q e = covered admits
          (ap (λ (l : List Set). holders f.words l h) (sym q) ∙ unadmitted_exact h ∙ ap (λ (b : Bool). one (b && not admits)) i)
      no_part (c ∷ l) q e = let z : ◌≡◌ {A = ℕ} 0 1 = cc in absurd (omega arith)

      by_group : (b : Bool) → cond b (map (lowest f.words) (head? unadmitted)) (some (lowest f.words d.set)) ≡ none
          → (not b || not admits) ≡ false
      by_group true e = no_part unadmitted refl e
      by_group false e = let z : ◌≡◌ {A = ℕ} 0 1 = cc in absurd (omega arith)
