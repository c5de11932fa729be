-- A way: entries that take a packet one after the other, whichever they are. What a way is, and that a packet comes to stand at the end
-- of a link just if it was sent out at its other end. Nothing here asks that one entry alone takes a header. Assumes nothing.
use mathlib.Core.Bool.{Bool, true, false, not, ◌&&◌, cond, false≢true, and-false}
use mathlib.Core.List.{List, [], ◌∷◌, reverse}
use mathlib.Core.Path.{◌≡◌, refl, sym, ap, ◌∙◌}
use Prim.Native.Nat.{ℕ, zero, suc, ◌≤◌, ◌<◌}
use native.Mathlib.Omega.{arith}
use borrow.Author.Tests.{eq-eqb, ne_eqb, eqb-true, ltb-true}
use lib.Dec.{eqb, ltb, eqb-suc-zero}
use lib.ListN.{length}
use Rattle.headers.specs.Bits.{Words}
use Rattle.headers.specs.Sets.{Header, Set, contains}
use Rattle.headers.proofs.Booleans.{both_ways}
use Rattle.forwarding.specs.Fabric.{Fabric, Sound, out_port_of, applied}
use Rattle.forwarding.specs.Run.{takes}
use Rattle.forwarding.proofs.Lists.{All, all_reverse}
use Rattle.forwarding.proofs.OneHop.{applied_fits}

-- where a packet is: at a port with a header, or it could not go that way
pub data Place : Type 0 where
  nowhere : Place
  at : ℕ → Header → Place

module _ (f : Fabric) where
  -- entry e takes the packet and sends it out
  unfoldable pub departs : ℕ → Place → Place
  departs e nowhere = nowhere
  departs e (at x h) = cond (takes f e x h) (at (out_port_of f e) (applied f e h)) nowhere

  -- at the to-port of a link, if there is one
  abbrev pub to_port : ℕ → Header → Place
  to_port zero h = nowhere
  to_port (suc x) h = at (suc x) h

  -- a packet that was sent out goes on over the link
  unfoldable pub onward : Place → Place
  onward nowhere = nowhere
  onward (at o h) = to_port (f.link_to o) h

  -- the in-port at which a packet with header h, started at port p, stands after the entries r, the latest first
  unfoldable pub stands : ℕ → Header → List ℕ → Place
  stands p h [] = at p h
  stands p h (e ∷ r) = onward (departs e (stands p h r))

  -- the out-port at which the latest of the entries r sends it out
  unfoldable pub sent : ℕ → Header → List ℕ → Place
  sent p h [] = nowhere
  sent p h (e ∷ r) = departs e (stands p h r)

  -- at port x with a header in t
  unfoldable pub is_at : Place → ℕ → Set → Bool
  is_at nowhere x t = false
  is_at (at y h) x t = eqb y x && contains f.words t h

  -- the entries r, the latest first, take a packet with header h from port p and send it out at o with a header in t
  abbrev pub goes : ℕ → Header → List ℕ → ℕ → Set → Bool
  goes p h r o t = is_at (sent p h r) o t

  -- the header is one of 32-bit words
  abbrev pub FitsAt : Place → Type 0
  FitsAt nowhere = Unit {0}
  FitsAt (at x h) = Words f.words h

-- the entries q, in travelling order and within the limit, can take a packet from port p to the target, with a header in the asked set
pub record CanGo (f : Fabric) (limit target : ℕ) (asked : Set) (p : ℕ) (q : List ℕ) (h : Header) : Type 0 where
  pub short : length q ≤ limit
  pub goes_there : goes f p h (reverse q) target asked ≡ true

-- entry e sends a packet out at o with a header in t
pub departs_at : (f : Fabric) (e x : ℕ) (h : Header) (o : ℕ) (t : Set)
    → is_at f (departs f e (at x h)) o t ≡ (takes f e x h && (eqb (out_port_of f e) o && contains f.words t (applied f e h)))
unfolding departs is_at
departs_at f e x h o t = go (takes f e x h)
  where
    go : (b : Bool) → is_at f (cond b (at (out_port_of f e) (applied f e h)) nowhere) o t ≡
        (b && (eqb (out_port_of f e) o && contains f.words t (applied f e h)))
    go true = refl
    go false = refl

-- the entries of a way are entries of the fabric
module _ (f : Fabric) (p : ℕ) (h : Header) where
  abbrev IsSomewhere : Place → Type 0
  IsSomewhere nowhere = ⊥
  IsSomewhere (at x g) = Unit {0}

  departs_entry : (e : ℕ) (s : Place) → IsSomewhere (departs f e s) → IsSomewhere s × (e < f.entries)
  unfolding departs takes
  departs_entry e nowhere i = absurd i
  departs_entry e (at x g) i = (tt, ltb-true e f.entries (taken (ltb e f.entries) _ i))
    where
      taken : (a b : Bool) → IsSomewhere (cond (a && b) (at (out_port_of f e) (applied f e g)) nowhere) → a ≡ true
      taken true b i = refl
      taken false b i = absurd i

  onward_from : (s : Place) → IsSomewhere (onward f s) → IsSomewhere s
  unfolding onward
  onward_from nowhere i = i
  onward_from (at o g) i = tt

  stands_entries : (r : List ℕ) → IsSomewhere (stands f p h r) → All (λ e. e < f.entries) r
  unfolding stands
  stands_entries [] i = tt
  stands_entries (e ∷ r) i =
      let d = departs_entry e (stands f p h r) (onward_from _ i) in
      (d.1, stands_entries r d.0)

  sent_entries : (r : List ℕ) → IsSomewhere (sent f p h r) → All (λ e. e < f.entries) r
  unfolding sent
  sent_entries [] i = absurd i
  sent_entries (e ∷ r) i =
      let d = departs_entry e (stands f p h r) i in
      (d.1, stands_entries r d.0)

  somewhere : (s : Place) (o : ℕ) (t : Set) → is_at f s o t ≡ true → IsSomewhere s
  unfolding is_at
  somewhere nowhere o t e = absurd (false≢true e)
  somewhere (at x g) o t e = tt

  -- also of one that ends where the packet stands
  pub stood_entries : (q : List ℕ) {x : ℕ} {g : Header} → stands f p h (reverse q) ≡ at x g → All (λ e. e < f.entries) q
  stood_entries q d = all_reverse _ q (stands_entries (reverse q) (rw d tt))

  pub way_entries : {limit target : ℕ} {asked : Set} {q : List ℕ} → CanGo f limit target asked p q h → All (λ e. e < f.entries) q
  way_entries {target = target} {asked = asked} {q = q} c =
      all_reverse _ q (sent_entries (reverse q) (somewhere (sent f p h (reverse q)) target asked c.goes_there))

module _ (f : Fabric) (sound : Sound f) where
  departs_fits : (e : ℕ) (s : Place) → FitsAt f s → FitsAt f (departs f e s)
  unfolding departs
  departs_fits e nowhere w = tt
  departs_fits e (at x h) w = go (takes f e x h)
    where
      go : (b : Bool) → FitsAt f (cond b (at (out_port_of f e) (applied f e h)) nowhere)
      go true = applied_fits f sound e h w
      go false = tt

  onward_fits : (s : Place) → FitsAt f s → FitsAt f (onward f s)
  unfolding onward
  onward_fits nowhere w = tt
  onward_fits (at o h) w = go (f.link_to o)
    where
      go : (z : ℕ) → FitsAt f (to_port f z h)
      go zero = tt
      go (suc z) = w

  pub stands_fits : (p : ℕ) (h : Header) → Words f.words h → (r : List ℕ) → FitsAt f (stands f p h r)
  unfolding stands
  stands_fits p h w [] = w
  stands_fits p h w (e ∷ r) = onward_fits (departs f e (stands f p h r)) (departs_fits e (stands f p h r) (stands_fits p h w r))

  -- a packet stands at x after a link just if it was sent out at the from-port of the link that ends at x
  pub across_link : (s : Place) (x : ℕ) (t : Set)
      → is_at f (onward f s) x t ≡ (not (eqb (f.link_from x) 0) && is_at f s (f.link_from x) t)
  unfolding onward is_at
  across_link nowhere x t = sym (and-false (not (eqb (f.link_from x) 0)))
  across_link (at y h) x t = go (f.link_to y) (f.link_from x) refl refl
    where
      go : (z v : ℕ) → f.link_to y ≡ z → f.link_from x ≡ v
          → is_at f (to_port f z h) x t ≡ (not (eqb v 0) && (eqb y v && contains f.words t h))
      go zero zero a b = refl
      go zero (suc v) a b = rw (ne_eqb y (suc v) λ d.
          let e : 0 ≡ x = sym a ∙ ap f.link_to d ∙ sound.begins_once x v b in
          let z : 0 ≡ suc v = sym sound.zero_ends_none ∙ ap f.link_from e ∙ b in omega arith)
          (sym (and-false (not (eqb (suc v) 0))))
      go (suc z) zero a b = rw (ne_eqb (suc z) x λ d.
          let e : y ≡ 0 = sym (sound.ends_once y z a) ∙ ap f.link_from d ∙ b in
          let q : 0 ≡ suc z = sym sound.zero_begins_none ∙ ap f.link_to (sym e) ∙ a in omega arith)
      go (suc z) (suc v) a b = rw (eqb-suc-zero v) (ap (λ (c : Bool). c && contains f.words t h) (both_ways _ _
          (λ d. eq-eqb y (suc v) (sym (sound.ends_once y z a) ∙ ap f.link_from (eqb-true (suc z) x d) ∙ b))
          (λ d. eq-eqb (suc z) x (sym a ∙ ap f.link_to (eqb-true y (suc v) d) ∙ sound.begins_once x v b))))
