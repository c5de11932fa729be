-- A packet arrives, by some entries, exactly if it can go that way to the target, and is missed where no entry takes it.
use mathlib.Core.Bool.{Bool, true, false, ◌&&◌, cond, true≢false, false≢true}
use mathlib.Core.List.{List, [], ◌∷◌, reverse}
use mathlib.Core.Path.{◌≡◌, refl, sym, ap, ap₂, ◌∙◌, subst}
use Prim.Native.Nat.{ℕ, zero, suc}
use native.Mathlib.Omega.{arith}
use borrow.Author.Tests.{eq-eqb, eqb-true}
use lib.Dec.{eqb}
use Rattle.headers.specs.Sets.{Header, Set}
use Rattle.headers.proofs.Booleans.{and_fst, and_snd}
use Rattle.forwarding.specs.Fabric.{Fabric, Sound, out_port_of, applied}
use Rattle.forwarding.specs.Run.{Packet, left, dropped, missed, travelling, tied, takes, takers, sent_out, hop_by}
use Rattle.forwarding.specs.Choices.{CanBe, started, taken, untaken, Arrives}
use Rattle.forwarding.proofs.Ways.{Place, nowhere, at, departs, to_port, onward, stands, sent, is_at, CanGo}

module _ (f : Fabric) (sound : Sound f) (p : ℕ) (h : Header) where
  -- ---- what a packet can become, it becomes by the way of the entries that took it

  unfoldable pub Went : Packet → Type 0
  Went (left o g r) = sent f p h r ≡ at o g
  Went (dropped x g r) = Unit {0}
  Went (missed x g r) = (stands f p h r ≡ at x g) × (takers f x g ≡ [])
  Went (travelling x g r) = stands f p h r ≡ at x g
  Went (tied x g r) = Unit {0}

  pub went : {s : Packet} → CanBe f p h s → Went s
  unfolding Went stands sent departs onward
  went started = refl
  went (taken e x g r c t) = on (out_port_of f e) (f.link_to (out_port_of f e)) refl refl (went c)
    where
      took : takes f e x g ≡ true
      took = t

      on : (o z : ℕ) → out_port_of f e ≡ o → f.link_to (out_port_of f e) ≡ z → stands f p h r ≡ at x g
          → Went (sent_out f x o z (applied f e g) (e ∷ r))
      on zero z a b d = tt
      on (suc o) zero a b d = rw (d, took) (ap (λ (o : ℕ). at o (applied f e g)) a)
      on (suc o) (suc z) a b d = rw (d, took) (ap (λ (z : ℕ). to_port f z (applied f e g)) b)
  went (untaken x g r c t) = (went c, t)

  -- ---- and each way leads to what it can become

  pub stands_can_be : (r : List ℕ) (x : ℕ) (g : Header) → stands f p h r ≡ at x g → CanBe f p h (travelling x g r)
  unfolding stands departs onward
  stands_can_be [] x g d = subst (CanBe f p h) (let e : travelling p h [] ≡ travelling x g [] = cc in e) started
  stands_can_be (e ∷ r) x g d = go (stands f p h r) refl d (stands_can_be r)
    where
      on : (y : ℕ) (k : Header) (b : Bool) (o z : ℕ) → takes f e y k ≡ b → out_port_of f e ≡ o
          → f.link_to (out_port_of f e) ≡ z
          → onward f (cond b (at (out_port_of f e) (applied f e k)) nowhere) ≡ at x g → CanBe f p h (travelling y k r)
          → CanBe f p h (travelling x g (e ∷ r))
      on y k false o z te a b d c = let q : ◌≡◌ {A = ℕ} 0 1 = cc in absurd (omega arith)
      on y k true o zero te a b d c = let q : nowhere ≡ at x g = rw b at d in let w : ◌≡◌ {A = ℕ} 0 1 = cc in absurd (omega arith)
      on y k true zero (suc z) te a b d c = absurd (let q : 0 ≡ suc z = sym sound.zero_begins_none ∙ (rw a at b) in omega arith)
      on y k true (suc o) (suc z) te a b d c =
          let q : at (suc z) (applied f e k) ≡ at x g = rw b at d in
          let there : hop_by f e y k r ≡ travelling x g (e ∷ r) = rw (b, a) (cc) in
          subst (CanBe f p h) there (taken e y k r c te)

      go : (s : Place) → stands f p h r ≡ s → onward f (departs f e s) ≡ at x g
          → ((x : ℕ) (g : Header) → stands f p h r ≡ at x g → CanBe f p h (travelling x g r))
          → CanBe f p h (travelling x g (e ∷ r))
      go nowhere a d ih = let q : ◌≡◌ {A = ℕ} 0 1 = cc in absurd (omega arith)
      go (at y k) a d ih = on y k (takes f e y k) (out_port_of f e) (f.link_to (out_port_of f e)) refl refl refl d (ih y k a)

  -- sent out at an edge port it has left there
  sent_can_be : (r : List ℕ) (o : ℕ) (g : Header) → f.is_edge o ≡ true → sent f p h r ≡ at o g → CanBe f p h (left o g r)
  unfolding sent departs
  sent_can_be [] o g i d = let z : ◌≡◌ {A = ℕ} 0 1 = cc in absurd (omega arith)
  sent_can_be (e ∷ r) o g i d = go (stands f p h r) refl d
    where
      out : (v : ℕ) → f.is_edge v ≡ true → (y : ℕ) (k : Header) → sent_out f y v (f.link_to v) k (e ∷ r) ≡ left v k
          (e ∷ r)
      out zero i y k = absurd (true≢false (sym i ∙ sound.zero_no_edge))
      out (suc v) i y k = rw (sound.edge_begins_none (suc v) i)

      on : (y : ℕ) (k : Header) (b : Bool) → takes f e y k ≡ b → cond b (at (out_port_of f e) (applied f e k)) nowhere ≡ at o g
          → CanBe f p h (travelling y k r) → CanBe f p h (left o g (e ∷ r))
      on y k false te d c = let z : ◌≡◌ {A = ℕ} 0 1 = cc in absurd (omega arith)
      on y k true te d c =
          let a : out_port_of f e ≡ o = cc in
          let b : applied f e k ≡ g = cc in
          subst (CanBe f p h) (rw (a, b) (out o i y g)) (taken e y k r c te)

      go : (s : Place) → stands f p h r ≡ s → departs f e s ≡ at o g → CanBe f p h (left o g (e ∷ r))
      go nowhere a d = let z : ◌≡◌ {A = ℕ} 0 1 = cc in absurd (omega arith)
      go (at y k) a d = on y k (takes f e y k) refl d (stands_can_be r y k a)

  -- ---- arriving

  module _ (limit target : ℕ) (asked : Set) (q : List ℕ) where
    pub arrives_way : Arrives f limit target asked p q h → CanGo f limit target asked p q h
    unfolding Went is_at
    arrives_way a = record {
      short = a.within;
      goes_there = rw (went a.leaves) (ap₂ ◌&&◌ (eq-eqb target target refl) a.in_asked);
    }

    pub way_arrives : f.is_edge target ≡ true → CanGo f limit target asked p q h → Arrives f limit target asked p q h
    unfolding is_at
    way_arrives edge c = go (sent f p h (reverse q)) refl c.goes_there
      where
        go : (s : Place) → sent f p h (reverse q) ≡ s → is_at f s target asked ≡ true → Arrives f limit target asked p q h
        go nowhere a d = absurd (false≢true d)
        go (at o g) a d = record {
          within = c.short;
          header = g;
          leaves = sent_can_be (reverse q) target g edge (a ∙ ap (λ (o : ℕ). at o g) (eqb-true o target (and_fst _ _ d)));
          in_asked = and_snd (eqb o target) _ d;
        }
