-- Under some choice a packet can always end within the limit; a run that meets no tie is the only way it can; where a run is tied the
-- packet can be there, and several entries may take it.
use mathlib.Core.Bool.{true}
use mathlib.Core.List.Memᴰ
use mathlib.Core.List.{List, [], ◌∷◌, Memᴰ}
use mathlib.Core.Logic.{◌⊎◌, inl, inr}
use mathlib.Core.Path.{◌≡◌, refl, sym, ap, ◌∙◌, subst}
use Prim.Native.Nat.{ℕ, zero, suc, ◌≤◌}
use native.Mathlib.Omega.{arith}
use lib.ListN.{length}
use Rattle.headers.specs.Sets.{Header}
use Rattle.headers.proofs.SetBits.{first_of_lem}
use Rattle.forwarding.specs.Fabric.{Fabric, out_port_of, applied}
use Rattle.forwarding.specs.Run.{Packet, left, dropped, missed, travelling, tied, takes, takers, sent_out, hop_by}
use Rattle.forwarding.specs.Run.{forwarded, hop, run, fate_of}
use Rattle.forwarding.specs.Choices.{CanBe, started, taken, untaken, Tie, EndsIn, CanEnd}
use Rattle.forwarding.proofs.Lists.{positions_member, those_member}
use Rattle.forwarding.proofs.Takers.{takes_means}
use Rattle.forwarding.proofs.Runs.{run_ends, settled}

module _ (f : Fabric) where
  -- an entry that may take a header is among those that may
  taker_member : (e x : ℕ) (h : Header) → takes f e x h ≡ true → Memᴰ e (takers f x h)
  unfolding takers
  taker_member e x h t = those_member _ _ t (positions_member f.entries 0 e (omega arith) (omega (arith, (takes_means f e x h t).number)))

  tie_stays : (s : Packet) → fate_of f s ≡ 4 → hop f s ≡ s
  unfolding fate_of hop
  tie_stays (left o h r) e = refl
  tie_stays (dropped x h r) e = refl
  tie_stays (missed x h r) e = refl
  tie_stays (travelling x h r) e = absurd (omega arith)
  tie_stays (tied x h r) e = refl

module _ (f : Fabric) (p : ℕ) (h : Header) where
  -- ---- what a run has become

  -- what a run has become the packet can be, or the run is tied
  Reached : Packet → Type 0
  Reached (left o g r) = CanBe f p h (left o g r)
  Reached (dropped x g r) = CanBe f p h (dropped x g r)
  Reached (missed x g r) = CanBe f p h (missed x g r)
  Reached (travelling x g r) = CanBe f p h (travelling x g r)
  Reached (tied x g r) = Tie f p h x g r

  reached_hop : (s : Packet) → Reached s → Reached (hop f s)
  unfolding Reached hop takers
  reached_hop (left o g r) c = c
  reached_hop (dropped x g r) c = c
  reached_hop (missed x g r) c = c
  reached_hop (tied x g r) c = c
  reached_hop (travelling x g r) c = go (takers f x g) refl
    where
      on : (o z : ℕ) (k : Header) (l : List ℕ) → CanBe f p h (sent_out f x o z k l) → Reached (sent_out f x o z k l)
      on zero z k l d = d
      on (suc o) zero k l d = d
      on (suc o) (suc z) k l d = d

      go : (l : List ℕ) → takers f x g ≡ l → Reached (forwarded f x g r l)
      go [] q = untaken x g r c q
      go (e ∷ []) q = on (out_port_of f e) _ _ _ (taken e x g r c (first_of_lem _ f.entries 0 e [] q).passes)
      go (e ∷ d ∷ l) q =
          let tie : Tie f p h x g r = record { can_be = c; several = record { first = e; second = d; rest = l; is = q } } in
          tie

  run_reached : (k : ℕ) → Reached (run f k p h)
  unfolding Reached run
  run_reached zero = started
  run_reached (suc k) = reached_hop (run f k p h) (run_reached k)

  -- fate 4 means a choice
  pub run_tied : (k x : ℕ) (g : Header) (r : List ℕ) → run f k p h ≡ tied x g r → Tie f p h x g r
  unfolding Reached
  run_tied k x g r e = subst Reached e (run_reached k)

  run_can_be : (k : ℕ) → ¬ (fate_of f (run f k p h) ≡ 4) → CanBe f p h (run f k p h)
  unfolding Reached fate_of
  run_can_be k n = go (run f k p h) (run_reached k) n
    where
      go : (s : Packet) → Reached s → ¬ (fate_of f s ≡ 4) → CanBe f p h s
      go (left o g r) c m = c
      go (dropped x g r) c m = c
      go (missed x g r) c m = c
      go (travelling x g r) c m = c
      go (tied x g r) c m = absurd (m refl)

  -- ---- and it can become nothing else, if the run meets no tie

  -- the hops after which a run is there
  after : Packet → ℕ
  after (left o g r) = length r
  after (dropped x g r) = length r
  after (missed x g r) = suc (length r)
  after (travelling x g r) = length r
  after (tied x g r) = suc (length r)

  Follows : ℕ → Packet → Type 0
  Follows k s = (fate_of f (run f k p h) ≡ 4) ⊎ (run f k p h ≡ s)

  follows : {s : Packet} → CanBe f p h s → Follows (after s) s
  unfolding after Follows run hop fate_of
  follows started = inr refl
  follows (untaken x g r c t) = go (follows c)
    where
      go : Follows (length r) (travelling x g r) → Follows (suc (length r)) (missed x g r)
      go (inl e) = inl (ap (fate_of f) (tie_stays f (run f (length r) p h) e) ∙ e)
      go (inr e) = inr (ap (hop f) e ∙ ap (forwarded f x g r) t)
  follows (taken e x g r c t) = subst (λ (k : ℕ). Follows k (hop_by f e x g r)) (sym (hops (out_port_of f e) _)) (go (follows c))
    where
      hops : (o z : ℕ) → after (sent_out f x o z (applied f e g) (e ∷ r)) ≡ suc (length r)
      hops zero z = refl
      hops (suc o) zero = refl
      hops (suc o) (suc z) = refl

      on : (l : List ℕ) → Memᴰ e l → (fate_of f (forwarded f x g r l) ≡ 4) ⊎ (forwarded f x g r l ≡ hop_by f e x g r)
      on [] m = absurd (Memᴰ.not-nil m)
      on (d ∷ []) m = inr (ap (λ (a : ℕ). hop_by f a x g r) (sym (Memᴰ.eq_of_singleton m)))
      on (d ∷ b ∷ l) m = inl refl

      go : Follows (length r) (travelling x g r) → Follows (suc (length r)) (hop_by f e x g r)
      go (inl q) = inl (ap (fate_of f) (tie_stays f (run f (length r) p h) q) ∙ q)
      go (inr q) =
          subst (λ (s : Packet). (fate_of f s ≡ 4) ⊎ (s ≡ hop_by f e x g r)) (sym (ap (hop f) q))
          (on (takers f x g) (taker_member f e x g t))

  -- ---- where a run can end

  -- a run that meets no tie ends as the packet can
  pub run_can_end : (k : ℕ) → ¬ (fate_of f (run f k p h) ≡ 4) → CanEnd f k p h (run f k p h)
  run_can_end k n = record { can_be = run_can_be k n; ends = run_ends f k p h }

  -- and the packet can end in no other way
  pub run_only_end : (k : ℕ) (s : Packet) → ¬ (fate_of f (run f k p h) ≡ 4) → CanEnd f k p h s → run f k p h ≡ s
  unfolding EndsIn after Follows hop
  run_only_end k s n c = go s c.ends (follows c.can_be)
    where
      no_tie : (j : ℕ) → j ≤ k → fate_of f (run f j p h) ≡ 4 → ⊥
      no_tie j l e = n (ap (fate_of f) (settled f p h j k l (tie_stays f _ e)) ∙ e)

      stay : (j : ℕ) → j ≤ k → (s : Packet) → hop f s ≡ s → Follows j s → run f k p h ≡ s
      stay j l s q (inl e) = absurd (no_tie j l e)
      stay j l s q (inr e) = settled f p h j k l (ap (hop f) e ∙ q ∙ sym e) ∙ e

      go : (s : Packet) → EndsIn k s → Follows (after s) s → run f k p h ≡ s
      go (left o g r) d w = stay (length r) d (left o g r) refl w
      go (dropped x g r) d w = stay (length r) d (dropped x g r) refl w
      go (missed x g r) d w = stay (suc (length r)) d (missed x g r) refl w
      go (tied x g r) d w = stay (suc (length r)) d (tied x g r) refl w
      go (travelling x g r) d (inl e) = absurd (no_tie (length r) (omega arith) e)
      go (travelling x g r) d (inr e) = ap (λ (j : ℕ). run f j p h) (sym d) ∙ e

  -- under ties too it can end somehow
  one_hop_more : (k : ℕ) (s : Packet) → CanEnd f k p h s → (t : Packet) × CanEnd f (suc k) p h t
  unfolding EndsIn takers
  one_hop_more k (left o g r) c = (left o g r, record { can_be = c.can_be; ends = omega (arith, c.ends) })
  one_hop_more k (dropped x g r) c = (dropped x g r, record { can_be = c.can_be; ends = omega (arith, c.ends) })
  one_hop_more k (missed x g r) c = (missed x g r, record { can_be = c.can_be; ends = omega (arith, c.ends) })
  one_hop_more k (tied x g r) c = (tied x g r, record { can_be = c.can_be; ends = omega (arith, c.ends) })
  one_hop_more k (travelling x g r) c = go (takers f x g) refl
    where
      on : (o z : ℕ) (d : Header) (e : ℕ) → EndsIn (suc k) (sent_out f x o z d (e ∷ r))
      on zero z d e = omega (arith, c.ends)
      on (suc o) zero d e = omega (arith, c.ends)
      on (suc o) (suc z) d e = omega (arith, c.ends)

      go : (l : List ℕ) → takers f x g ≡ l → (t : Packet) × CanEnd f (suc k) p h t
      go [] q = (missed x g r, record { can_be = untaken x g r c.can_be q; ends = omega (arith, c.ends) })
      go (e ∷ l) q = (
        hop_by f e x g r,
        record { can_be = taken e x g r c.can_be (first_of_lem _ f.entries 0 e l q).passes; ends = on (out_port_of f e) _ _ e },
      )

  pub some_end : (k : ℕ) → (s : Packet) × CanEnd f k p h s
  unfolding EndsIn
  some_end zero = (travelling p h [], record { can_be = started; ends = omega arith })
  some_end (suc k) = let c = some_end k in one_hop_more k c.0 c.1
