-- A run: where it is tied, how many hops are made, and that a packet at its end stays there.
use mathlib.Core.Bool.{Bool, true, false, cond}
use mathlib.Core.List.{List, [], ◌∷◌}
use mathlib.Core.Path.{◌≡◌, sym, ap, ◌∙◌}
use Prim.Native.Nat.{ℕ, zero, suc, ◌≤◌, ◌<◌}
use native.Mathlib.Decide.{ℕ_discrete}
use native.Mathlib.Omega.{arith}
use Rattle.headers.specs.Sets.{Header}
use Rattle.forwarding.specs.Fabric.{Fabric, out_port_of}
use Rattle.forwarding.specs.Run.{Packet, left, dropped, missed, travelling, tied, takers, sent_out, forwarded, hop, run, taken_by}
use Rattle.forwarding.specs.Run.{miss_fate, hops_made}
use Rattle.forwarding.specs.Choices.{Several, EndsIn}

-- a packet that no entry takes is dropped or lost, and so at its end
pub miss_fate_low : (f : Fabric) → miss_fate f < 3
miss_fate_low f = go f.miss_drops
  where
    go : (b : Bool) → cond b 1 2 < 3
    go true = omega arith
    go false = omega arith

module _ (f : Fabric) where
  -- ---- ties

  -- W16: where several entries may take the packet, the run is tied
  pub several_tied : (x : ℕ) (h : Header) (r : List ℕ) → Several (takers f x h) → hop f (travelling x h r) ≡ tied x h r
  unfolding hop
  several_tied x h r s = ap (forwarded f x h r) s.is

  -- ---- hops

  ends_hop : (k : ℕ) (s : Packet) → EndsIn k s → EndsIn (suc k) (hop f s)
  unfolding EndsIn hop
  ends_hop k (left o h r) m = omega arith
  ends_hop k (dropped x h r) m = omega arith
  ends_hop k (missed x h r) m = omega arith
  ends_hop k (tied x h r) m = omega arith
  ends_hop k (travelling x h r) m = go (takers f x h)
    where
      on : (o z e : ℕ) (g : Header) → EndsIn (suc k) (sent_out f x o z g (e ∷ r))
      on zero z e g = omega arith
      on (suc o) zero e g = omega arith
      on (suc o) (suc z) e g = omega arith

      go : (l : List ℕ) → EndsIn (suc k) (forwarded f x h r l)
      go [] = omega arith
      go (e ∷ []) = on (out_port_of f e) _ e _
      go (e ∷ d ∷ l) = omega arith

  -- a run of at most k hops ends within them
  pub run_ends : (k p : ℕ) (h : Header) → EndsIn k (run f k p h)
  unfolding EndsIn run
  run_ends zero p h = omega arith
  run_ends (suc k) p h = ends_hop k (run f k p h) (run_ends k p h)

  pub hops_within : (k p : ℕ) (h : Header) → hops_made (run f k p h) ≤ k
  unfolding EndsIn taken_by
  hops_within k p h = go (run f k p h) (run_ends k p h)
    where
      go : (s : Packet) → EndsIn k s → hops_made s ≤ k
      go (left o h r) m = m
      go (dropped x h r) m = m
      go (missed x h r) m = omega arith
      go (travelling x h r) m = omega arith
      go (tied x h r) m = omega arith

  -- ---- the end

  -- a packet that a hop does not move stays where it is
  pub settled : (p : ℕ) (h : Header) (k j : ℕ) → k ≤ j → hop f (run f k p h) ≡ run f k p h → run f j p h ≡ run f k p h
  unfolding run
  settled p h k zero l e = ap (λ (m : ℕ). run f m p h) (let z : 0 ≡ k = omega arith in z)
  settled p h k (suc j) l e = go (ℕ_discrete k (suc j)) (settled p h k j)
    where
      go : Dec (k ≡ suc j) → (k ≤ j → hop f (run f k p h) ≡ run f k p h → run f j p h ≡ run f k p h)
          → hop f (run f j p h) ≡ run f k p h
      go (yes d) ih = ap (λ (m : ℕ). run f m p h) (sym d)
      go (no d) ih = ap (hop f) (ih (omega arith) e) ∙ e
