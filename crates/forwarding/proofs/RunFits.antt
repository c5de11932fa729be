-- What a run has become, in numbers that words have room for: its port, its header and the entries that took it.
use mathlib.Core.List.{List, [], ◌∷◌}
use mathlib.Core.Path.{◌≡◌, refl}
use Prim.Native.Nat.{ℕ, zero, suc, ◌<◌}
use native.Mathlib.Omega.{arith}
use Rattle.headers.specs.Bits.{Words}
use Rattle.headers.specs.Sets.{Header}
use Rattle.headers.proofs.SetBits.{first_of_lem}
use Rattle.forwarding.specs.Fabric.{Fabric, Sound, out_port_of, applied}
use Rattle.forwarding.specs.Run.{Packet, left, dropped, missed, travelling, tied, takers, sent_out, forwarded, hop, run}
use Rattle.forwarding.specs.Run.{port_of, header_of, taken_by}
use Rattle.forwarding.proofs.Lists.{All}
use Rattle.forwarding.proofs.OneHop.{applied_fits}
use Rattle.forwarding.proofs.Takers.{takes_means}

module _ (f : Fabric) (sound : Sound f) (m : ℕ) (out : (e : ℕ) → out_port_of f e < m) (to : (x : ℕ) → f.link_to x < m) where
  pub record PacketFits (s : Packet) : Type 0 where
    pub port : port_of s < m
    pub header : Words f.words (header_of s)
    pub entries : All (λ e. e < f.entries) (taken_by s)

  hop_fits : (s : Packet) → PacketFits s → PacketFits (hop f s)
  unfolding hop port_of header_of taken_by takers
  hop_fits (left o h r) c = c
  hop_fits (dropped x h r) c = c
  hop_fits (missed x h r) c = c
  hop_fits (tied x h r) c = c
  hop_fits (travelling x h r) c = go (takers f x h) refl
    where
      on : (o z e : ℕ) → out_port_of f e ≡ o → f.link_to (out_port_of f e) ≡ z → e < f.entries
          → PacketFits (sent_out f x o z (applied f e h) (e ∷ r))
      on zero z e a b l = record { port = c.port; header = applied_fits f sound e h c.header; entries = (l, c.entries) }
      on (suc o) zero e a b l =
          record { port = omega (arith, a, out e); header = applied_fits f sound e h c.header; entries = (l, c.entries) }
      on (suc o) (suc z) e a b l =
          record { port = omega (arith, b, to (out_port_of f e)); header = applied_fits f sound e h c.header; entries = (l, c.entries) }

      go : (l : List ℕ) → takers f x h ≡ l → PacketFits (forwarded f x h r l)
      go [] q = record { port = c.port; header = c.header; entries = c.entries }
      go (e ∷ []) q =
          on (out_port_of f e) (f.link_to (out_port_of f e)) e refl refl
          (takes_means f e x h (first_of_lem _ f.entries 0 e [] q).passes).number
      go (e ∷ d ∷ l) q = record { port = c.port; header = c.header; entries = c.entries }

  pub run_fits : (k p : ℕ) (h : Header) → p < m → Words f.words h → PacketFits (run f k p h)
  unfolding run port_of header_of taken_by
  run_fits zero p h l w = record { port = l; header = w; entries = tt }
  run_fits (suc k) p h l w = hop_fits (run f k p h) (run_fits k p h l w)
