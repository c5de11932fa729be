-- The run of a packet in a fabric with k more words, those of its header being 0, is its run in the fabric.
use mathlib.Core.Bool.{Bool, not, ◌&&◌}
use mathlib.Core.List.{List, [], ◌∷◌}
use mathlib.Core.Path.{◌≡◌, refl, ap, ap₂, ◌∙◌}
use Prim.Native.Nat.{ℕ, zero, suc}
use lib.Dec.{eqb, ltb}
use lib.ListN.{length}
use Rattle.headers.specs.Sets.{Header}
use Rattle.headers.proofs.Positions.{every_same}
use Rattle.headers.proofs.SetBits.{those_same}
use Rattle.headers.proofs.Beside.{well_formed_long}
use Rattle.headers.proofs.Padded.{contains_padded}
use Rattle.forwarding.specs.Fabric.{Fabric, Sound, in_port_of, out_port_of, holds, beats, applied}
use Rattle.forwarding.specs.Run.{Packet, left, dropped, missed, travelling, tied, unbeaten, takes, takers, sent_out, forwarded}
use Rattle.forwarding.specs.Run.{hop, run, fate_of, port_of, header_of, taken_by}
use Rattle.forwarding.specs.Wider.{wider, longer, wider_packet}
use Rattle.forwarding.proofs.OneHop.{applied_wider, applied_long}

-- ---- what a run answers

module _ (k : ℕ) where
  pub fate_wider : (f : Fabric) (s : Packet) → fate_of (wider k f) (wider_packet k s) ≡ fate_of f s
  unfolding fate_of
  fate_wider f (left o h r) = refl
  fate_wider f (dropped x h r) = refl
  fate_wider f (missed x h r) = refl
  fate_wider f (travelling x h r) = refl
  fate_wider f (tied x h r) = refl

  pub port_wider : (s : Packet) → port_of (wider_packet k s) ≡ port_of s
  unfolding port_of
  port_wider (left o h r) = refl
  port_wider (dropped x h r) = refl
  port_wider (missed x h r) = refl
  port_wider (travelling x h r) = refl
  port_wider (tied x h r) = refl

  pub header_wider : (s : Packet) → header_of (wider_packet k s) ≡ longer k (header_of s)
  unfolding header_of
  header_wider (left o h r) = refl
  header_wider (dropped x h r) = refl
  header_wider (missed x h r) = refl
  header_wider (travelling x h r) = refl
  header_wider (tied x h r) = refl

  pub taken_by_wider : (s : Packet) → taken_by (wider_packet k s) ≡ taken_by s
  unfolding taken_by
  taken_by_wider (left o h r) = refl
  taken_by_wider (dropped x h r) = refl
  taken_by_wider (missed x h r) = refl
  taken_by_wider (travelling x h r) = refl
  taken_by_wider (tied x h r) = refl

-- ---- hop by hop

module _ (k : ℕ) (f : Fabric) (sound : Sound f) where
  module _ (h : Header) (lh : length h ≡ f.words) where
    holds_wider : (e : ℕ) → holds (wider k f) e (longer k h) ≡ holds f e h
    unfolding holds
    holds_wider e = contains_padded f.words k (f.entry e).matches (well_formed_long (sound.match_well_formed e)) h _ lh

    pub takes_wider : (e x : ℕ) → takes (wider k f) e x (longer k h) ≡ takes f e x h
    unfolding takes unbeaten beats
    takes_wider e x =
        ap₂ (λ (a b : Bool). ltb e f.entries && (eqb x (in_port_of f e) && (a && b))) (holds_wider e)
        (every_same f.entries _ _ (λ b l. ap (λ (c : Bool). not (beats f b e && c)) (holds_wider b)))

    pub takers_wider : (x : ℕ) → takers (wider k f) x (longer k h) ≡ takers f x h
    unfolding takers
    takers_wider x = those_same _ _ f.entries 0 (λ e l m. takes_wider e x)

  pub hop_wider : (s : Packet) → length (header_of s) ≡ f.words → hop (wider k f) (wider_packet k s) ≡ wider_packet k (hop f s)
  unfolding hop header_of
  hop_wider (left o h r) l = refl
  hop_wider (dropped x h r) l = refl
  hop_wider (missed x h r) l = refl
  hop_wider (tied x h r) l = refl
  hop_wider (travelling x h r) l = ap (forwarded (wider k f) x (longer k h) r) (takers_wider h l x) ∙ go (takers f x h)
    where
      out : (o z e : ℕ) (g : Header) → sent_out (wider k f) x o z (longer k g) (e ∷ r) ≡ wider_packet k
          (sent_out f x o z g (e ∷ r))
      out zero z e g = refl
      out (suc o) zero e g = refl
      out (suc o) (suc z) e g = refl

      go : (t : List ℕ) → forwarded (wider k f) x (longer k h) r t ≡ wider_packet k (forwarded f x h r t)
      go [] = refl
      go (e ∷ []) =
          ap (λ (g : Header). sent_out (wider k f) x (out_port_of f e) (f.link_to (out_port_of f e)) g (e ∷ r))
          (applied_wider f sound e k h l)
          ∙ out (out_port_of f e) (f.link_to (out_port_of f e)) e (applied f e h)
      go (e ∷ d ∷ t) = refl

  hop_long : (s : Packet) → length (header_of s) ≡ f.words → length (header_of (hop f s)) ≡ f.words
  unfolding hop header_of
  hop_long (left o h r) l = l
  hop_long (dropped x h r) l = l
  hop_long (missed x h r) l = l
  hop_long (tied x h r) l = l
  hop_long (travelling x h r) l = go (takers f x h)
    where
      out : (o z e : ℕ) (g : Header) → length g ≡ f.words → length (header_of (sent_out f x o z g (e ∷ r))) ≡ f.words
      out zero z e g l = l
      out (suc o) zero e g l = l
      out (suc o) (suc z) e g l = l

      go : (t : List ℕ) → length (header_of (forwarded f x h r t)) ≡ f.words
      go [] = l
      go (e ∷ []) = out (out_port_of f e) (f.link_to (out_port_of f e)) e (applied f e h) (applied_long f e h)
      go (e ∷ d ∷ t) = l

  run_long : (n p : ℕ) (h : Header) → length h ≡ f.words → length (header_of (run f n p h)) ≡ f.words
  unfolding run header_of
  run_long zero p h l = l
  run_long (suc n) p h l = hop_long (run f n p h) (run_long n p h l)

  pub run_wider : (n p : ℕ) (h : Header) → length h ≡ f.words → run (wider k f) n p (longer k h) ≡ wider_packet k (run f n p h)
  unfolding run
  run_wider zero p h l = refl
  run_wider (suc n) p h l = ap (hop (wider k f)) (run_wider n p h l) ∙ hop_wider (run f n p h) (run_long n p h l)
