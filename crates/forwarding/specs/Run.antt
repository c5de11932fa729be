-- The forwarding rule and the run of one packet: W2 to W13 and W16. What a packet can become under any choice is in Choices.antt.
-- A packet may make any number of hops; the limit of 16 is a question that the calls ask.
use Rattle.std.specs.Prelude.{Bool, not, ◌&&◌, cond, List, [], ◌∷◌, reverse, ℕ, zero, suc, eqb, ltb, length}
use Rattle.headers.specs.Bits.{every}
use Rattle.headers.specs.Sets.{Header}
use Rattle.forwarding.specs.Fabric.{Fabric, in_port_of, out_port_of, entries_where, holds, beats, applied}

-- A packet at its end or under way: its port, its header then, and the entries that took it, the latest first.
-- W11's port: left, the out-port; dropped by an entry, missed by all or tied, the in-port; travelling, the next in-port. Only a run is ever
-- tied (W16).
pub data Packet : Type 0 where
  left dropped missed travelling tied : ℕ → Header → List ℕ → Packet

module _ (f : Fabric) where
  -- no entry whose match holds the header beats e
  unfoldable pub unbeaten : ℕ → Header → Bool
  unbeaten e h = every f.entries (λ b. not (beats f b e && holds f b h))

  -- W2: entry e may take a header h at in-port x
  unfoldable pub takes : ℕ → ℕ → Header → Bool
  takes e x h = ltb e f.entries && (eqb x (in_port_of f e) && (holds f e h && unbeaten e h))

  -- the entries that may take it, in file order
  unfoldable pub takers : ℕ → Header → List ℕ
  takers x h = entries_where f (λ e. takes e x h)

  -- "Out-port 0: dropped. An out-port that is some link's from-port: the packet goes on at the to-port. Any other: it leaves there."
  -- From in-port x out at o, z being the to-port of the link from o.
  abbrev pub sent_out : ℕ → ℕ → ℕ → Header → List ℕ → Packet
  sent_out x zero z h r = dropped x h r
  sent_out x (suc o) zero h r = left (suc o) h r
  sent_out x (suc o) (suc z) h r = travelling (suc z) h r

  -- W3, one hop: entry e takes a header h at in-port x
  abbrev pub hop_by : ℕ → ℕ → Header → List ℕ → Packet
  hop_by e x h r = sent_out x (out_port_of f e) (f.link_to (out_port_of f e)) (applied f e h) (e ∷ r)

  -- ---- a run

  -- by the entries that may take it: none, W7; one, W3; more, W16
  abbrev pub forwarded : ℕ → Header → List ℕ → List ℕ → Packet
  forwarded x h r [] = missed x h r
  forwarded x h r (e ∷ []) = hop_by e x h r
  forwarded x h r (e ∷ d ∷ l) = tied x h r

  unfoldable pub hop : Packet → Packet
  hop (travelling x h r) = forwarded x h r (takers x h)
  hop (left o h r) = left o h r
  hop (dropped x h r) = dropped x h r
  hop (missed x h r) = missed x h r
  hop (tied x h r) = tied x h r

  -- a packet with header h, started at port p, after k hops or at its end before
  unfoldable pub run : ℕ → ℕ → Header → Packet
  run zero p h = travelling p h []
  run (suc k) p h = hop (run k p h)

-- ---- what a run answers

-- W7: what befalls a packet that no entry takes; under OpenFlow 1.3 it is dropped, under 1.0 lost
abbrev pub miss_fate : Fabric → ℕ
miss_fate f = cond f.miss_drops 1 2

-- W9
unfoldable pub fate_of : Fabric → Packet → ℕ
fate_of f (left o h r) = 0
fate_of f (dropped x h r) = 1
fate_of f (missed x h r) = miss_fate f
fate_of f (travelling x h r) = 3
fate_of f (tied x h r) = 4

unfoldable pub port_of : Packet → ℕ
port_of (left o h r) = o
port_of (dropped x h r) = x
port_of (missed x h r) = x
port_of (travelling x h r) = x
port_of (tied x h r) = x

-- "header then"
unfoldable pub header_of : Packet → Header
header_of (left o h r) = h
header_of (dropped x h r) = h
header_of (missed x h r) = h
header_of (travelling x h r) = h
header_of (tied x h r) = h

-- the entries that took it, the latest first
unfoldable pub taken_by : Packet → List ℕ
taken_by (left o h r) = r
taken_by (dropped x h r) = r
taken_by (missed x h r) = r
taken_by (travelling x h r) = r
taken_by (tied x h r) = r

-- "entries taken", in travelling order
abbrev pub entries_taken : Packet → List ℕ
entries_taken s = reverse (taken_by s)

-- "hops": one for each entry that took it
abbrev pub hops_made : Packet → ℕ
hops_made s = length (taken_by s)
