-- What a packet can become where several entries may take it: W14 to W18. One relation, without an algorithm.
use Rattle.std.specs.Prelude.{true, List, [], ◌∷◌, reverse, ◌≡◌, ℕ, zero, suc, ◌≤◌, ◌<◌, length}
use Rattle.headers.specs.Sets.{Header, Set, contains}
use Rattle.forwarding.specs.Fabric.{Fabric}
use Rattle.forwarding.specs.Run.{Packet, left, dropped, missed, travelling, tied, takes, takers, hop_by, fate_of}

-- W15: what a packet with header h, started at port p, can become, any entry that may take it being chosen afresh at each hop
pub data CanBe (f : Fabric) (p : ℕ) (h : Header) : Packet → Type 0 where
  started : CanBe f p h (travelling p h [])
  taken : (e x : ℕ) (g : Header) (r : List ℕ) → CanBe f p h (travelling x g r)
      → takes f e x g ≡ true → CanBe f p h (hop_by f e x g r)
  untaken : (x : ℕ) (g : Header) (r : List ℕ) → CanBe f p h (travelling x g r)
      → takers f x g ≡ [] → CanBe f p h (missed x g r)

-- a list with more than one element
pub record Several (l : List ℕ) : Type 0 where
  pub first : ℕ
  pub second : ℕ
  pub rest : List ℕ
  pub is : l ≡ first ∷ second ∷ rest

-- W16: a run from port p with header h is tied at in-port x: the packet can be there, and more than one entry may take it
pub record Tie (f : Fabric) (p : ℕ) (h : Header) (x : ℕ) (g : Header) (r : List ℕ) : Type 0 where
  pub can_be : CanBe f p h (travelling x g r)
  pub several : Several (takers f x g)

-- W17: with at most `limit` hops a packet ends so. It left or was dropped within them; no entry may take it, or in a run several may, with
-- a hop left; or the limit's hops are made and a link leads on, whatever stands there.
unfoldable pub EndsIn : ℕ → Packet → Type 0
EndsIn limit (left o h r) = length r ≤ limit
EndsIn limit (dropped x h r) = length r ≤ limit
EndsIn limit (missed x h r) = length r < limit
EndsIn limit (tied x h r) = length r < limit
EndsIn limit (travelling x h r) = length r ≡ limit

-- W17: under some choice a packet with header h, started at port p, ends so
pub record CanEnd (f : Fabric) (limit p : ℕ) (h : Header) (s : Packet) : Type 0 where
  pub can_be : CanBe f p h s
  pub ends : EndsIn limit s

-- W14: under the choice of the entries q, in travelling order, a packet with header h, started at port p, leaves at the target within the
-- limit's hops, with a header in the asked set
pub record Arrives (f : Fabric) (limit target : ℕ) (asked : Set) (p : ℕ) (q : List ℕ) (h : Header) : Type 0 where
  pub within : length q ≤ limit
  pub header : Header
  pub leaves : CanBe f p h (left target header (reverse q))
  pub in_asked : contains f.words asked header ≡ true

-- W18: under the choice of the entries q, in travelling order, a packet with header h, started at port p, is lost: after fewer hops than
-- the limit it is at an in-port where no entry takes it, with a header in the asked set, and its fate is 2
pub record Loses (f : Fabric) (limit : ℕ) (asked : Set) (p : ℕ) (q : List ℕ) (h : Header) : Type 0 where
  pub within : length q < limit
  pub at_port : ℕ
  pub header_then : Header
  pub misses : CanBe f p h (missed at_port header_then (reverse q))
  pub is_lost : fate_of f (missed at_port header_then (reverse q)) ≡ 2
  pub in_asked : contains f.words asked header_then ≡ true

-- V8: what a list is of
abbrev pub IsListed : Fabric → ℕ → ℕ → Set → ℕ → List ℕ → Header → Type 0
IsListed f limit zero asked = Loses f limit asked
IsListed f limit (suc target) asked = Arrives f limit (suc target) asked
