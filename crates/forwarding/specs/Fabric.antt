-- A fabric as forwarding sees it: document 01, "The fabric file" and the first sentence of "Forwarding".
-- It is a record of functions, so that nothing here knows how a file lays them out. Assumes nothing.
use Rattle.std.specs.Prelude.{Bool, true, false, ◌&&◌, List, ◌≡◌, ℕ, suc, ◌≤◌, ◌<◌, eqb, ltb}
use Rattle.std.proofs.Math.Option.{Option}
use Rattle.headers.specs.Bits.{positions, those}
use Rattle.headers.specs.Sets.{Header, Set, contains, WellFormed, Written}
use Rattle.headers.specs.Actions.{Act, acted, unacted}

pub record Entry : Type 0 where
  pub priority : ℕ
  pub in_port : ℕ
  pub out_port : ℕ
  pub matches : Set
  pub action : Act

-- "Ports are 1 to 4,095": port 0 is no port.
-- "Entries are numbered from 0 in file order"
pub record Fabric : Type 0 where
  -- the words of a header
  pub words : ℕ
  -- how many entries there are, and the entry of a number
  pub entries : ℕ
  pub entry : ℕ → Entry
  -- an edge port, its group and "the headers that this port's group may send there, its admitted set"
  pub is_edge : ℕ → Bool
  pub group : ℕ → ℕ
  pub admitted : ℕ → Set
  -- the to-port of the link from a port, and the from-port of the link that ends at a port; 0 where there is none
  pub link_to : ℕ → ℕ
  pub link_from : ℕ → ℕ
  -- F9: ports are below this number
  pub ports : ℕ
  -- F16: OpenFlow 1.3, under which a packet that no entry takes is dropped
  pub miss_drops : Bool

-- W1: of two entries at one in-port, that of priority p outranks that of priority q; where they stand in the file plays no part
abbrev pub outranks : ℕ → ℕ → Bool
outranks p q = ltb q p

module _ (f : Fabric) where
  abbrev pub in_port_of : ℕ → ℕ
  in_port_of e = (f.entry e).in_port

  abbrev pub out_port_of : ℕ → ℕ
  out_port_of e = (f.entry e).out_port

  abbrev pub priority_of : ℕ → ℕ
  priority_of e = (f.entry e).priority

  -- the entries that pass a test, in file order
  abbrev pub entries_where : (ℕ → Bool) → List ℕ
  entries_where test = those test (positions f.entries 0)

  -- the match of entry e holds the header
  unfoldable pub holds : ℕ → Header → Bool
  holds e h = contains f.words (f.entry e).matches h

  -- W1: both stand at one in-port, and b's priority is strictly higher
  unfoldable pub beats : ℕ → ℕ → Bool
  beats b e = eqb (in_port_of b) (in_port_of e) && outranks (priority_of b) (priority_of e)

  -- W3: what entry e makes of a header that it takes
  unfoldable pub applied : ℕ → Header → Header
  applied e h = acted f.words (f.entry e).action h

  -- T4: the headers that entry e makes into headers of t
  unfoldable pub undoes : ℕ → Set → Option Set
  undoes e t = unacted f.words (f.entry e).action t

-- What questions 4 to 6 give of an accepted file's fabric: all that the theorems ask of it.
pub record Sound (f : Fabric) : Type 0 where
  -- H2: nw_src is word 0 and nw_dst word 1
  pub two_words : 2 ≤ f.words
  -- 4, "Are ports in range": port 0 is no edge port, and no link's
  pub zero_no_edge : f.is_edge 0 ≡ false
  pub zero_begins_none : f.link_to 0 ≡ 0
  pub zero_ends_none : f.link_from 0 ≡ 0
  -- 4, "link from-ports strictly rising": at most one link begins at a port
  pub begins_once : (x y : ℕ) → f.link_from x ≡ suc y → f.link_to (suc y) ≡ x
  -- 6, "Does a link .. end where no earlier link ends"
  pub ends_once : (y x : ℕ) → f.link_to y ≡ suc x → f.link_from (suc x) ≡ y
  -- 6, "Does a link avoid edge ports"
  pub edge_begins_none : (x : ℕ) → f.is_edge x ≡ true → f.link_to x ≡ 0
  pub edge_ends_none : (x : ℕ) → f.is_edge x ≡ true → f.link_from x ≡ 0
  -- 4, "Are ports in range": where a packet can stand is a port
  pub edge_below : (x : ℕ) → f.is_edge x ≡ true → x < f.ports
  pub end_below : (x y : ℕ) → f.link_from x ≡ suc y → x < f.ports
  -- 5, "Are value bits zero outside care"; a number past the last entry reads as an all-wild one
  pub match_well_formed : (e : ℕ) → WellFormed f.words (f.entry e).matches
  pub admitted_well_formed : (x : ℕ) → WellFormed f.words (f.admitted x)
  -- a file's words have 32 bits
  pub rewrite_written : (e : ℕ) → Written f.words (f.entry e).action.rewrite
