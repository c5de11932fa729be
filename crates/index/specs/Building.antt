-- The index on its way, for the functions that make it. Nobody outside needs to believe these: `fill` promises `Index`.
use Rattle.std.specs.Prelude.{cond, List, ◌≡◌, ℕ, ◌+◌, ◌≤◌, ◌<◌, ltb, length, get_or, set}
use Rattle.layout.specs.Records.{port_of_edge, from_of_link, to_of_link, recent}
use Rattle.questions.specs.Tables.{number}
use Rattle.forwarding.specs.Fabric.{in_port_of, out_port_of, priority_of}
use Rattle.model.specs.Model.{fabric_in, shape_in, under}
use Rattle.index.specs.Chains.{no_entry, Chain}
use Rattle.index.specs.Index.{place_at, first_out, first_in, next_out, next_in, ranks, index_long}

-- a part comes from nowhere
abbrev pub no_place : ℕ → ℕ
no_place x = 0

-- the place of a port, by one more than the number of the edge at it and of the link that ends there
abbrev pub place_by : List ℕ → ℕ → ℕ → ℕ
place_by f k l = cond (ltb 0 k) (4095 + k) (under 0 (from_of_link f (shape_in f).edges) l)

-- the place of a port, as the first k edges and the first l links have it
unfoldable pub place_after : List ℕ → ℕ → ℕ → ℕ → ℕ
place_after f k l x = place_by f (number (recent (port_of_edge f) k) x) (number (recent (to_of_link f (shape_in f).edges) l) x)

-- the places of the ports below x are stored, and every other cell holds 'no entry'
pub record Placed (place : ℕ → ℕ) (x : ℕ) (cells : List ℕ) : Type 0 where
  pub long : length cells ≡ index_long
  pub places : (y : ℕ) → y < x → get_or cells y 0 ≡ place y
  pub unused : (i : ℕ) → x ≤ i → i < index_long → get_or cells i 0 ≡ no_entry

-- all places are stored, the entries from `from` on are in their two chains, and their priorities are stored
pub record Partly (f : List ℕ) (from : ℕ) (cells : List ℕ) : Type 0 where
  pub long : length cells ≡ index_long
  pub places : (x : ℕ) → x < 4096 → get_or cells x 0 ≡ place_at f x
  pub by_out_port : Chain (fabric_in f).entries (out_port_of (fabric_in f)) first_out next_out from cells
  pub by_in_port : Chain (fabric_in f).entries (in_port_of (fabric_in f)) first_in next_in from cells
  pub priorities : (e : ℕ) → from ≤ e → e < (fabric_in f).entries → get_or cells (ranks + e) 0 ≡ priority_of (fabric_in f) e

-- entry e at the front of a chain: cell `first` has it, and cell `next` what was the front before
abbrev pub pushed : List ℕ → ℕ → ℕ → ℕ → List ℕ
pushed cells first next e = set (set cells next (get_or cells first 0)) first e
