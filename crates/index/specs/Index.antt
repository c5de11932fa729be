-- The index of an accepted file, which is made once a call so that no stop walks all entries to find its own, and no trial all entries to
-- find the next beater. Assumes nothing.
use Rattle.std.specs.Prelude.{cond, List, ◌≡◌, ℕ, ◌+◌, ◌<◌, length, get_or}
use Rattle.forwarding.specs.Fabric.{in_port_of, out_port_of, priority_of}
use Rattle.model.specs.Model.{fabric_in, shape_in, edge_at}
use Rattle.index.specs.Chains.{Chain}

-- where a part at an in-port comes from: 4,096 + k at edge k, else the from-port of the link that ends there, else 0
unfoldable pub place_at : List ℕ → ℕ → ℕ
place_at f x = cond ((fabric_in f).is_edge x) (4095 + edge_at f (shape_in f) x) ((fabric_in f).link_from x)

-- the cells, after the 4,096 of the places: by port the first entry with this out-port, and with this in-port; by entry the next with
-- its out-port, and with its in-port, and its priority
abbrev pub first_out : ℕ
first_out = 4096

abbrev pub first_in : ℕ
first_in = 8192

abbrev pub next_out : ℕ
next_out = 12288

abbrev pub next_in : ℕ
next_in = 12800

abbrev pub ranks : ℕ
ranks = 13312

-- how many cells there are
abbrev pub index_long : ℕ
index_long = 13824

pub record Index (f cells : List ℕ) : Type 0 where
  pub long : length cells ≡ index_long
  pub places : (x : ℕ) → x < 4096 → get_or cells x 0 ≡ place_at f x
  pub by_out_port : Chain (fabric_in f).entries (out_port_of (fabric_in f)) first_out next_out 0 cells
  pub by_in_port : Chain (fabric_in f).entries (in_port_of (fabric_in f)) first_in next_in 0 cells
  pub priorities : (e : ℕ) → e < (fabric_in f).entries → get_or cells (ranks + e) 0 ≡ priority_of (fabric_in f) e
