-- What the crates above say of a file: that it is accepted, and what is known of an edge's and an entry's own bytes then, by themselves.
-- proofs/Accepted.antt has the laws.
use Rattle.std.specs.Prelude.{true, List, ◌≡◌, ℕ, ◌*◌, ◌≤◌, ◌<◌, length}
use Rattle.headers.specs.Sets.{WellFormed, Written, tidy, writes}
use Rattle.layout.specs.Words.{word_at, transfer_of}
use Rattle.layout.specs.Records.{width_in, edge_words, entry_words, edge_port, edge_admitted}
use Rattle.layout.specs.Records.{entry_in, entry_out, entry_match, entry_rewrite, entry_transfer, number_of}
use Rattle.layout.specs.Shape.{Shape}
use Rattle.questions.specs.Questions.{accepted}
use Rattle.questions.specs.Read.{Fabric}

-- the file is accepted with this shape, in a call for its own version
abbrev pub Accepted : List ℕ → Shape → Type 0
Accepted f s = accepted (width_in f) f ≡ Fabric s

-- the file is accepted and has an edge i
pub record HasEdge (f : List ℕ) (i : ℕ) : Type 0 where
  pub shape : Shape
  pub is_accepted : Accepted f shape
  pub below : i < shape.edges

-- the bytes of an edge whose headers have w words: 36, or 68 in version 2
pub record Edge (w : ℕ) (x : List ℕ) : Type 0 where
  pub long : length x ≡ 4 * edge_words w
  pub port_low : 1 ≤ edge_port x
  pub port_high : edge_port x ≤ 4095
  pub admitted : WellFormed w (edge_admitted w x)

-- the bytes of an entry: 72, or 136 in version 2
pub record Entry (w : ℕ) (x : List ℕ) : Type 0 where
  pub long : length x ≡ 4 * entry_words w
  pub in_low : 1 ≤ entry_in x
  pub in_high : entry_in x ≤ 4095
  pub out_high : entry_out x ≤ 4095
  pub differ : entry_in x ≡ entry_out x → ⊥
  pub matches : WellFormed w (entry_match w x)
  pub rewrites : Written w (entry_rewrite w x)
  -- the transfer is the one that the file numbers
  pub transfer : number_of (entry_transfer x) ≡ transfer_of (word_at x 1)
  pub rewrite_tidy : tidy w (writes (entry_rewrite w x)) ≡ true
