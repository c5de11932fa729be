-- The fabric that an accepted file describes, as forwarding sees it: document 01, "The fabric file". Assumes nothing.
use Rattle.std.specs.Prelude.{List, ℕ, zero, suc, ◌*◌, ltb, eqb}
use Rattle.headers.specs.Sets.{all_wild}
use Rattle.headers.specs.Actions.{no_action}
use Rattle.layout.specs.Words.{word_at, choice_of}
use Rattle.layout.specs.Records.{width_in, edge_group, edge_admitted, entry_priority, entry_in, entry_out, entry_match, entry_action}
use Rattle.layout.specs.Records.{place_of, port_of_edge, from_of_link, to_of_link, recent, edge_bytes, entry_bytes}
use Rattle.layout.specs.Shape.{Shape}
use Rattle.questions.specs.Questions.{pick, shape, accepted}
use Rattle.questions.specs.Tables.{number}
use Rattle.questions.specs.Read.{Read}
use Rattle.questions.specs.Read.{Fabric, No}
use Rattle.wide.specs.Forms.{wide_words}
use Rattle.file.specs.Accepted.{Accepted}
use Rattle.forwarding.specs.Fabric as Forwarding
use Rattle.forwarding.specs.Wider.{wider_to}

-- "A fabric is accepted if 1 to 7 all get a yes."
pub record AFabric (f : List ℕ) : Type 0 where
  pub shape : Shape
  pub is_accepted : Accepted f shape

-- how many records of each kind an accepted file has
abbrev pub shape_read : Read → Shape
shape_read (Fabric s) = s
shape_read (No q p) = shape 0 0 0 0

unfoldable pub shape_in : List ℕ → Shape
shape_in f = shape_read (accepted (width_in f) f)

-- what stands under a number that counts from 1; d under 0
abbrev pub under : {A : Type 0} → A → (ℕ → A) → ℕ → A
under d g zero = d
under d g (suc i) = g i

-- the entry with these bytes, in a file whose headers have w words
abbrev pub entry_from : ℕ → List ℕ → Forwarding.Entry
entry_from w x = record {
  priority = entry_priority x;
  in_port = entry_in x;
  out_port = entry_out x;
  matches = entry_match w x;
  action = entry_action w x;
}

-- what a number past the last entry reads as
abbrev pub no_entry : ℕ → Forwarding.Entry
no_entry w = record { priority = 0; in_port = 0; out_port = 0; matches = all_wild w; action = no_action w }

module _ (f : List ℕ) (s : Shape) where
  -- one more than the number of the edge at a port, of the link that begins there and of the link that ends there; 0 where there is none
  unfoldable pub edge_at : ℕ → ℕ
  edge_at x = number (recent (port_of_edge f) s.edges) x

  unfoldable pub link_beginning : ℕ → ℕ
  link_beginning x = number (recent (from_of_link f s.edges) s.links) x

  unfoldable pub link_ending : ℕ → ℕ
  link_ending x = number (recent (to_of_link f s.edges) s.links) x

  unfoldable pub fabric_of : Forwarding.Fabric
  fabric_of = record {
    words = width_in f;
    entries = s.entries;
    entry = λ e. pick (ltb e s.entries) (entry_from (width_in f) (entry_bytes f s e)) (no_entry (width_in f));
    is_edge = λ x. ltb 0 (edge_at x);
    group = λ x. under 0 (λ i. edge_group (edge_bytes f i)) (edge_at x);
    admitted = λ x. under (all_wild (width_in f)) (λ i. edge_admitted (width_in f) (edge_bytes f i)) (edge_at x);
    link_to = λ x. under 0 (to_of_link f s.edges) (link_beginning x);
    link_from = λ x. under 0 (from_of_link f s.edges) (link_ending x);
    ports = 4096;
    miss_drops = eqb (choice_of (word_at f 0)) 1;
  }

-- the fabric of a file
unfoldable pub fabric_in : List ℕ → Forwarding.Fabric
fabric_in f = fabric_of f (shape_in f)

-- the same with headers of eight words, of which version 1 cares for the first four: the fabric that the code goes by
abbrev pub wide_in : List ℕ → Forwarding.Fabric
wide_in f = wider_to wide_words (fabric_in f)

-- the byte at which the entries of an accepted file begin
unfoldable pub entries_at : List ℕ → ℕ
entries_at f = 4 * place_of (width_in f) (shape_in f).edges (shape_in f).links 0
