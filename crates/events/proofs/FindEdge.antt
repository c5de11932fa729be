-- What forwarding sees at the port of an accepted file's edge is what the edge's own bytes say. Assumes nothing.
use mathlib.Core.List.{List}
use mathlib.Core.Path.{◌≡◌, ap, ◌∙◌}
use Prim.Native.Nat.{ℕ, suc, ◌*◌}
use lib.ListN.{length}
use Rattle.headers.specs.Sets.{Set, all_wild}
use Rattle.layout.specs.Records.{width_in, admitted_at, edge_words, edge_group, edge_admitted, port_of_edge, edge_bytes, recent}
use Rattle.layout.specs.Shape.{Shape}
use Rattle.layout.proofs.Widths.{width_is}
use Rattle.wide.specs.Forms.{widest, stored_at}
use Rattle.questions.specs.Tables.{number}
use Rattle.questions.proofs.Lists.{number_is}
use Rattle.file.specs.Accepted.{HasEdge}
use Rattle.file.proofs.Accepted as accepted
use Rattle.model.specs.Model.{shape_read, shape_in, under, edge_at, fabric_of, fabric_in, wide_in}
use Rattle.events.specs.Asked.{EdgeLong}

module _ {f : List ℕ} {k : ℕ} (has : HasEdge f k) where
  pub edge_long : EdgeLong (width_in f) (edge_bytes f k)
  edge_long = record { width = width_is f; long = long }
    where
      long : length (edge_bytes f k) ≡ 4 * edge_words (width_in f)
      long = (accepted.edge_of f has.shape has.is_accepted k has.below).long

  -- edge ports differ, so the edge at edge k's port is edge k
  numbered : edge_at f (shape_in f) (port_of_edge f k) ≡ suc k
  unfolding shape_in edge_at
  numbered =
      ap (λ (s : Shape). number (recent (port_of_edge f) s.edges) (port_of_edge f k)) (ap shape_read has.is_accepted)
      ∙ number_is (port_of_edge f) has.shape.edges (accepted.edges_differ f has.shape has.is_accepted) k has.below

  pub group_is : (fabric_in f).group (port_of_edge f k) ≡ edge_group (edge_bytes f k)
  unfolding fabric_in fabric_of
  group_is = ap (under 0 (λ i. edge_group (edge_bytes f i))) numbered

  admitted_read : (fabric_in f).admitted (port_of_edge f k) ≡ edge_admitted (width_in f) (edge_bytes f k)
  unfolding fabric_in fabric_of
  admitted_read = ap (under (all_wild (width_in f)) (λ i. edge_admitted (width_in f) (edge_bytes f i))) numbered

  pub admitted_is : (wide_in f).admitted (port_of_edge f k) ≡ stored_at (width_in f) (edge_bytes f k) admitted_at
  unfolding fabric_in fabric_of
  admitted_is = ap (λ (s : Set). widest (width_in f) s) admitted_read
