-- What the tables of an accepted file say of its fabric. Assumes nothing.
use mathlib.Core.Bool.{true, false}
use mathlib.Core.List.{List}
use mathlib.Core.Path.{◌≡◌, sym, ap, ◌∙◌}
use Prim.Native.Nat.{ℕ, suc, ◌≤◌, ◌<◌}
use native.Mathlib.Omega.{arith}
use lib.Dec.{ltb}
use lib.ListN.{get_or}
use Rattle.headers.proofs.Booleans.{refuted}
use Rattle.layout.specs.Records.{edge_group, from_of_link, to_of_link, edge_bytes}
use Rattle.layout.specs.Shape.{Shape}
use Rattle.questions.specs.Tables.{EdgeTable, StartTable}
use Rattle.questions.proofs.Lists.{number_has}
use Rattle.file.specs.Accepted.{Accepted}
use Rattle.file.proofs.Accepted.{edge_port_low}
use Rattle.forwarding.specs.Fabric as Forwarding
use Rattle.model.specs.Model.{under, edge_at, link_beginning, fabric_of, fabric_in}
use Rattle.model.proofs.Shapes.{fabric_is, edge_there}

module _ (f : List ℕ) (s : Shape) (ok : Accepted f s) where
  -- past the last port there is no edge
  pub edge_past : (x : ℕ) → 4096 ≤ x → (fabric_in f).is_edge x ≡ false
  edge_past x l = ap (λ (F : Forwarding.Fabric). F.is_edge x) (fabric_is f s ok) ∙ refuted _ λ e.
      let d = edge_there f s x e in
      omega (arith, d.port_is)

  pub edge_looked_up : (t : List ℕ) → EdgeTable f s.edges t → (x : ℕ) → x < 4096
      → ltb 0 (get_or t x 0) ≡ (fabric_in f).is_edge x
  unfolding fabric_of edge_at
  edge_looked_up t T x l = ap (ltb 0) (T.holds x l) ∙ sym (ap (λ (F : Forwarding.Fabric). F.is_edge x) (fabric_is f s ok))

  -- the edge at an edge port
  pub record EdgeFound (t : List ℕ) (x : ℕ) : Type 0 where
    pub edge : ℕ
    pub below : edge < s.edges
    pub numbered : get_or t x 0 ≡ suc edge
    pub low : 1 ≤ x
    pub high : x < 4096
    pub group_is : (fabric_in f).group x ≡ edge_group (edge_bytes f edge)

  pub edge_found : (t : List ℕ) → EdgeTable f s.edges t → (x : ℕ) → (fabric_in f).is_edge x ≡ true → EdgeFound t x
  unfolding fabric_of edge_at
  edge_found t T x e =
      let d = edge_there f s x (ap (λ (F : Forwarding.Fabric). F.is_edge x) (sym (fabric_is f s ok)) ∙ e) in
      let high : x < 4096 = omega (arith, d.port_is) in
      record {
        edge = d.number_then;
        below = d.below;
        numbered = T.holds x high ∙ d.at_is;
        low = omega (arith, d.port_is, edge_port_low f s ok d.number_then d.below);
        high = high;
        group_is = ap (λ (F : Forwarding.Fabric). F.group x) (fabric_is f s ok)
            ∙ ap (under 0 (λ i. edge_group (edge_bytes f i))) d.at_is;
      }

  module _ (t : List ℕ) (T : StartTable f s.edges s.links t) (x : ℕ) (l : x < 4096) where
    link_under : (fabric_in f).link_to x ≡ under 0 (to_of_link f s.edges) (get_or t x 0)
    unfolding fabric_of link_beginning
    link_under =
        ap (λ (F : Forwarding.Fabric). F.link_to x) (fabric_is f s ok)
        ∙ ap (under 0 (to_of_link f s.edges)) (sym (T.holds x l))

    pub no_link : get_or t x 0 ≡ 0 → (fabric_in f).link_to x ≡ 0
    no_link e = link_under ∙ ap (under 0 (to_of_link f s.edges)) e

    pub link_looked_up : (i : ℕ) → get_or t x 0 ≡ suc i → (fabric_in f).link_to x ≡ to_of_link f s.edges i
    link_looked_up i e = link_under ∙ ap (under 0 (to_of_link f s.edges)) e

    pub link_number : (i : ℕ) → get_or t x 0 ≡ suc i → i < s.links
    link_number i e = (number_has (from_of_link f s.edges) s.links x i (sym (T.holds x l) ∙ e)).0
