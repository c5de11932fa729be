-- The fabric of an accepted file: its shape, its edges, links and entries as the file has them. Assumes nothing.
use mathlib.Core.Bool.{Bool, true}
use mathlib.Core.List.{List}
use mathlib.Core.Path.{◌≡◌, refl, ap, ◌∙◌}
use Prim.Native.Nat.{ℕ, zero, suc, ◌<◌}
use native.Mathlib.Omega.{arith}
use lib.Dec.{ltb, eqb}
use borrow.Author.Tests.{lt-ltb}
use Rattle.layout.specs.Words.{word_at, choice_of}
use Rattle.layout.specs.Records.{width_in, edge_group, edge_admitted, port_of_edge, edge_bytes, entry_bytes, recent}
use Rattle.layout.specs.Shape.{Shape}
use Rattle.questions.specs.Questions.{pick}
use Rattle.questions.specs.Tables.{number}
use Rattle.questions.proofs.Lists.{number_is, number_has}
use Rattle.file.specs.Accepted.{Accepted}
use Rattle.file.proofs.Accepted.{edges_differ}
use Rattle.model.specs.Model.{shape_read, shape_in, under, entry_from, no_entry, edge_at, fabric_of, fabric_in}

pub shape_is : (f : List ℕ) (s : Shape) → Accepted f s → shape_in f ≡ s
unfolding shape_in
shape_is f s ok = ap shape_read ok

pub fabric_is : (f : List ℕ) (s : Shape) → Accepted f s → fabric_in f ≡ fabric_of f s
unfolding fabric_in
fabric_is f s ok = ap (fabric_of f) (shape_is f s ok)

-- whether a packet that no entry takes is dropped is one bit of the file
pub miss_is : (f : List ℕ) → (fabric_in f).miss_drops ≡ eqb (choice_of (word_at f 0)) 1
unfolding fabric_in fabric_of
miss_is f = refl

-- F9
pub ports_are : (f : List ℕ) → (fabric_in f).ports ≡ 4096
unfolding fabric_in fabric_of
ports_are f = refl

module _ (f : List ℕ) (s : Shape) where
  -- an entry reads as its own bytes say
  pub entry_is : (e : ℕ) → e < s.entries → (fabric_of f s).entry e ≡ entry_from (width_in f) (entry_bytes f s e)
  unfolding fabric_of
  entry_is e l = ap (λ (b : Bool). pick b (entry_from (width_in f) (entry_bytes f s e)) (no_entry (width_in f))) (lt-ltb e s.entries l)

  module _ (ok : Accepted f s) (k : ℕ) (l : k < s.edges) where
    -- edge k stands at its port
    pub edge_at_lem : edge_at f s (port_of_edge f k) ≡ suc k
    unfolding edge_at
    edge_at_lem = number_is (port_of_edge f) s.edges (edges_differ f s ok) k l

    pub edge_is : (fabric_of f s).is_edge (port_of_edge f k) ≡ true
    unfolding fabric_of
    edge_is = ap (ltb 0) edge_at_lem ∙ lt-ltb 0 (suc k) (omega arith)

    pub group_is : (fabric_of f s).group (port_of_edge f k) ≡ edge_group (edge_bytes f k)
    unfolding fabric_of
    group_is = ap (under 0 (λ i. edge_group (edge_bytes f i))) edge_at_lem

    pub admitted_is : (fabric_of f s).admitted (port_of_edge f k) ≡ edge_admitted (width_in f) (edge_bytes f k)
    unfolding fabric_of
    admitted_is = ap (under _ (λ i. edge_admitted (width_in f) (edge_bytes f i))) edge_at_lem

  -- and an edge port is some edge's
  pub record EdgeThere (x : ℕ) : Type 0 where
    pub number_then : ℕ
    pub below : number_then < s.edges
    pub port_is : port_of_edge f number_then ≡ x
    pub at_is : edge_at f s x ≡ suc number_then

  pub edge_there : (x : ℕ) → (fabric_of f s).is_edge x ≡ true → EdgeThere x
  unfolding fabric_of edge_at
  edge_there x e = go (number (recent (port_of_edge f) s.edges) x) refl e
    where
      go : (m : ℕ) → number (recent (port_of_edge f) s.edges) x ≡ m → ltb 0 m ≡ true → EdgeThere x
      go zero d e = absurd (mathlib.Core.Bool.false≢true e)
      go (suc i) d e =
          let h = number_has (port_of_edge f) s.edges x i d in
          record { number_then = i; below = h.0; port_is = h.1; at_is = d }
