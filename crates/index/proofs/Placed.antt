-- The places of an index on its way: after every edge and every link they are as the records passed have it. Assumes nothing.
use mathlib.Core.List.{List, ◌++◌}
use mathlib.Core.Path.{◌≡◌, refl, sym, ap, ◌∙◌, subst}
use Prim.Native.Nat.{ℕ, zero, suc, ◌+◌, ◌-◌, ◌≤◌, ◌<◌}
use native.Mathlib.Decide.{ℕ_discrete}
use native.Mathlib.Omega.{arith}
use borrow.Author.Tests.{eq-eqb, ne_eqb, lt-ltb}
use lib.ListN.{length, get_or, set, take, drop, length-set, replicate, length-replicate, get_or-replicate, get_or-append}
use lib.Seq.{get_or-set_same, get_or-set_other, length-take-le}
use Rattle.std.proofs.Common.{length-append, length-drop, get_or-drop, get_or-append-add}
use Rattle.layout.specs.Records.{port_of_edge, from_of_link, to_of_link, recent}
use Rattle.layout.specs.Shape.{Shape}
use Rattle.questions.specs.Tables.{number}
use Rattle.questions.proofs.Lists.{recent_more, recent_long, number_has}
use Rattle.file.specs.Accepted.{Accepted}
use Rattle.file.proofs.Accepted.{no_edge_at_to}
use Rattle.model.specs.Model.{edge_at, link_ending, fabric_of, fabric_in}
use Rattle.model.proofs.Shapes.{shape_is}
use Rattle.index.specs.Chains.{no_entry}
use Rattle.index.specs.Index.{place_at, index_long}
use Rattle.index.specs.Building.{no_place, place_by, place_after, Placed}

-- ---- no place yet

-- an array of 'no entry' everywhere
pub placed_none : Placed no_place 0 (replicate index_long no_entry)
placed_none = record {
  long = length-replicate {A = ℕ} index_long no_entry;
  places = λ y l. absurd (omega arith);
  unused = λ i _ l. get_or-replicate {A = ℕ} index_long i no_entry 0 l;
}

-- n cells in front are cleared
cleared : (n : ℕ) (front cells : List ℕ) → n ≤ 4096 → front ≡ replicate n 0 → Placed no_place 0 cells
    → Placed no_place n (front ++ drop n cells)
cleared n front cells small is p = record {
  long = length-append front (drop n cells) ∙ omega (arith, long, length-drop n cells, p.long);
  places = λ y l. get_or-append front (drop n cells) 0 y (omega (arith, long)) ∙ rw is (get_or-replicate {A = ℕ} n y 0 0 l);
  unused = λ i l m.
      let at : i ≡ length front + (i - n) = omega (arith, long) in
      let here : n + (i - n) ≡ i = omega arith in
      rw at (get_or-append-add front (drop n cells) (i - n) 0 ∙ get_or-drop n cells (i - n) 0
      ∙ ap (λ (j : ℕ). get_or cells j 0) here ∙ p.unused i (omega arith) m);
}
  where
    long : length front ≡ n
    long = ap length is ∙ length-replicate {A = ℕ} n 0

-- the cells of all ports
pub placed_cleared : (front cells : List ℕ) → front ≡ replicate (length (take 4096 cells)) 0 → Placed no_place 0 cells
    → Placed no_place 4096 (front ++ drop 4096 cells)
placed_cleared front cells is p =
    let all : length (take 4096 cells) ≡ 4096 = length-take-le 4096 cells (omega (arith, p.long)) in
    cleared 4096 front cells (omega arith) (subst (λ (n : ℕ). front ≡ replicate n 0) all is) p

-- ---- the place of one port is another

module _ (g h : ℕ → ℕ) (i v : ℕ) (l : i < 4096) (here : h i ≡ v)
    (elsewhere : (x : ℕ) → (x ≡ i → ⊥) → h x ≡ g x) where
  placed_at : (cells : List ℕ) → Placed g 4096 cells → Placed h 4096 (set cells i v)
  placed_at cells p = record {
    long = length-set cells i v ∙ p.long;
    places = λ x m. at x m (ℕ_discrete x i);
    unused = λ k m n. get_or-set_other cells i k v 0 (λ z. omega arith) ∙ p.unused k m n;
  }
    where
      at : (x : ℕ) → x < 4096 → Dec (x ≡ i) → get_or (set cells i v) x 0 ≡ h x
      at x m (yes d) = rw d (get_or-set_same cells i v 0 (omega arith) ∙ sym here)
      at x m (no d) = get_or-set_other cells i x v 0 d ∙ p.places x m ∙ sym (elsewhere x d)

-- the latest of n + 1 records is numbered at its port, and at any other port the latest of n
module _ (g : ℕ → ℕ) (n : ℕ) where
  number_latest : number (recent g (n + 1)) (g n) ≡ suc n
  number_latest = rw (recent_more g n, eq-eqb (g n) (g n) refl, recent_long g n)

  number_before : (x : ℕ) → (x ≡ g n → ⊥) → number (recent g (n + 1)) x ≡ number (recent g n) x
  number_before x d = rw (recent_more g n, ne_eqb x (g n) d)

-- ---- an edge more, and then a link more: one that does not end at an edge port

module _ (f : List ℕ) where
  pub edge_placed : (k port : ℕ) (cells : List ℕ) → port ≡ port_of_edge f k
      → Placed (place_after f k 0) 4096 cells → Placed (place_after f (k + 1) 0) 4096 (set cells port (4096 + k))
  unfolding place_after
  edge_placed k port cells at p =
      rw at (placed_at (place_after f k 0) (place_after f (k + 1) 0) (port_of_edge f k) (4096 + k) (omega arith)
      (ap (λ (n : ℕ). place_by f n 0) (number_latest (port_of_edge f) k) ∙ rw (lt-ltb 0 (suc k) (omega arith)) (omega arith))
      (λ x d. ap (λ (n : ℕ). place_by f n 0) (number_before (port_of_edge f) k x d))
      cells p)

module _ (f : List ℕ) (s : Shape) (ok : Accepted f s) where
  -- no edge has the port where link l ends
  no_edge : (l : ℕ) → l < s.links → number (recent (port_of_edge f) s.edges) (to_of_link f s.edges l) ≡ 0
  no_edge l m = go (number (recent (port_of_edge f) s.edges) (to_of_link f s.edges l)) refl
    where
      go : (n : ℕ) → number (recent (port_of_edge f) s.edges) (to_of_link f s.edges l) ≡ n → n ≡ 0
      go zero d = refl
      go (suc i) d =
          let h = number_has (port_of_edge f) s.edges (to_of_link f s.edges l) i d in
          absurd (no_edge_at_to f s ok i l h.0 m h.1)

  pub link_placed : (l from to : ℕ) (cells : List ℕ) → l < s.links → from ≡ from_of_link f s.edges l
      → to ≡ to_of_link f s.edges l
      → Placed (place_after f s.edges l) 4096 cells → Placed (place_after f s.edges (l + 1)) 4096 (set cells to from)
  unfolding place_after
  link_placed l from to cells m is at p =
      rw at (placed_at (place_after f s.edges l) (place_after f s.edges (l + 1)) (to_of_link f s.edges l) from (omega arith)
      (rw (shape_is f s ok, no_edge l m, number_latest (to_of_link f s.edges) l) (sym is))
      (λ x d. rw (shape_is f s ok, number_before (to_of_link f s.edges) l x d))
      cells p)

  -- after all records the places are the fabric's
  pub all_placed : place_after f s.edges s.links ≡ place_at f
  unfolding place_after place_at fabric_in fabric_of edge_at link_ending
  all_placed = rw (← shape_is f s ok)
