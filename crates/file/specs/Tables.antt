-- The tables by port that the reader of a file leaves. Assumes nothing.
use Rattle.std.specs.Prelude.{List, [], ℕ}
use Rattle.questions.specs.Tables.{Numbers, EdgeTable, StartTable, EndTable}
use Rattle.questions.specs.Read.{Read}
use Rattle.questions.specs.Read.{Fabric, No}

abbrev pub Empty : List ℕ → Type 0
Empty t = Numbers [] t

-- the edge with a port, the link that starts there and the link that ends there
pub record Indexed (f : List ℕ) (e l : ℕ) (edges starts ends : List ℕ) : Type 0 where
  pub edge_at_lem : EdgeTable f e edges
  pub start_at : StartTable f e l starts
  pub end_at : EndTable f e l ends

-- the tables of an accepted file
abbrev pub Tabled : List ℕ → Read → List ℕ → List ℕ → List ℕ → Type 0
Tabled f (Fabric s) edges starts ends = Indexed f s.edges s.links edges starts ends
Tabled f (No q p) edges starts ends = Unit
