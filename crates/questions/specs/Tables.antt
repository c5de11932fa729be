-- Tables by port, which the code keeps so that no question looks through the records passed. Assumes nothing.
use Rattle.std.specs.Prelude.{List, [], ◌∷◌, ◌≡◌, ℕ, suc, ◌<◌, eqb, length, get_or}
use Rattle.layout.specs.Records.{port_of_edge, from_of_link, to_of_link, recent}
use Rattle.questions.specs.Questions.{pick, times}

-- a table of 4,096 holds the function's values
pub record Table (g : ℕ → ℕ) (t : List ℕ) : Type 0 where
  pub long : length t ≡ 4096
  pub holds : (p : ℕ) → p < 4096 → get_or t p 0 ≡ g p

-- one more than the number of the latest record with the port p, of those passed; 0 if none has it
abbrev pub number : List ℕ → ℕ → ℕ
number [] p = 0
number (q ∷ qs) p = pick (eqb p q) (suc (length qs)) (number qs p)

abbrev pub Numbers : List ℕ → List ℕ → Type 0
Numbers ports t = Table (number ports) t

-- the first e edges by their ports, and the first l links after e edges by where they start and by where they end
abbrev pub EdgeTable : List ℕ → ℕ → List ℕ → Type 0
EdgeTable f e t = Numbers (recent (port_of_edge f) e) t

abbrev pub StartTable : List ℕ → ℕ → ℕ → List ℕ → Type 0
StartTable f e l t = Numbers (recent (from_of_link f e) l) t

abbrev pub EndTable : List ℕ → ℕ → ℕ → List ℕ → Type 0
EndTable f e l t = Numbers (recent (to_of_link f e) l) t

-- how many of the records passed have a port
abbrev pub Counts : List ℕ → List ℕ → Type 0
Counts ports t = Table (λ p. times p ports) t
