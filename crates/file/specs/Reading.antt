-- What the loops over records promise each other. Nobody outside needs to believe these: `accept` promises `accepted`.
use Rattle.std.specs.Prelude.{List, ◌≡◌, ℕ, ◌+◌, ◌-◌, ◌≤◌, ◌<◌, Err}
use Rattle.layout.specs.Words.{word_at, words_in, kind_of}
use Rattle.layout.specs.Records.{place_in}
use Rattle.questions.specs.Questions.{records, or_else}
use Rattle.questions.specs.Reading.{passed_at}
use Rattle.questions.specs.Read.{Read}
use Rattle.questions.specs.Refusals.{read_of}
use Rattle.questions.specs.declared.No.{No}

-- what the questions answer from the record after e edges, l links and n entries on
unfoldable pub rest : List ℕ → ℕ → ℕ → ℕ → Read
rest f e l n = records (words_in f - (e + l + n)) f (passed_at f e l n)

-- ---- a run of records of one kind, begun after e₀ edges, l₀ links and n₀ entries

-- read to here: the next record gets the no q, or, if q is 0, is of another kind
pub record RunRead (f : List ℕ) (k e₀ l₀ n₀ e l n q : ℕ) : Type 0 where
  pub inside : place_in f e l n ≤ words_in f
  pub answer : rest f e₀ l₀ n₀ ≡ or_else q (place_in f e l n) (rest f e l n)
  pub done : q ≡ 0 → place_in f e l n < words_in f → kind_of (word_at f (place_in f e l n)) ≡ k → ⊥

-- a no that the questions answer from the record after e edges, l links and n entries on
abbrev pub Refused : List ℕ → ℕ → ℕ → ℕ → No → Type 0
Refused f e l n first = read_of (Err first) ≡ rest f e l n
