-- The questions' state by three numbers: the record after e edges, l links and n entries. Nobody outside needs to believe these: they
-- are what the reader's functions promise each other, and `accept` promises `accepted`.
use Rattle.std.specs.Prelude.{Bool, ◌&&◌, List, ◌≡◌, ℕ, ◌+◌, ◌≤◌, ◌<◌, ltb, eqb}
use Rattle.layout.specs.Words.{word_at, words_in, kind_of}
use Rattle.layout.specs.Records.{place_in, port_of_edge, from_of_link, to_of_link, in_of_entry, recent}
use Rattle.layout.specs.Limits.{most_words}
use Rattle.questions.specs.Questions.{pick, Passed, asked}

-- a file that question 1 lets through has at least two words, and at most 14,946
pub record Bounded (f : List ℕ) : Type 0 where
  pub low : 2 ≤ words_in f
  pub high : words_in f ≤ most_words

-- the kind of the last record, the start's being 1
abbrev pub last_kind : ℕ → ℕ → ℕ → ℕ
last_kind e l n = pick (ltb 0 n) 4 (pick (ltb 0 l) 3 (pick (ltb 0 e) 2 1))

unfoldable pub passed_at : List ℕ → ℕ → ℕ → ℕ → Passed
passed_at f e l n = record {
  place = place_in f e l n;
  last_kind_lem = last_kind e l n;
  edges = recent (port_of_edge f) e;
  froms = recent (from_of_link f e) l;
  tos = recent (to_of_link f e) l;
  ins = recent (in_of_entry f e l) n;
}

-- the number of the first no that the record gets; 0 if it gets none
abbrev pub asked_at : List ℕ → ℕ → ℕ → ℕ → ℕ
asked_at f e l n = asked f (passed_at f e l n)

-- the record has the first word w, of kind k
pub record Here (f : List ℕ) (e l n k w : ℕ) : Type 0 where
  pub inside : place_in f e l n < words_in f
  pub word_is : w ≡ word_at f (place_in f e l n)
  pub kind_is : kind_of w ≡ k

-- an end stands at this place, as the last word
abbrev pub ends_at : List ℕ → ℕ → Bool
ends_at f place = eqb (place + 1) (words_in f) && eqb (word_at f place) 0x50000000
