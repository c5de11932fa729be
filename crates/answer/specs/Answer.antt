-- What a call returns and leaves in the area lent: document 01, the last paragraph of "The back-trace and its count". Assumes nothing.
use Rattle.std.specs.Prelude.{List, [], ◌∷◌, ◌++◌, ℕ, ◌+◌, ◌*◌, ◌/◌, ◌%◌, length, take, drop, replicate}

-- "answers are little-endian words"
unfoldable pub bytes_of : List ℕ → List ℕ
bytes_of [] = []
bytes_of (w ∷ ws) = w % 256 ∷ w / 256 % 256 ∷ w / 65536 % 256 ∷ w / 16777216 % 256 ∷ bytes_of ws

-- the area with words written from word `at` on
unfoldable pub written_at : ℕ → List ℕ → List ℕ → List ℕ
written_at at ws area = take (4 * at) area ++ bytes_of ws ++ drop (4 * (at + length ws)) area

-- the number that a call returns, and the bytes of the area afterwards
pub record Outcome : Type 0 where
  pub returned : ℕ
  pub area : List ℕ

abbrev pub outcome : ℕ → List ℕ → Outcome
outcome r area = record { returned = r; area = area }

-- "Each returns place × 256 + number in 64 bits"; "after a no every lent byte stays"
unfoldable pub refused : ℕ → ℕ → List ℕ → Outcome
refused number place area = outcome (place * 256 + number) area

-- "success has number 0 and as place the words written. Bytes past those stay"
unfoldable pub answered : List ℕ → List ℕ → Outcome
answered ws area = outcome (length ws * 256) (bytes_of ws ++ drop (4 * length ws) area)

-- "entries in travelling order (16, unused ones 0)"
unfoldable pub sixteen : List ℕ → List ℕ
sixteen l = take 16 (l ++ replicate 16 0)

-- the words of a verdict's or a run's answer: four, a header of n words, and an entry for each hop
abbrev pub answer_words : ℕ → ℕ
answer_words n = 4 + n + 16
