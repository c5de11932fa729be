-- Questions 8 to 11, as verdict, list and run ask them of a query.
use Rattle.std.specs.Prelude.{Bool, not, ◌&&◌, ◌||◌, List, [], ◌∷◌, ℕ, ◌-◌, ◌^◌, leb, eqb}
use Rattle.headers.specs.Bits.{word, every}
use Rattle.headers.specs.Sets.{Set}
use Rattle.questions.specs.Questions.{pick, clean, Question, ◌asks◌}
use Rattle.forwarding.specs.Fabric.{Fabric}

-- 9. "Is the hop limit 1 to 16?"
abbrev pub limit_right : ℕ → Bool
limit_right limit = leb 1 limit && leb limit 16

-- 10. ".. and for a run all 128 bits cared for?" In version 2 all but the last eight of word 7, which must be zero.
abbrev pub all_bits : ℕ → ℕ
all_bits w = pick (eqb w 7) (2 ^ 32 - 2 ^ 8) (2 ^ 32 - 1)

-- of a set of n words
abbrev pub cares_for_all : ℕ → Set → Bool
cares_for_all n s = every n (λ w. eqb (word s.care w) (all_bits w))

-- Q8 of a list: the target is an edge port, or it is 0 where a packet that no entry takes is lost
abbrev pub list_target : Fabric → ℕ → Bool
list_target F target = F.is_edge target || (eqb target 0 && not F.miss_drops)

-- Q8 by what it asks of the target, Q9 and Q10, of a set of n words: what verdict and list ask first
abbrev pub trace_questions : ℕ → Bool → ℕ → Set → List Question
trace_questions n right limit asked = 8 asks right ∷ 9 asks limit_right limit ∷ 10 asks clean n asked ∷ []
