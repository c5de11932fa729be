-- The words of a find (A13) and of 'reached' (A9), computed: port, hops and entries differ, so that no two can be changed about. Assumes
-- nothing.
use Rattle.std.specs.Prelude.{[], ◌∷◌, ◌++◌, ◌≡◌, refl, ℕ, replicate, Ok, Err}
use Rattle.answer.specs.Answer.{sixteen}
use Rattle.forwarding.specs.Trace.{Find}
use Rattle.events.specs.Play.{find_words, narrow_find, list_words, reached_words}
use Rattle.events.specs.Asked.{mode_number, status_of}
use Rattle.events.specs.declared.Mode.TheVariants as Modes
use Rattle.events.specs.declared.Halt.TheVariants.{BudgetUsed, Reached}

-- port 12, three hops by entries 5, 4 and 2
abbrev a_find : Find
a_find = record {
  port = 12;
  path = 5 ∷ 4 ∷ 2 ∷ [];
  set = record { care = 1 ∷ 2 ∷ 3 ∷ 4 ∷ []; value = 6 ∷ 7 ∷ 8 ∷ 9 ∷ [] };
}

find_words_lem : find_words a_find
    ≡ 0x6000300c ∷ 0x70000005 ∷ 0x70000004 ∷ 0x70000002 ∷ 1 ∷ 2 ∷ 3 ∷ 4 ∷ 6 ∷ 7 ∷ 8 ∷ 9 ∷ []
unfolding find_words
find_words_lem = refl

-- the same find of eight words, as a file of version 1 has it: the first four of care and of value
abbrev a_wide_find : Find
a_wide_find = record {
  port = 12;
  path = 5 ∷ 4 ∷ 2 ∷ [];
  set = record { care = 1 ∷ 2 ∷ 3 ∷ 4 ∷ 0 ∷ 0 ∷ 0 ∷ 0 ∷ []; value = 6 ∷ 7 ∷ 8 ∷ 9 ∷ 0 ∷ 0 ∷ 0 ∷ 0 ∷ [] };
}

narrow_find_lem : narrow_find 4 a_wide_find ≡ a_find
narrow_find_lem = refl

-- one find's words right after the other's, in order
abbrev another_find : Find
another_find = record { port = 9; path = 3 ∷ []; set = record { care = []; value = [] } }

list_words_lem : list_words (a_find ∷ another_find ∷ []) ≡ find_words a_find ++ (0x60001009 ∷ 0x70000003 ∷ [])
unfolding find_words list_words
list_words_lem = refl

-- 7 units, port 12, three hops
reached_words_lem : reached_words 7 12 (5 ∷ 4 ∷ 2 ∷ []) (1 ∷ 6 ∷ 8 ∷ 9 ∷ [])
    ≡ 1 ∷ 7 ∷ 12 ∷ 3 ∷ 1 ∷ 6 ∷ 8 ∷ 9 ∷ 5 ∷ 4 ∷ 2 ∷ replicate 13 0
unfolding sixteen reached_words
reached_words_lem = refl

-- the list and the verdict
mode_numbers : (mode_number Modes.List ∷ mode_number Modes.Judge ∷ []) ≡ 2 ∷ 3 ∷ []
mode_numbers = refl

-- through, the budget used, and the verdict stops
statuses : (status_of {T = ℕ} (Ok 5) ∷ status_of {T = ℕ} (Err BudgetUsed) ∷ status_of {T = ℕ} (Err Reached) ∷ [])
    ≡ 0 ∷ 1 ∷ 2 ∷ []
statuses = refl
