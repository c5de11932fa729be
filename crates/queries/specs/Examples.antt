-- Where questions 8 to 11 (Q8 to Q11) change their answer, and the order of those that verdict and list ask first, computed.
use Rattle.std.specs.Prelude.{true, false, [], ◌∷◌, ◌≡◌, refl, ℕ}
use Rattle.headers.specs.Sets.{Set, all_wild, beside}
use Rattle.questions.specs.Questions.{first_no}
use Rattle.forwarding.specs.Fabric.{Fabric}
use Rattle.forwarding.specs.Examples.{header, set, linked_under}
use Rattle.queries.specs.Queries.{limit_right, cares_for_all, list_target, trace_questions}

limits : (limit_right 0 ∷ limit_right 1 ∷ limit_right 16 ∷ limit_right 17 ∷ []) ≡ false ∷ true ∷ true ∷ false ∷ []
limits = refl

-- every bit cared for, and every bit but the last
cares : (cares_for_all 4 (set (header 0xffffffff 0xffffffff 0xffffffff 0xffffffff) (header 0 0 0 0))
    ∷ cares_for_all 4 (set (header 0xffffffff 0xffffffff 0xffffffff 0xfffffffe) (header 0 0 0 0))
    ∷ [])
    ≡ true ∷ false ∷ []
cares = refl

-- a set of eight words that cares for every bit of the first seven
abbrev seven : ℕ → Set
seven last =
    beside
    (set (header 0xffffffff 0xffffffff 0xffffffff 0xffffffff) (header 0 0 0 0))
    (set (header 0xffffffff 0xffffffff 0xffffffff last) (header 0 0 0 0))

-- of the last all but the last eight bits, the first of these too, and one bit fewer
cares_wide : (cares_for_all 8 (seven 0xffffff00) ∷ cares_for_all 8 (seven 0xffffff80) ∷ cares_for_all 8 (seven 0xfffffe00) ∷ [])
    ≡ true ∷ false ∷ false ∷ []
cares_wide = refl

-- edge ports 1 and 2, under OpenFlow 1.0 and under 1.3
abbrev old : Fabric
old = linked_under false 3 4 []

abbrev new : Fabric
new = linked_under true 3 4 []

-- an edge port, a link's port, and 0
old_targets : (list_target old 1 ∷ list_target old 3 ∷ list_target old 0 ∷ []) ≡ true ∷ false ∷ true ∷ []
old_targets = refl

new_targets : (list_target new 1 ∷ list_target new 3 ∷ list_target new 0 ∷ []) ≡ true ∷ false ∷ false ∷ []
new_targets = refl

-- a value bit outside care
abbrev untidy : Set
untidy = set (header 0 0 0 0) (header 0 0 0 1)

in_turn : (first_no (trace_questions 4 false 0 untidy)
    ∷ first_no (trace_questions 4 true 0 untidy)
    ∷ first_no (trace_questions 4 true 16 untidy)
    ∷ first_no (trace_questions 4 true 16 (all_wild 4))
    ∷ [])
    ≡ 8 ∷ 9 ∷ 10 ∷ 0 ∷ []
in_turn = refl

-- the last eight bits of eight words may not be cared for; those of four may
spare : (first_no (trace_questions 8 true 16 (seven 0xffffff00))
    ∷ first_no (trace_questions 8 true 16 (seven 0xffffff01))
    ∷ first_no (trace_questions 4 true 16 (set (header 0 0 0 1) (header 0 0 0 1)))
    ∷ [])
    ≡ 0 ∷ 10 ∷ 0 ∷ []
spare = refl
