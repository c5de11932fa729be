-- Document 01, "Checked examples": E1 to E10 as one table of what the rules compute, proved in proofs/Examples.antt. Assumes nothing.
use Rattle.std.specs.Prelude.{List, [], ◌∷◌, ◌++◌, ◌≡◌, ℕ, ◌≤◌, length, replicate}
use Rattle.std.proofs.Math.Option.{some, none}
use Rattle.headers.specs.Sets.{Set, all_wild}
use Rattle.headers.specs.Actions.{Act}
use Rattle.answer.specs.Answer.{Outcome, bytes_of, refused, answered}
use Rattle.questions.specs.Questions.{shape, accepted}
use Rattle.questions.specs.Read.{Fabric}
use Rattle.forwarding.specs.BackTrace.{back}
use Rattle.forwarding.specs.Examples.{header, tp_dst, set_tp_dst, linked, entry_of}
use Rattle.forwarding.specs.Fabric as Forwarding
use Rattle.calls.specs.Questions.{Query, query}
use Rattle.calls.specs.Verdict.{verdict_call}
use Rattle.calls.specs.List.{list_call}

-- "eight 0"
abbrev pub eight : List ℕ
eight = replicate 8 0

-- ---- the files

-- "Fabric F .., 56 words: 0x10010038; 0x20007001 and eight 0; 0x20009002 and eight 0; 0x40014001, 0, care 0 0 3 0, value 0 0 1 0,
-- eight 0; 0x4000a001, 2, care 0 0xffffffff 0 0, value 0 0x0a000002 0 0, eight 0; 0x50000000"
abbrev pub words_of_f : List ℕ
words_of_f =
    (0x10010038 ∷ [])
    ++ (0x20007001 ∷ eight)
    ++ (0x20009002 ∷ eight)
    ++ (0x40014001 ∷ 0 ∷ (header 0 0 3 0 ++ header 0 0 1 0 ++ eight))
    ++ (0x4000a001 ∷ 2 ∷ (header 0 0xffffffff 0 0 ++ header 0 0x0a000002 0 0 ++ eight))
    ++ (0x50000000 ∷ [])

-- "32-bit little-endian words"
abbrev pub F : List ℕ
F = bytes_of words_of_f

-- "start and end alone"
abbrev pub start_and_end : List ℕ
start_and_end = bytes_of (0x10010002 ∷ 0x50000000 ∷ [])

-- ---- the queries: target, limit, budget, asked set

-- "target 2, limit 1, budget 2, all wild"; E3 is asked "there"
abbrev pub target2 : Query
target2 = query 2 1 2 (all_wild 4)

-- "budget 1"
abbrev pub budget1 : Query
budget1 = query 2 1 1 (all_wild 4)

-- "target 1, limit 1, budget 0, all wild", and the same with another limit
abbrev pub target1 : ℕ → Query
target1 limit = query 1 limit 0 (all_wild 4)

-- ---- the answers

-- "`ok 20` `60001001` .. `00000000`": the 20 words
abbrev pub listed : List ℕ
listed =
    0x60001001 ∷ 0x70000001
    ∷ 0x00000000 ∷ 0xffffffff ∷ 0x00000002 ∷ 0x00000000
    ∷ 0x00000000 ∷ 0x0a000002 ∷ 0x00000002 ∷ 0x00000000
    ∷ 0x60001001 ∷ 0x70000001
    ∷ 0x00000000 ∷ 0xffffffff ∷ 0x00000003 ∷ 0x00000000
    ∷ 0x00000000 ∷ 0x0a000002 ∷ 0x00000000 ∷ 0x00000000
    ∷ []

-- "reached, 2 units, port 1, 1 hop, header 0 0x0a000002 2 0, entry 1", and 15 unused entries
abbrev pub reached_there : List ℕ
reached_there = 1 ∷ 2 ∷ 1 ∷ 1 ∷ (header 0 0x0a000002 2 0 ++ (1 ∷ replicate 15 0))

-- "isolated, 0 units", and "0 from word 2 on"
abbrev pub isolated_there : List ℕ
isolated_there = 0 ∷ 0 ∷ replicate 22 0

-- what a call answers, whatever area of so many bytes at least it is lent
abbrev pub Always : ℕ → (List ℕ → Outcome) → (List ℕ → Outcome) → Type 0
Always bytes call answer = (area : List ℕ) → bytes ≤ length area → call area ≡ answer area

-- ---- one entry traced back

-- a fabric with one entry, of this match and action, and no link
abbrev pub one_entry : Set → Act → Forwarding.Fabric
one_entry matches action = linked 0 0 (entry_of 0 1 2 matches action ∷ [])

-- ---- the table

pub record Table : Type 0 where
  -- "Fabric F is accepted (E1), 56 words": two edges, no link, two entries
  pub E1-words : length words_of_f ≡ 56
  pub E1 : accepted 4 F ≡ Fabric (shape 4 2 0 2)
  -- "E2: list, target 2, limit 1, budget 2, all wild prints, a line each: `ok 20` ..": 80 bytes
  pub E2 : Always 80 (list_call 4 F target2) (answered listed)
  -- "E3: verdict there: reached, 2 units, port 1, 1 hop, header 0 0x0a000002 2 0, entry 1."
  pub E3 : Always 96 (verdict_call 4 F target2) (answered reached_there)
  -- "E4: budget 1: 13.", of the list and of the verdict
  pub E4-list : Always 0 (list_call 4 F budget1) (refused 13 0)
  pub E4-verdict : Always 96 (verdict_call 4 F budget1) (refused 13 0)
  -- "E5: verdict, target 1, limit 1, budget 0, all wild: isolated, 0 units."
  pub E5 : Always 96 (verdict_call 4 F (target1 1)) (answered isolated_there)
  -- "E6: limit 17: 9; 16 passes."
  pub E6-17 : Always 0 (verdict_call 4 F (target1 17)) (refused 9 0)
  pub E6-16 : Always 96 (verdict_call 4 F (target1 16)) (answered isolated_there)
  -- "E7: start and end alone are accepted."
  pub E7 : accepted 4 start_and_end ≡ Fabric (shape 4 0 0 0)
  -- "E8: rewriting tp_dst to 5 with an all-wild match, exit tp_dst 5: all wild."
  pub E8 : back (one_entry (all_wild 4) (set_tp_dst 5)) 0 (tp_dst 5) ≡ some (all_wild 4)
  -- "E9: exit tp_dst 6: empty."
  pub E9 : back (one_entry (all_wild 4) (set_tp_dst 5)) 0 (tp_dst 6) ≡ none
  -- "E10: match tp_dst 80, rewrite to 5, all-wild exit: tp_dst 80."
  pub E10 : back (one_entry (tp_dst 80) (set_tp_dst 5)) 0 (all_wild 4) ≡ some (tp_dst 80)
