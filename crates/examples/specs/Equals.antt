-- A third table of examples, X20 to X22: entries of equal priority, in each call. Proved in proofs/Equals.antt.
use Rattle.std.specs.Prelude.{List, [], ◌∷◌, ◌++◌, ◌≡◌, ℕ, length, replicate}
use Rattle.answer.specs.Answer.{bytes_of, refused, answered}
use Rattle.questions.specs.Questions.{shape, accepted}
use Rattle.questions.specs.Read.{Fabric}
use Rattle.forwarding.specs.Examples.{header, set}
use Rattle.calls.specs.Questions.{Query, query}
use Rattle.calls.specs.Verdict.{verdict_call}
use Rattle.calls.specs.List.{list_call}
use Rattle.calls.specs.Run.{run_call}
use Rattle.examples.specs.Examples.{eight, Always}
use Rattle.examples.specs.Richer.{packet, way}

-- ---- X20, fabric H: edge ports 1 and 2 of two groups, and a link 3 -> 4

abbrev pub words_of_h : List ℕ
words_of_h =
    (0x1001006f ∷ [])
    ++ (0x20007001 ∷ eight)
    ++ (0x20009002 ∷ eight)
    ++ (0x30003004 ∷ [])
    -- behind the link: 0 drops what ends in 11 in tp_dst; of equal priority are 1, which drops tp_dst with bit 1 set, and 2, which sends
    -- all to port 2
    ++ (0x40014004 ∷ 0 ∷ (header 0 0 3 0 ++ header 0 0 3 0 ++ eight))
    ++ (0x4000a004 ∷ 0 ∷ (header 0 0 2 0 ++ header 0 0 2 0 ++ eight))
    ++ (0x4000a004 ∷ 2 ∷ (eight ++ eight))
    -- at port 1, of equal priority: 3 sends all over the link, and 4 sends nw_proto 6 straight to port 2
    ++ (0x40005001 ∷ 3 ∷ (eight ++ eight))
    ++ (0x40005001 ∷ 2 ∷ (header 0 0 0 0xff ++ header 0 0 0 6 ++ eight))
    ++ (0x50000000 ∷ [])

abbrev pub H : List ℕ
H = bytes_of words_of_h

-- target 2, limit 2, a budget, and what leaves with this tp_dst and nw_proto
abbrev pub leaving : ℕ → ℕ → ℕ → Query
leaving budget port proto = query 2 2 budget (set (header 0 0 0xffff 0xff) (header 0 0 port proto))

-- the pair of port 1 and such a header arrives by two ways, and is in two finds
abbrev pub two_ways : List ℕ
two_ways =
    (0x60002001 ∷ 0x70000003 ∷ 0x70000002 ∷ (header 0 0 0xffff 0xff ++ header 0 0 2 6))
    ++ (0x60001001 ∷ 0x70000004 ∷ (header 0 0 0xffff 0xff ++ header 0 0 2 6))

-- ---- X21 and X22

pub record EqualsTable : Type 0 where
  pub H-words : length words_of_h ≡ 111
  pub H-accepted : accepted 4 H ≡ Fabric (shape 4 2 1 5)
  -- reached under one choice only: entry 1 would drop the packet that entry 2 may take
  pub one_choice : Always 96 (verdict_call 4 H (leaving 3 2 0))
      (answered (1 ∷ 3 ∷ 1 ∷ 2 ∷ (header 0 0 2 0 ++ way (3 ∷ 2 ∷ []) 14)))
  -- what entry 0 takes none of the equals below it may take
  pub below : Always 96 (verdict_call 4 H (leaving 3 3 0)) (answered (0 ∷ 3 ∷ replicate 22 0))
  pub listed : Always 84 (list_call 4 H (leaving 4 2 6)) (answered two_ways)
  pub budget_3 : Always 0 (list_call 4 H (leaving 3 2 6)) (refused 13 0)
  -- the run of the packet that one_choice shows: tied behind the link, after entry 3
  pub tied : Always 96 (run_call 4 H (packet 1 2 (header 0 0 2 0)))
      (answered (4 ∷ 0 ∷ 4 ∷ 1 ∷ (header 0 0 2 0 ++ way (3 ∷ []) 15)))
  -- at the limit a link leads on, whatever stands there
  pub at_the_limit : Always 96 (run_call 4 H (packet 1 1 (header 0 0 2 0)))
      (answered (3 ∷ 0 ∷ 4 ∷ 1 ∷ (header 0 0 2 0 ++ way (3 ∷ []) 15)))
  -- at the start, with both ways leading to port 2
  pub tied_at_once : Always 96 (run_call 4 H (packet 1 2 (header 0 0 0 6)))
      (answered (4 ∷ 0 ∷ 1 ∷ 0 ∷ (header 0 0 0 6 ++ way [] 16)))
  -- the equals 1 and 2 are below entry 0, which drops it; and entry 2 alone holds the last
  pub higher_drops : Always 96 (run_call 4 H (packet 1 2 (header 0 0 3 0)))
      (answered (1 ∷ 0 ∷ 4 ∷ 2 ∷ (header 0 0 3 0 ++ way (3 ∷ 0 ∷ []) 14)))
  pub one_holds : Always 96 (run_call 4 H (packet 1 2 (header 0 0 0 0)))
      (answered (0 ∷ 0 ∷ 2 ∷ 2 ∷ (header 0 0 0 0 ++ way (3 ∷ 2 ∷ []) 14)))
