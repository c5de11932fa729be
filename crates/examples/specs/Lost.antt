-- A fifth table of examples, X30 to X33: packets that no entry takes, under OpenFlow 1.0 and 1.3. Proved in proofs/Lost.antt.
use Rattle.std.specs.Prelude.{List, [], ◌∷◌, ◌++◌, ◌≡◌, ℕ, length}
use Rattle.answer.specs.Answer.{bytes_of, refused, answered}
use Rattle.questions.specs.Questions.{shape, accepted}
use Rattle.questions.specs.Read.{Fabric}
use Rattle.forwarding.specs.Examples.{header, tp_dst}
use Rattle.calls.specs.Questions.{Query, query}
use Rattle.calls.specs.Verdict.{verdict_call}
use Rattle.calls.specs.List.{list_call}
use Rattle.calls.specs.Run.{run_call}
use Rattle.examples.specs.Examples.{eight, Always}
use Rattle.examples.specs.Richer.{packet, way}

-- ---- X30, fabric K: edge ports 1 and 8 of two groups, and links 3 -> 4 and 5 -> 6

-- with this start word
abbrev pub words_of_k : ℕ → List ℕ
words_of_k start =
    (start ∷ [])
    ++ (0x20007001 ∷ eight)
    ++ (0x20009008 ∷ eight)
    ++ (0x30003004 ∷ 0x30005006 ∷ [])
    -- at port 1: 0 sets tp_dst to 5, and sends odd nw_proto over the first link
    ++ (0x40014001 ∷ 0x00000003 ∷ (header 0 0 0 1 ++ header 0 0 0 1 ++ header 0 0 0xffff 0 ++ header 0 0 5 0))
    -- at port 4: 1 sends tp_dst 5 over the second link, and its equal 2, where nw_src is odd, to port 8
    ++ (0x4000a004 ∷ 0x00000005 ∷ (header 0 0 0xffff 0 ++ header 0 0 5 0 ++ eight))
    ++ (0x4000a004 ∷ 0x00000008 ∷ (header 1 0 0xffff 0 ++ header 1 0 5 0 ++ eight))
    -- at port 6: 3 sends tp_dst 80 to port 8
    ++ (0x40005006 ∷ 0x00000008 ∷ (header 0 0 0xffff 0 ++ header 0 0 80 0 ++ eight))
    ++ (0x50000000 ∷ [])

-- under OpenFlow 1.0, and under 1.3
abbrev pub K : List ℕ
K = bytes_of (words_of_k 0x1001005e)

abbrev pub new_k : List ℕ
new_k = bytes_of (words_of_k 0x1801005e)

-- the packets lost with tp_dst 5, for a limit and a budget
abbrev pub lost : ℕ → ℕ → Query
lost limit budget = query 0 limit budget (tp_dst 5)

-- lost at once, at port 1 with an even nw_proto, and at port 8, where no entry stands
abbrev pub at_once : List ℕ
at_once = 0x60000001 ∷ (header 0 0 0xffff 1 ++ header 0 0 5 0)

abbrev pub at_the_other : List ℕ
at_the_other = 0x60000008 ∷ (header 0 0 0xffff 0 ++ header 0 0 5 0)

-- after two hops, at port 6: what had any tp_dst when it started has tp_dst 5 there
abbrev pub after_two_hops : List ℕ
after_two_hops = 0x60002001 ∷ 0x70000000 ∷ 0x70000001 ∷ (header 0 0 0 1 ++ header 0 0 0 1)

-- ---- X31 to X33

pub record LostTable : Type 0 where
  pub K-words : length (words_of_k 0x1001005e) ≡ 94
  pub K-accepted : accepted 4 K ≡ Fabric (shape 4 2 2 4)
  pub new_k_accepted : accepted 4 new_k ≡ Fabric (shape 4 2 2 4)
  -- the link's end 6 comes before the edge port 8
  pub all_lost : Always 116 (list_call 4 K (lost 3 5)) (answered (at_once ++ after_two_hops ++ at_the_other))
  pub budget_4 : Always 0 (list_call 4 K (lost 3 4)) (refused 13 0)
  -- fewer hops than the limit: with limit 2 the trace ends at port 4, with limit 1 at the link ends, which are carved all the same
  pub limit_2 : Always 72 (list_call 4 K (lost 2 4)) (answered (at_once ++ at_the_other))
  pub limit_1 : Always 72 (list_call 4 K (lost 1 3)) (answered (at_once ++ at_the_other))
  pub limit_1_budget_2 : Always 0 (list_call 4 K (lost 1 2)) (refused 13 0)
  -- target 0 for a verdict, and under 1.3
  pub verdict_refused : Always 0 (verdict_call 4 K (lost 3 5)) (refused 8 0)
  pub list_refused : Always 0 (list_call 4 new_k (lost 3 5)) (refused 8 0)
  -- the runs of packets of these finds: lost at once, after two hops, and, with an odd nw_src, tied, for one choice loses it
  pub lost_at_once : Always 96 (run_call 4 K (packet 1 3 (header 0 0 5 0)))
      (answered (2 ∷ 0 ∷ 1 ∷ 0 ∷ (header 0 0 5 0 ++ way [] 16)))
  pub lost_at_6 : Always 96 (run_call 4 K (packet 1 3 (header 0 0 22 1)))
      (answered (2 ∷ 0 ∷ 6 ∷ 2 ∷ (header 0 0 5 1 ++ way (0 ∷ 1 ∷ []) 14)))
  pub tied_at_4 : Always 96 (run_call 4 K (packet 1 3 (header 1 0 22 1)))
      (answered (4 ∷ 0 ∷ 4 ∷ 1 ∷ (header 1 0 5 1 ++ way (0 ∷ []) 15)))
  -- under 1.3 they are dropped, at the same in-ports and after as many hops, and at the limit they travel
  pub dropped_at_once : Always 96 (run_call 4 new_k (packet 1 3 (header 0 0 5 0)))
      (answered (1 ∷ 0 ∷ 1 ∷ 0 ∷ (header 0 0 5 0 ++ way [] 16)))
  pub dropped_at_6 : Always 96 (run_call 4 new_k (packet 1 3 (header 0 0 22 1)))
      (answered (1 ∷ 0 ∷ 6 ∷ 2 ∷ (header 0 0 5 1 ++ way (0 ∷ 1 ∷ []) 14)))
  pub travelling_to_6 : Always 96 (run_call 4 new_k (packet 1 2 (header 0 0 22 1)))
      (answered (3 ∷ 0 ∷ 6 ∷ 2 ∷ (header 0 0 5 1 ++ way (0 ∷ 1 ∷ []) 14)))
  -- and a verdict is what it was
  pub reached_the_same : Always 96 (verdict_call 4 new_k (query 8 2 3 (tp_dst 5)))
      (answered (1 ∷ 2 ∷ 1 ∷ 2 ∷ (header 1 0 0 1 ++ way (0 ∷ 2 ∷ []) 14)))
