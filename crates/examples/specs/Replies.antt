-- A fourth table of examples, X26 to X29: entries that copy or swap addresses, in each call. Proved in proofs/Replies.antt.
use Rattle.std.specs.Prelude.{List, [], ◌∷◌, ◌++◌, ◌≡◌, ℕ, length, replicate}
use Rattle.answer.specs.Answer.{bytes_of, refused, answered}
use Rattle.questions.specs.Questions.{shape, accepted}
use Rattle.questions.specs.Read.{Fabric, No}
use Rattle.forwarding.specs.Examples.{header, set}
use Rattle.calls.specs.Questions.{Query, query}
use Rattle.calls.specs.Verdict.{verdict_call}
use Rattle.calls.specs.List.{list_call}
use Rattle.calls.specs.Run.{run_call}
use Rattle.examples.specs.Examples.{eight, Always}
use Rattle.examples.specs.Richer.{packet, way}

-- ---- X26, fabric J: edge ports 1 and 2 of two groups, and a link 3 -> 4

-- with this second word of entry 0
abbrev pub words_of_j : ℕ → List ℕ
words_of_j second =
    (0x1001005d ∷ [])
    ++ (0x20007001 ∷ eight)
    ++ (0x20009002 ∷ eight)
    ++ (0x30003004 ∷ [])
    -- at port 1: 0 swaps and drops odd tp_dst; 1 copies, and sends odd nw_proto to port 2; 2 swaps, sets the last byte of nw_dst to 2, and
    -- sends all over the link
    ++ (0x4001e001 ∷ second ∷ (header 0 0 1 0 ++ header 0 0 1 0 ++ eight))
    ++ (0x40014001 ∷ 0x10000002 ∷ (header 0 0 0 1 ++ header 0 0 0 1 ++ eight))
    ++ (0x4000a001 ∷ 0x20000003 ∷ (eight ++ header 0 0xff 0 0 ++ header 0 2 0 0))
    -- behind the link: 3 sends what is for 10.0.0.2 to port 2
    ++ (0x4000a004 ∷ 0x00000002 ∷ (header 0 0xffffffff 0 0 ++ header 0 0x0a000002 0 0 ++ eight))
    ++ (0x50000000 ∷ [])

abbrev pub J : List ℕ
J = bytes_of (words_of_j 0x20000000)

-- target 2, limit 2, a budget, and what leaves with these addresses; of an odd nw_proto or of any
abbrev pub replies : ℕ → ℕ → ℕ → ℕ → Query
replies budget src dst odd = query 2 2 budget (set (header 0xffffffff 0xffffffff 0 odd) (header src dst 0 odd))

-- from 10.0.0.2 to 10.0.0.2: by the copy, whose two wants agree, and by the swap
abbrev pub both_replies : List ℕ
both_replies =
    (0x60001001 ∷ 0x70000001 ∷ (header 0xffffffff 0 1 1 ++ header 0x0a000002 0 0 1))
    ++ (0x60002001 ∷ 0x70000002 ∷ 0x70000003 ∷ (header 0xffffff00 0xffffffff 1 1 ++ header 0x0a000000 0x0a000002 0 0))

-- ---- X27 to X29

pub record RepliesTable : Type 0 where
  pub J-words : length (words_of_j 0x20000000) ≡ 93
  pub J-accepted : accepted 4 J ≡ Fabric (shape 4 2 1 4)
  -- from 10.0.0.7 to 10.0.0.2: not by the copy, whose wants disagree, but by the swap
  pub swapped_back : Always 96 (verdict_call 4 J (replies 5 0x0a000007 0x0a000002 0))
      (answered (1 ∷ 5 ∷ 1 ∷ 2 ∷ (header 0x0a000000 0x0a000007 0 0 ++ way (2 ∷ 3 ∷ []) 14)))
  -- and with an odd nw_proto not by the swap either, since entry 1 takes it
  pub neither : Always 96 (verdict_call 4 J (replies 5 0x0a000007 0x0a000002 1)) (answered (0 ∷ 5 ∷ replicate 22 0))
  pub listed : Always 84 (list_call 4 J (replies 6 0x0a000002 0x0a000002 0)) (answered both_replies)
  pub budget_5 : Always 0 (list_call 4 J (replies 5 0x0a000002 0x0a000002 0)) (refused 13 0)
  -- the run of the packet that swapped-back shows: swapped, and then the last byte of the new nw_dst written
  pub swaps : Always 96 (run_call 4 J (packet 1 2 (header 0x0a000000 0x0a000007 0 0)))
      (answered (0 ∷ 0 ∷ 2 ∷ 2 ∷ (header 0x0a000007 0x0a000002 0 0 ++ way (2 ∷ 3 ∷ []) 14)))
  pub at_the_limit : Always 96 (run_call 4 J (packet 1 1 (header 0x0a000000 0x0a000007 0 0)))
      (answered (3 ∷ 0 ∷ 4 ∷ 1 ∷ (header 0x0a000007 0x0a000002 0 0 ++ way (2 ∷ []) 15)))
  pub copies : Always 96 (run_call 4 J (packet 1 2 (header 0x0a000001 0x0a000007 0 1)))
      (answered (0 ∷ 0 ∷ 2 ∷ 1 ∷ (header 0x0a000001 0x0a000001 0 1 ++ way (1 ∷ []) 15)))
  -- a drop entry swaps too, and the run's header shows it
  pub swaps_and_drops : Always 96 (run_call 4 J (packet 1 2 (header 0x0a000001 0x0a000007 1 0)))
      (answered (1 ∷ 0 ∷ 1 ∷ 1 ∷ (header 0x0a000007 0x0a000001 1 0 ++ way (0 ∷ []) 15)))
  -- transfer 3, and the zero bits below a transfer, at entry 0's first word
  pub transfer_3 : accepted 4 (bytes_of (words_of_j 0x30000000)) ≡ No 3 20
  pub zero_bit_27 : accepted 4 (bytes_of (words_of_j 0x28000000)) ≡ No 3 20
  pub zero_bit_12 : accepted 4 (bytes_of (words_of_j 0x20001000)) ≡ No 3 20
  pub refused_3 : Always 0 (verdict_call 4 (bytes_of (words_of_j 0x30000000)) (replies 5 0x0a000007 0x0a000002 0)) (refused 3 20)
