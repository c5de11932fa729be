-- A second table of examples, X15 to X19, on one richer file: links, ways of one, two and three hops, two beaters, two entries at a stop,
-- a group and a priority of more than 12 bits, a rewrite, an admitted set that is narrower than a find, the four fates of a run that is not
-- tied, and the order of the questions. Proved in proofs/Richer.antt.
use Rattle.std.specs.Prelude.{List, [], ◌∷◌, ◌++◌, ◌≡◌, ℕ, ◌<◌, length, replicate}
use Rattle.headers.specs.Sets.{Set, all_wild}
use Rattle.answer.specs.Answer.{Outcome, bytes_of, refused, answered}
use Rattle.questions.specs.Questions.{shape, accepted}
use Rattle.questions.specs.Read.{Fabric}
use Rattle.forwarding.specs.Examples.{header, set}
use Rattle.calls.specs.Questions.{Query, query}
use Rattle.calls.specs.Verdict.{verdict_call}
use Rattle.calls.specs.List.{list_call}
use Rattle.calls.specs.Run.{run_call}
use Rattle.examples.specs.Examples.{eight, Always}

-- ---- X15, fabric G: three switches in a row. Edge ports 9 and 12 are on the first, from which the link 20 -> 21 leads to the second, and
-- from there the link 30 -> 31 to the third, with edge port 5.

abbrev pub words_of_g : List ℕ
words_of_g =
    (0x1001009d ∷ [])
    -- edges 5 and 9 of group 0x1abc, of which 9 admits headers with the last bits of nw_dst and of nw_proto set, and 12 of group 0x2abc
    ++ (0x21abc005 ∷ eight)
    ++ (0x21abc009 ∷ (header 0 1 0 1 ++ header 0 1 0 1))
    ++ (0x22abc00c ∷ eight)
    -- links 20 -> 21 and 30 -> 31
    ++ (0x30014015 ∷ 0x3001e01f ∷ [])
    -- at port 31 three entries: 0 and 1 drop by their higher priorities, and 2 sends to edge port 5
    ++ (0x4200301f ∷ 0 ∷ (header 0 0 3 0 ++ header 0 0 1 0 ++ eight))
    ++ (0x4100501f ∷ 0 ∷ (header 0 0 6 0 ++ header 0 0 2 0 ++ eight))
    ++ (0x4100401f ∷ 5 ∷ (eight ++ eight))
    -- entry 3 sends from edge port 9 straight to 5
    ++ (0x40008009 ∷ 5 ∷ (header 0 0 0 0x10 ++ header 0 0 0 0x10 ++ eight))
    -- entry 4 on the second switch writes another nw_dst
    ++ (0x40007015 ∷ 30 ∷ (header 0 0xffffffff 0 0 ++ header 0 0x0a000002 0 0 ++ header 0 0xffffffff 0 0 ++ header 0 0x0a000009 0 0))
    -- entries 5 and 6 send from edge ports 12 and 9 to the second switch; 3 beats 6
    ++ (0x4000700c ∷ 20 ∷ (header 0 0 0 0xff ++ header 0 0 0 6 ++ eight))
    ++ (0x40007009 ∷ 20 ∷ (eight ++ eight))
    ++ (0x50000000 ∷ [])

abbrev pub G : List ℕ
G = bytes_of words_of_g

-- ---- queries for target 5: limit, budget, asked set

abbrev pub all : ℕ → ℕ → Query
all limit budget = query 5 limit budget (all_wild 4)

-- what leaves with the last bit of nw_dst set and nw_proto 17
abbrev pub some : ℕ → ℕ → Query
some limit budget = query 5 limit budget (set (header 0 1 0 0xff) (header 0 1 0 17))

-- a value bit outside care
abbrev pub untidy : Set
untidy = set (header 0 0 0 0) (header 0 0 0 1)

-- a set that cares for every bit but the last
abbrev pub all_but_the_last : Set
all_but_the_last = set (header 0xffffffff 0xffffffff 0xffffffff 0xfffffffe) (header 0 0 0 0)

-- a packet, started at a port, with a limit
abbrev pub packet : ℕ → ℕ → List ℕ → Query
packet start limit h = query start limit 0 (set (header 0xffffffff 0xffffffff 0xffffffff 0xffffffff) h)

-- ---- answers

-- the entries of a way, and unused words
abbrev pub way : List ℕ → ℕ → List ℕ
way path unused = path ++ replicate unused 0

-- what a call answers where it is lent fewer bytes than this
abbrev pub Short : ℕ → (List ℕ → Outcome) → (List ℕ → Outcome) → Type 0
Short bytes call answer = (area : List ℕ) → length area < bytes → call area ≡ answer area

-- two parts at port 31, by entries 0 and 1 in this order; of each the finds at 12 and at 9, by entries 5 and 6 in this order; then that of
-- entry 3
abbrev pub listed_finds : List ℕ
listed_finds =
    (0x6000300c ∷ 0x70000005 ∷ 0x70000004 ∷ 0x70000002 ∷ (header 0 0xffffffff 6 0xff ++ header 0 0x0a000002 6 6))
    ++ (0x60003009 ∷ 0x70000006 ∷ 0x70000004 ∷ 0x70000002 ∷ (header 0 0xffffffff 6 0x10 ++ header 0 0x0a000002 6 0))
    ++ (0x6000300c ∷ 0x70000005 ∷ 0x70000004 ∷ 0x70000002 ∷ (header 0 0xffffffff 3 0xff ++ header 0 0x0a000002 0 6))
    ++ (0x60003009 ∷ 0x70000006 ∷ 0x70000004 ∷ 0x70000002 ∷ (header 0 0xffffffff 3 0x10 ++ header 0 0x0a000002 0 0))
    ++ (0x60001009 ∷ 0x70000003 ∷ (header 0 0 0 0x10 ++ header 0 0 0 0x10))

-- ---- the table

-- X16, and X19 for the verdict
pub record Verdicts : Type 0 where
  -- within three hops the first find is foreign by its group: reached after 5 units from port 12 by entries 5, 4 and 2
  pub three_hops : Always 96 (verdict_call 4 G (all 3 5))
      (answered (1 ∷ 5 ∷ 12 ∷ 3 ∷ (header 0 0x0a000002 6 6 ++ way (5 ∷ 4 ∷ 2 ∷ []) 13)))
  -- within two it is port 9's, in the target's own group: the lowest header of the first part outside its admitted set
  pub two_hops_lem : Always 96 (verdict_call 4 G (all 2 7)) (answered (1 ∷ 7 ∷ 9 ∷ 1 ∷ (header 0 0 0 0x10 ++ way (3 ∷ []) 15)))
  pub budget_6 : Always 96 (verdict_call 4 G (all 2 6)) (refused 13 0)
  -- what port 9 sends there within its admitted set is not foreign
  pub own_traffic : Always 96 (verdict_call 4 G (some 3 13)) (answered (0 ∷ 13 ∷ replicate 22 0))
  pub one_hop : Always 96 (verdict_call 4 G (some 1 5)) (answered (0 ∷ 5 ∷ replicate 22 0))
  -- two questions would get a no, and the first of them is answered: 8 before 9, 9 before 10, 10 before 12, 12 before 13
  pub in_turn_8 : Always 0 (verdict_call 4 G (query 6 0 0 (all_wild 4))) (refused 8 0)
  pub in_turn_9 : Always 0 (verdict_call 4 G (query 5 0 0 untidy)) (refused 9 0)
  pub in_turn_10 : Short 96 (verdict_call 4 G (query 5 1 0 untidy)) (refused 10 0)
  pub in_turn_12 : Short 96 (verdict_call 4 G (all 3 4)) (refused 12 0)

-- X17, and X19 for the list
pub record Lists : Type 0 where
  -- 13 units, 58 words
  pub all_finds : Always 232 (list_call 4 G (all 3 13)) (answered listed_finds)
  pub budget_12 : Always 0 (list_call 4 G (all 3 12)) (refused 13 0)
  -- no entry sends to port 12
  pub no_finds : Always 0 (list_call 4 G (query 12 16 0 (all_wild 4))) (answered [])
  -- 8 before 9, 9 before 10, 10 before 13, 13 before 12
  pub in_turn_8 : Always 0 (list_call 4 G (query 6 0 0 (all_wild 4))) (refused 8 0)
  pub in_turn_9 : Always 0 (list_call 4 G (query 5 17 0 untidy)) (refused 9 0)
  pub in_turn_10 : Always 0 (list_call 4 G (query 5 1 0 untidy)) (refused 10 0)
  pub in_turn_13 : Short 232 (list_call 4 G (all 3 12)) (refused 13 0)
  pub in_turn_12 : Short 232 (list_call 4 G (all 3 13)) (refused 12 0)

-- X18, and X19 for the run
pub record Runs : Type 0 where
  -- left at 5; dropped by entry 1, which beats 2; lost at 21; still travelling to 31
  pub left : Always 96 (run_call 4 G (packet 12 3 (header 7 0x0a000002 6 6)))
      (answered (0 ∷ 0 ∷ 5 ∷ 3 ∷ (header 7 0x0a000009 6 6 ++ way (5 ∷ 4 ∷ 2 ∷ []) 13)))
  pub dropped : Always 96 (run_call 4 G (packet 12 3 (header 7 0x0a000002 2 6)))
      (answered (1 ∷ 0 ∷ 31 ∷ 3 ∷ (header 7 0x0a000009 2 6 ++ way (5 ∷ 4 ∷ 1 ∷ []) 13)))
  pub lost : Always 96 (run_call 4 G (packet 12 3 (header 7 1 6 6)))
      (answered (2 ∷ 0 ∷ 21 ∷ 1 ∷ (header 7 1 6 6 ++ way (5 ∷ []) 15)))
  pub travelling : Always 96 (run_call 4 G (packet 12 2 (header 7 0x0a000002 6 6)))
      (answered (3 ∷ 0 ∷ 31 ∷ 2 ∷ (header 7 0x0a000009 6 6 ++ way (5 ∷ 4 ∷ []) 14)))
  -- of two entries that hold the packet the one of the higher priority takes it
  pub higher : Always 96 (run_call 4 G (packet 9 3 (header 0 0 0 0x10)))
      (answered (0 ∷ 0 ∷ 5 ∷ 1 ∷ (header 0 0 0 0x10 ++ way (3 ∷ []) 15)))
  -- 9 before 10, 10 before 11, 11 before 12
  pub in_turn_9 : Always 0 (run_call 4 G (query 9 0 0 untidy)) (refused 9 0)
  pub in_turn_10 : Always 0 (run_call 4 G (query 6 1 0 all_but_the_last)) (refused 10 0)
  pub in_turn_11 : Short 96 (run_call 4 G (packet 6 1 (header 0 0 0 0))) (refused 11 0)
  pub in_turn_12 : Short 96 (run_call 4 G (packet 9 1 (header 0 0 0 0))) (refused 12 0)

pub record RicherTable : Type 0 where
  pub G-words : length words_of_g ≡ 157
  pub G-accepted : accepted 4 G ≡ Fabric (shape 4 3 2 7)
  pub verdicts : Verdicts
  pub lists : Lists
  pub runs : Runs
