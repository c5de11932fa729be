-- A sixth table of examples, X34 to X37: a file of version 2, whose headers have Ethernet fields, in each call (document 02, 2.6). Proved
-- in proofs/Ethernet.antt.
use Rattle.std.specs.Prelude.{List, [], ◌∷◌, ◌++◌, ◌≡◌, ℕ, ◌+◌, ◌*◌, ◌/◌, ◌%◌, ◌^◌, length, replicate}
use Rattle.headers.specs.Sets.{Set, all_wild}
use Rattle.answer.specs.Answer.{bytes_of, refused, answered}
use Rattle.questions.specs.Questions.{shape, accepted}
use Rattle.questions.specs.Read.{Fabric, No}
use Rattle.forwarding.specs.Examples.{header, set}
use Rattle.calls.specs.Questions.{Query, query}
use Rattle.calls.specs.Verdict.{verdict_call}
use Rattle.calls.specs.List.{list_call}
use Rattle.calls.specs.Run.{run_call}
use Rattle.examples.specs.Examples.{eight, F, target2, Always}
use Rattle.examples.specs.Richer.{packet, way, Short}

-- ---- the words of a header

-- words 4 to 7: "dl_src (48 bits), dl_dst (48), dl_type (16), dl_vlan_pcp (8) and 8 bits that must be zero in care and mask, all packed
-- from the high end"
abbrev pub ethernet : ℕ → ℕ → ℕ → ℕ → ℕ → List ℕ
ethernet src dst type pcp zeros =
    src / 2 ^ 16
    ∷ (src % 2 ^ 16 * 2 ^ 16 + dst / 2 ^ 32)
    ∷ dst % 2 ^ 32
    ∷ (type * 2 ^ 16 + pcp * 2 ^ 8 + zeros)
    ∷ []

-- all eight, "the old four" being 0
abbrev pub frame : ℕ → ℕ → ℕ → ℕ → ℕ → List ℕ
frame src dst type pcp zeros = header 0 0 0 0 ++ ethernet src dst type pcp zeros

-- the Ethernet address 02:00:00:00:00:02, and every bit of one
abbrev pub second : ℕ
second = 0x020000000002

abbrev pub whole : ℕ
whole = 0xffffffffffff

-- ---- X34, fabric L: edge ports 1 and 2 of two groups, which admit all

-- with these as the eight bits of care in the admitted set of port 2 and in the match of entry 0, and of entry 0's mask
abbrev pub words_of_l : ℕ → ℕ → ℕ → List ℕ
words_of_l admitted matched masked =
    (0x10020068 ∷ [])
    ++ (0x20007001 ∷ (eight ++ eight))
    ++ (0x20009002 ∷ (frame 0 0 0 0 admitted ++ eight))
    -- at port 1: 0 drops ARP, which is dl_type 0x0806, and 1 sends what is for this dl_dst to port 2
    ++ (0x40014001 ∷ 0 ∷ (frame 0 0 0xffff 0 matched ++ frame 0 0 0x0806 0 0 ++ frame 0 0 0 0 masked ++ eight))
    ++ (0x4000a001 ∷ 2 ∷ (frame 0 whole 0 0 0 ++ frame 0 second 0 0 0 ++ eight ++ eight))
    ++ (0x50000000 ∷ [])

abbrev pub L : List ℕ
L = bytes_of (words_of_l 0 0 0)

-- a start of this version, which counts 10,051 words, and so many of nothing: 40,204 bytes, one word more than version 1 allows
abbrev pub long : ℕ → List ℕ
long version = 0x43 ∷ 0x27 ∷ version ∷ 0x10 ∷ replicate 40200 0

-- ---- queries

-- target 2, limit 1, a budget, and the asked set
abbrev pub leaving : ℕ → Set → Query
leaving budget asked = query 2 1 budget asked

-- what has this dl_type
abbrev pub of_type : ℕ → Set
of_type type = set (frame 0 0 0xffff 0 0) (frame 0 0 type 0 0)

-- one of the eight bits cared for
abbrev pub cares_for_zero : Set
cares_for_zero = set (frame 0 0 0 0 1) eight

-- a packet started at port 1 with limit 1; the care for its dl_vlan_pcp and for the eight bits
abbrev pub sent : ℕ → ℕ → List ℕ → Query
sent pcp zeros h =
    query 1 1 0 (set (header 0xffffffff 0xffffffff 0xffffffff 0xffffffff ++ ethernet whole whole 0xffff pcp zeros) h)

-- from 02:00:00:00:00:01 to this dl_dst with this dl_type
abbrev pub bound : ℕ → ℕ → List ℕ
bound dst type = header 0x0a000001 0x0a000002 80 6 ++ ethernet 0x020000000001 dst type 0xe0 0

-- ---- answers

-- reached, 2 units, port 1, 1 hop, the lowest header of the first part, entry 1, and 15 unused entries
abbrev pub reached_there : List ℕ
reached_there =
    1 ∷ 2 ∷ 1 ∷ 1
    ∷ 0x00000000 ∷ 0x00000000 ∷ 0x00000000 ∷ 0x00000000
    ∷ 0x00000000 ∷ 0x00000200 ∷ 0x00000002 ∷ 0x80000000
    ∷ way (1 ∷ []) 15

-- a find at port 1 by entry 1, by its care for dl_type and its dl_type
abbrev pub found : ℕ → ℕ → List ℕ
found care type = 0x60001001 ∷ 0x70000001 ∷ (frame 0 whole care 0 0 ++ frame 0 second type 0 0)

-- all but ARP: a find for each bit of dl_type
abbrev pub listed_types : List ℕ
listed_types =
    found 0x8000 0x8000 ++ found 0xc000 0x4000 ++ found 0xe000 0x2000 ++ found 0xf000 0x1000
    ++ found 0xf800 0x0000 ++ found 0xfc00 0x0c00 ++ found 0xfe00 0x0a00 ++ found 0xff00 0x0900
    ++ found 0xff80 0x0880 ++ found 0xffc0 0x0840 ++ found 0xffe0 0x0820 ++ found 0xfff0 0x0810
    ++ found 0xfff8 0x0808 ++ found 0xfffc 0x0800 ++ found 0xfffe 0x0804 ++ found 0xffff 0x0807

-- ---- the table

-- X35
pub record Traced : Type 0 where
  pub reached : Always 112 (verdict_call 8 L (leaving 2 (all_wild 8))) (answered reached_there)
  pub reached_words_lem : length reached_there ≡ 28
  -- no ARP arrives
  pub isolated : Always 112 (verdict_call 8 L (leaving 2 (of_type 0x0806))) (answered (0 ∷ 2 ∷ replicate 26 0))
  pub verdict_budget_1 : Always 112 (verdict_call 8 L (leaving 1 (all_wild 8))) (refused 13 0)
  pub verdict_short : Short 112 (verdict_call 8 L (leaving 2 (all_wild 8))) (refused 12 0)
  -- 16 finds of 18 words
  pub listed : Always 1152 (list_call 8 L (leaving 2 (all_wild 8))) (answered listed_types)
  pub listed_one : Always 72 (list_call 8 L (leaving 2 (of_type 0x0800))) (answered (found 0xffff 0x0800))
  pub list_budget_1 : Always 0 (list_call 8 L (leaving 1 (all_wild 8))) (refused 13 0)
  pub list_short : Short 72 (list_call 8 L (leaving 2 (of_type 0x0800))) (refused 12 0)

-- X36
pub record Ran : Type 0 where
  pub left : Always 112 (run_call 8 L (sent 0xff 0 (bound second 0x0800)))
      (answered (0 ∷ 0 ∷ 2 ∷ 1 ∷ (bound second 0x0800 ++ way (1 ∷ []) 15)))
  -- ARP for the same address
  pub dropped : Always 112 (run_call 8 L (sent 0xff 0 (bound second 0x0806)))
      (answered (1 ∷ 0 ∷ 1 ∷ 1 ∷ (bound second 0x0806 ++ way (0 ∷ []) 15)))
  -- a broadcast
  pub lost : Always 112 (run_call 8 L (sent 0xff 0 (bound whole 0x0800)))
      (answered (2 ∷ 0 ∷ 1 ∷ 0 ∷ (bound whole 0x0800 ++ way [] 16)))
  pub run_short : Short 112 (run_call 8 L (sent 0xff 0 (bound second 0x0800))) (refused 12 0)

-- X37
pub record Refused : Type 0 where
  -- question 5, of one of the eight bits in an admitted set, a match and a mask
  pub in_admitted : accepted 8 (bytes_of (words_of_l 1 0 0)) ≡ No 5 18
  pub in_match : accepted 8 (bytes_of (words_of_l 0 1 0)) ≡ No 5 35
  pub in_mask : accepted 8 (bytes_of (words_of_l 0 0 0x80)) ≡ No 5 35
  pub call_5 : Always 0 (verdict_call 8 (bytes_of (words_of_l 0 1 0)) (leaving 2 (all_wild 8))) (refused 5 35)
  -- question 10, of one of them in the asked care
  pub verdict_10 : Always 0 (verdict_call 8 L (leaving 2 cares_for_zero)) (refused 10 0)
  pub list_10 : Always 0 (list_call 8 L (leaving 2 cares_for_zero)) (refused 10 0)
  -- of a run, which cares for all other bits: word 7 of care is 0xffffff00 in X36, and here 0xffffffff and 0xfffffe00
  pub run_zeros : Always 0 (run_call 8 L (sent 0xff 0xff (bound second 0x0800))) (refused 10 0)
  pub run_not_all : Always 0 (run_call 8 L (sent 0xfe 0 (frame 0 second 0x0800 0 0))) (refused 10 0)
  -- question 2, of a call for version 1 about a file of version 2, and the other way round
  pub L-version : accepted 4 L ≡ No 2 0
  pub verdict_L : Always 0 (verdict_call 4 L target2) (refused 2 0)
  pub list_L : Always 0 (list_call 4 L target2) (refused 2 0)
  pub run_L : Always 0 (run_call 4 L (packet 1 1 (header 0 0 0 0))) (refused 2 0)
  pub F-version : accepted 8 F ≡ No 2 0
  pub verdict_F : Always 0 (verdict_call 8 F (leaving 2 (all_wild 8))) (refused 2 0)
  pub list_F : Always 0 (list_call 8 F (leaving 2 (all_wild 8))) (refused 2 0)
  pub run_F : Always 0 (run_call 8 F (sent 0xff 0 (bound second 0x0800))) (refused 2 0)
  -- question 1 comes first, by the version of the call: of more bytes than version 1 allows, and in version 2 none but a start is right
  pub long_in_1 : accepted 4 (long 2) ≡ No 1 0
  pub long_in_2 : accepted 8 (long 2) ≡ No 3 1
  pub long_F_in_2 : accepted 8 (long 1) ≡ No 2 0

pub record EthernetTable : Type 0 where
  pub packed : ethernet 0x0a0b0c0d0e0f 0x1a1b1c1d1e1f 0x0806 0xe0 0 ≡ header 0x0a0b0c0d 0x0e0f1a1b 0x1c1d1e1f 0x0806e000
  pub L-words : length (words_of_l 0 0 0) ≡ 104
  pub L-accepted : accepted 8 L ≡ Fabric (shape 8 2 0 2)
  pub traced : Traced
  pub ran : Ran
  pub refusals : Refused
