-- E1 and E7 of document 01, and refusals by each question with its place, in a call for version 1 and in one for version 2: two tables,
-- computed by the questions.
use Rattle.std.specs.Prelude.{List, [], ◌∷◌, ◌++◌, map, ◌≡◌, refl, ℕ, zero, suc, ◌+◌, ◌*◌, ◌/◌, ◌%◌}
use Rattle.std.specs.Prelude.{replicate, set}
use Rattle.layout.specs.Words.{word_at}
use Rattle.layout.specs.Records.{width_in}
use Rattle.questions.specs.Questions.{shape, accepted, records, passed, asked, in_order, ports_right, sets_tidy, link_free, within_limits}
use Rattle.questions.specs.Questions.{sized, started}
use Rattle.questions.specs.Read.{Read}
use Rattle.questions.specs.Read.{Fabric, No}

-- words as the file's bytes
abbrev pub bytes_of : List ℕ → List ℕ
bytes_of [] = []
bytes_of (w ∷ ws) = w % 256 ∷ w / 256 % 256 ∷ w / 65536 % 256 ∷ w / 16777216 ∷ bytes_of ws

abbrev eight : List ℕ
eight = replicate 8 0

-- "Fabric F is accepted (E1), 56 words"
abbrev pub fabric_f : List ℕ
fabric_f =
    bytes_of ((0x10010038 ∷ []) ++ (0x20007001 ∷ eight) ++ (0x20009002 ∷ eight)
    ++ (0x40014001 ∷ 0 ∷ 0 ∷ 0 ∷ 3 ∷ 0 ∷ 0 ∷ 0 ∷ 1 ∷ 0 ∷ eight)
    ++ (0x4000a001 ∷ 2 ∷ 0 ∷ 0xffffffff ∷ 0 ∷ 0 ∷ 0 ∷ 0x0a000002 ∷ 0 ∷ 0 ∷ eight) ++ (0x50000000 ∷ []))

-- n records, made by their number
abbrev several : ℕ → (ℕ → List ℕ) → List ℕ
several zero g = []
several (suc n) g = several n g ++ g n

record Example : Type 0 where
  file : List ℕ
  answer : Read

infix 90 ◌gives◌
abbrev ◌gives◌ : List ℕ → Read → Example
f gives r = record { file = f; answer = r }

abbrev examples : List Example
examples =
    fabric_f gives Fabric (shape 4 2 0 2)
    ∷ bytes_of (0x10010002 ∷ 0x50000000 ∷ []) gives Fabric (shape 4 0 0 0)
    -- the same under OpenFlow 1.3, and with a version that differs in bit 26 alone under it
    ∷ bytes_of (0x18010002 ∷ 0x50000000 ∷ []) gives Fabric (shape 4 0 0 0)
    ∷ bytes_of (0x1c010002 ∷ 0x50000000 ∷ []) gives No 2 0
    ∷ replicate 4 0 gives No 1 0
    ∷ replicate 9 0 gives No 1 0
    -- a file of version 2: short, and longer than any of version 1
    ∷ bytes_of (0x10020002 ∷ 0x50000000 ∷ []) gives No 2 0
    ∷ bytes_of (0x10022743 ∷ replicate 10050 0) gives No 1 0
    ∷ bytes_of (0x10010003 ∷ 0x50000000 ∷ []) gives No 2 0
    ∷ bytes_of (0x20010002 ∷ 0x50000000 ∷ []) gives No 2 0
    -- the highest bit of the version, and of the word count
    ∷ bytes_of (0x14010002 ∷ 0x50000000 ∷ []) gives No 2 0
    ∷ bytes_of (0x10018002 ∷ 0x50000000 ∷ []) gives No 2 0
    -- no end; a kind that is none; an edge after a link; an edge that is cut short; zero bits of a link and of an entry; an end too early
    ∷ bytes_of (0x10010002 ∷ 0x30001002 ∷ []) gives No 3 2
    ∷ bytes_of (0x10010002 ∷ 0x60000000 ∷ []) gives No 3 1
    ∷ bytes_of (0x1001000c ∷ 0x30001002 ∷ 0x20001003 ∷ eight ++ (0x50000000 ∷ [])) gives No 3 2
    ∷ bytes_of (0x10010003 ∷ 0x20001003 ∷ 0x50000000 ∷ []) gives No 3 1
    ∷ bytes_of (0x10010003 ∷ 0x31001002 ∷ 0x50000000 ∷ []) gives No 3 1
    ∷ set fabric_f (20 * 4 + 2) 1 gives No 3 19
    ∷ bytes_of (0x10010003 ∷ 0x50000000 ∷ 0x50000000 ∷ []) gives No 3 1
    -- the other ends of the zero bits: of a link, both of an entry's second word, and both of an end
    ∷ bytes_of (0x10010003 ∷ 0x38001002 ∷ 0x50000000 ∷ []) gives No 3 1
    ∷ set fabric_f (20 * 4 + 1) 0x10 gives No 3 19
    ∷ set fabric_f (20 * 4 + 3) 0x08 gives No 3 19
    ∷ bytes_of (0x10010002 ∷ 0x50000001 ∷ []) gives No 3 1
    ∷ bytes_of (0x10010002 ∷ 0x58000000 ∷ []) gives No 3 1
    -- an entry that copies, one that swaps, a transfer of the number 3 and of the greatest
    ∷ set fabric_f (20 * 4 + 3) 0x10 gives Fabric (shape 4 2 0 2)
    ∷ set fabric_f (20 * 4 + 3) 0x20 gives Fabric (shape 4 2 0 2)
    ∷ set fabric_f (20 * 4 + 3) 0x30 gives No 3 19
    ∷ set fabric_f (20 * 4 + 3) 0xf0 gives No 3 19
    -- port 0; edge ports that do not rise; a link from a port to itself; an entry too
    ∷ set fabric_f 4 0 gives No 4 1
    ∷ set fabric_f 40 1 gives No 4 10
    ∷ bytes_of (0x10010003 ∷ 0x30007007 ∷ 0x50000000 ∷ []) gives No 4 1
    ∷ set fabric_f (20 * 4) 1 gives No 4 19
    -- two links from port 1
    ∷ bytes_of (0x10010004 ∷ 0x30001009 ∷ 0x3000100a ∷ 0x50000000 ∷ []) gives No 4 2
    -- a value bit outside the care of F's first edge
    ∷ set fabric_f (6 * 4) 1 gives No 5 1
    -- a value bit outside care, and a rewrite bit outside the mask, of F's second entry
    ∷ set fabric_f (43 * 4) 1 gives No 5 37
    ∷ set fabric_f (51 * 4) 1 gives No 5 37
    -- two links that end at port 9; a link that starts, and one that ends, at an edge port
    ∷ bytes_of (0x10010004 ∷ 0x30001009 ∷ 0x30002009 ∷ 0x50000000 ∷ []) gives No 6 2
    ∷ bytes_of (0x1001000c ∷ 0x20001003 ∷ eight ++ (0x30003002 ∷ 0x50000000 ∷ [])) gives No 6 10
    ∷ bytes_of (0x1001000c ∷ 0x20001003 ∷ eight ++ (0x30002003 ∷ 0x50000000 ∷ [])) gives No 6 10
    -- two questions of one record get a no, and the first is answered: 3 before 4, 4 before 5, 4 before 6, and an
    -- unknown transfer before an entry from a port to itself
    ∷ bytes_of (0x10010003 ∷ 0x31000000 ∷ 0x50000000 ∷ []) gives No 3 1
    ∷ set (set fabric_f (20 * 4 + 3) 0x30) (20 * 4) 1 gives No 3 19
    ∷ set (set fabric_f 4 0) (6 * 4) 1 gives No 4 1
    ∷ bytes_of (0x1001000c ∷ 0x20001003 ∷ eight ++ (0x30003003 ∷ 0x50000000 ∷ [])) gives No 4 10
    -- the 65th edge
    ∷ bytes_of ((0x1001024b ∷ []) ++ several 65 (λ i. (0x20000001 + i) ∷ eight) ++ (0x50000000 ∷ [])) gives No 7 577
    ∷ []

as_said : map (λ (x : Example). accepted 4 x.file) examples ≡ map (λ (x : Example). x.answer) examples
unfolding accepted records passed asked in_order ports_right sets_tidy link_free within_limits sized started word_at width_in
as_said = refl

-- ---- version 2 (document 02, 2.6)

abbrev sixteen : List ℕ
sixteen = replicate 16 0

-- F with four more words to each header: edges from word 1 and 18 on, entries from 35 and 69 on, the end at 103
abbrev fabric_f2 : List ℕ
fabric_f2 =
    bytes_of ((0x10020068 ∷ []) ++ (0x20007001 ∷ sixteen) ++ (0x20009002 ∷ sixteen)
    ++ (0x40014001 ∷ 0 ∷ 0 ∷ 0 ∷ 3 ∷ 0 ∷ replicate 6 0 ++ (1 ∷ replicate 5 0 ++ sixteen))
    ++ (0x4000a001 ∷ 2 ∷ 0 ∷ 0xffffffff ∷ replicate 7 0 ++ (0x0a000002 ∷ replicate 6 0 ++ sixteen)) ++ (0x50000000 ∷ []))

abbrev examples2 : List Example
examples2 =
    fabric_f2 gives Fabric (shape 8 2 0 2)
    ∷ bytes_of (0x10020002 ∷ 0x50000000 ∷ []) gives Fabric (shape 8 0 0 0)
    -- under OpenFlow 1.3; files of version 1 and 3; one that is longer than any of version 1
    ∷ bytes_of (0x18020002 ∷ 0x50000000 ∷ []) gives Fabric (shape 8 0 0 0)
    ∷ fabric_f gives No 2 0
    ∷ bytes_of (0x10010002 ∷ 0x50000000 ∷ []) gives No 2 0
    ∷ bytes_of (0x10030002 ∷ 0x50000000 ∷ []) gives No 2 0
    ∷ bytes_of (0x10022743 ∷ replicate 10050 0) gives No 3 1
    -- an edge and an entry of as many words as version 1 has
    ∷ bytes_of (0x1002000b ∷ 0x20001003 ∷ eight ++ (0x50000000 ∷ [])) gives No 3 1
    ∷ bytes_of (0x10020014 ∷ 0x4000a001 ∷ 2 ∷ sixteen ++ (0x50000000 ∷ [])) gives No 3 1
    -- the eight bits that must be zero, the lowest and the highest of them: in the care of an edge and of a match, in a rewrite's mask
    ∷ set fabric_f2 (9 * 4) 1 gives No 5 1
    ∷ set fabric_f2 (9 * 4) 0x80 gives No 5 1
    ∷ set fabric_f2 (78 * 4) 1 gives No 5 69
    ∷ set fabric_f2 (78 * 4) 0x80 gives No 5 69
    ∷ set fabric_f2 (94 * 4) 1 gives No 5 69
    ∷ set fabric_f2 (94 * 4) 0x80 gives No 5 69
    -- the bit above them
    ∷ set fabric_f2 (9 * 4 + 1) 1 gives Fabric (shape 8 2 0 2)
    ∷ set fabric_f2 (78 * 4 + 1) 1 gives Fabric (shape 8 2 0 2)
    ∷ set fabric_f2 (94 * 4 + 1) 1 gives Fabric (shape 8 2 0 2)
    -- a bit of word 4 and of word 7 outside the care of an edge, outside the care of a match and outside a mask
    ∷ set fabric_f2 (14 * 4) 1 gives No 5 1
    ∷ set fabric_f2 (17 * 4 + 1) 1 gives No 5 1
    ∷ set fabric_f2 (83 * 4) 1 gives No 5 69
    ∷ set fabric_f2 (102 * 4 + 1) 1 gives No 5 69
    -- 4 before 5: port 0, and one of the eight bits
    ∷ set (set fabric_f2 4 0) (9 * 4) 1 gives No 4 1
    -- an edge port that a link has
    ∷ bytes_of (0x10020014 ∷ 0x20001003 ∷ sixteen ++ (0x30003002 ∷ 0x50000000 ∷ [])) gives No 6 18
    ∷ []

as_said_2 : map (λ (x : Example). accepted 8 x.file) examples2 ≡ map (λ (x : Example). x.answer) examples2
unfolding accepted records passed asked in_order ports_right sets_tidy link_free within_limits sized started word_at width_in
as_said_2 = refl
