-- Where questions 1, 2, 3, 5 and 7 (Q1, Q2, Q3, Q5, Q7) change their answer, computed, in version 1 and 2: the longest file, the bits of
-- the start and of an entry's second word, the eight bits that must be zero, and the last record within each of the four limits.
use Rattle.std.specs.Prelude.{Bool, true, false, ◌&&◌, [], ◌∷◌, ◌++◌, ◌≡◌, refl, ℕ, replicate}
use Rattle.headers.specs.Sets.{Set}
use Rattle.layout.specs.Words.{word_at}
use Rattle.layout.specs.Records.{width_in}
use Rattle.questions.specs.Refusals.{number}
use Rattle.questions.specs.declared.Refusal.TheVariants as Refusals
use Rattle.questions.specs.Questions.{sized, started, after_start, zero_bits, transfer_known, clean, clean_high, within_limits}

-- ---- Q1, the length

lengths : (sized 4 (replicate 4 0) ∷ sized 4 (replicate 8 0) ∷ sized 4 (replicate 10 0) ∷ []) ≡ false ∷ true ∷ false ∷ []
unfolding sized
lengths = refl

-- of 40,200, 40,204, 59,784 and 59,788 bytes, in a call for version 1 and in one for version 2
longest : (sized 4 (replicate 40200 0) ∷ sized 4 (replicate 40204 0)
    ∷ sized 8 (replicate 40204 0) ∷ sized 8 (replicate 59784 0) ∷ sized 8 (replicate 59788 0)
    ∷ [])
    ≡ true ∷ false ∷ true ∷ true ∷ false ∷ []
unfolding sized
longest = refl

-- ---- Q2, the start

-- a file of two words of which the first has these four bytes, the highest first, in a call for headers of w words
abbrev start : ℕ → ℕ → ℕ → ℕ → ℕ → Bool
start w a b c d = started w (d ∷ c ∷ b ∷ a ∷ replicate 4 0)

-- version 1 and two words, under OpenFlow 1.0 and 1.3; another kind; versions 0, 2 and 1,025; a word more
starts : (start 4 0x10 1 0 2
    ∷ start 4 0x18 1 0 2
    ∷ start 4 0x20 1 0 2
    ∷ start 4 0x10 0 0 2
    ∷ start 4 0x10 2 0 2
    ∷ start 4 0x14 1 0 2
    ∷ start 4 0x10 1 0 3
    ∷ [])
    ≡ true ∷ true ∷ false ∷ false ∷ false ∷ false ∷ false ∷ []
unfolding started word_at
starts = refl

-- in a call for version 2: version 2, under OpenFlow 1.0 and 1.3; versions 1, 3 and 1,026
starts_2 : (start 8 0x10 2 0 2 ∷ start 8 0x18 2 0 2 ∷ start 8 0x10 1 0 2 ∷ start 8 0x10 3 0 2 ∷ start 8 0x14 2 0 2 ∷ [])
    ≡ true ∷ true ∷ false ∷ false ∷ false ∷ []
unfolding started word_at
starts_2 = refl

-- ---- Q3, an entry's second word

-- an entry after a start, with these four bytes as its second word, the highest first
abbrev second : ℕ → ℕ → ℕ → ℕ → Bool
second a b c d =
    let file = replicate 4 0 ++ (5 ∷ 0 ∷ 0 ∷ 0x40 ∷ d ∷ c ∷ b ∷ a ∷ []) in
    zero_bits file after_start && transfer_known file after_start

-- no transfer, a copy and a swap, each with the highest out-port; the numbers 3 and 15
transfers : (second 0 0 0x0f 0xff ∷ second 0x10 0 0x0f 0xff ∷ second 0x20 0 0x0f 0xff ∷ second 0x30 0 0 0 ∷ second 0xf0 0 0 0 ∷
    [])
    ≡ true ∷ true ∷ true ∷ false ∷ false ∷ []
unfolding word_at
transfers = refl

-- the highest and the lowest zero bit, without a transfer and with one
zero_bits_lem : (second 0x08 0 0 0 ∷ second 0 0 0x10 0 ∷ second 0x28 0 0 0 ∷ second 0x20 0 0x10 0 ∷ [])
    ≡ false ∷ false ∷ false ∷ false ∷ []
unfolding word_at
zero_bits_lem = refl

-- ---- Q5, the eight bits

-- n words, of which only the last cares for bits, and for these
abbrev caring : ℕ → ℕ → Set
caring n bits = record { care = replicate n 0 ++ (bits ∷ []); value = replicate n 0 ++ (0 ∷ []) }

-- of eight words: all bits of word 7 but these eight, the lowest bit above them, the highest and the lowest of them
spare : (clean 8 (caring 7 0xffffff00) ∷ clean 8 (caring 7 0x100) ∷ clean 8 (caring 7 0x80) ∷ clean 8 (caring 7 1) ∷ [])
    ≡ true ∷ true ∷ false ∷ false ∷ []
spare = refl

-- the same of the last four words by themselves; version 1 has no such bits
spare_high : (clean_high (caring 3 0xffffff00) ∷ clean_high (caring 3 0x80) ∷ clean_high (caring 3 1) ∷ clean 4 (caring 3 0xff) ∷
    [])
    ≡ true ∷ false ∷ false ∷ true ∷ []
spare_high = refl

-- a value bit outside care, in word 7 and in word 3
untidy : (clean 8 (record { care = replicate 8 0; value = replicate 7 0 ++ (0x100 ∷ []) })
    ∷ clean 4 (record { care = replicate 4 0; value = replicate 3 0 ++ (1 ∷ []) })
    ∷ [])
    ≡ false ∷ false ∷ []
untidy = refl

-- ---- Q7, the limits

-- a record whose first word is of this version's file too, has this highest byte and port 5, after so many edges, links and entries at
-- port 5 and entries at port 6
abbrev after : ℕ → ℕ → ℕ → ℕ → ℕ → ℕ → Bool
after version kind edges links here elsewhere = within_limits (5 ∷ 0 ∷ version ∷ kind ∷ []) (record {
  place = 0;
  last_kind_lem = 1;
  edges = replicate edges 1;
  froms = replicate links 1;
  tos = replicate links 1;
  ins = replicate here 5 ++ replicate elsewhere 6;
})

-- the 64th and the 65th edge
edges_64 : (after 1 0x20 63 0 0 0 ∷ after 1 0x20 64 0 0 0 ∷ after 2 0x20 63 0 0 0 ∷ after 2 0x20 64 0 0 0 ∷ [])
    ≡ true ∷ false ∷ true ∷ false ∷ []
unfolding within_limits word_at
edges_64 = refl

-- the 256th and the 257th link
links_256 : (after 1 0x30 64 255 0 0 ∷ after 1 0x30 64 256 0 0 ∷ after 2 0x30 64 255 0 0 ∷ after 2 0x30 64 256 0 0 ∷ [])
    ≡ true ∷ false ∷ true ∷ false ∷ []
unfolding within_limits word_at
links_256 = refl

-- the 512th and the 513th entry, and in version 2 the 400th and the 401st
entries_512 : (after 1 0x40 64 256 0 511 ∷ after 1 0x40 64 256 0 512 ∷ after 2 0x40 64 256 0 399 ∷ after 2 0x40 64 256 0 400 ∷ [])
    ≡ true ∷ false ∷ true ∷ false ∷ []
unfolding within_limits word_at width_in
entries_512 = refl

-- the 64th and the 65th entry of an in-port
in_port_64 : (after 1 0x40 64 256 63 100 ∷ after 1 0x40 64 256 64 100 ∷ after 2 0x40 64 256 63 100 ∷ after 2 0x40 64 256 64 100 ∷
    [])
    ≡ true ∷ false ∷ true ∷ false ∷ []
unfolding within_limits word_at width_in
in_port_64 = refl

-- ---- the refusals, by the numbers of their questions

numbers_of_a_file : (number Refusals.Size ∷ number Refusals.Start ∷ number Refusals.Order ∷ number Refusals.Ports ∷
    number Refusals.Tidiness ∷ number Refusals.Ends ∷ number Refusals.Limits ∷ []) ≡ 1 ∷ 2 ∷ 3 ∷ 4 ∷ 5 ∷ 6 ∷ 7 ∷ []
numbers_of_a_file = refl

numbers_of_a_query : (number Refusals.Target ∷ number Refusals.HopLimit ∷ number Refusals.AskedSet ∷ number Refusals.StartPort ∷
    number Refusals.Room ∷ number Refusals.Budget ∷ number Refusals.Input ∷ []) ≡ 8 ∷ 9 ∷ 10 ∷ 11 ∷ 12 ∷ 13 ∷ 14 ∷ []
numbers_of_a_query = refl
