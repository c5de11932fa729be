-- The fields and the places of records (F1 to F8) on words of which no two digits agree, each computed, in version 1 and 2: what holds the
-- definitions of Words.antt, Records.antt and Limits.antt to the layout.
use Rattle.std.specs.Prelude.{List, [], ◌∷◌, ◌++◌, ◌≡◌, refl, ℕ, zero, suc, ◌+◌, ◌*◌, length}
use Rattle.headers.specs.declared.Transfer.TheVariants.{Keep, Copy, Swap}
use Rattle.layout.specs.Words.{word_at, bytes_from, kind_of, version_of, count_of, choice_of, transfer_of, port_of, from_of, rank_of}
use Rattle.layout.specs.Records.{width_of, width_in, edge_words, edge_group, edge_port, edge_admitted, edge_bytes, port_of_edge}
use Rattle.layout.specs.Records.{from_of_link, to_of_link, place_of}
use Rattle.layout.specs.Records.{entry_words, entry_priority, entry_in, entry_out, entry_match, entry_rewrite, entry_action, transfer_at}
use Rattle.layout.specs.Records.{entry_bytes, in_of_entry}
use Rattle.layout.specs.Limits.{most_entries, most_bytes, most_words}
use Rattle.layout.specs.Versions.{header_words}
use Rattle.layout.specs.declared.Version.TheVariants.{One, Two}

-- F1: the lowest byte first
little_endian : word_at (0x78 ∷ 0x56 ∷ 0x34 ∷ 0x12 ∷ 0xef ∷ 0xcd ∷ 0xab ∷ 0x90 ∷ []) 1 ≡ 0x90abcdef
unfolding word_at
little_endian = refl

-- F2 to F6: kind or transfer in bits 31..28, group or priority in 27..12, from-port in 23..12, port in 11..0
fields : (kind_of 0x7fedcba9 ∷ transfer_of 0x7fedcba9 ∷ rank_of 0x7fedcba9 ∷ from_of 0x7fedcba9 ∷ port_of 0x7fedcba9 ∷ [])
    ≡ 7 ∷ 7 ∷ 0xfedc ∷ 0xedc ∷ 0xba9 ∷ []
fields = refl

-- bit 31 is theirs
top_bit : (kind_of 0x80000000 ∷ transfer_of 0x80000000 ∷ []) ≡ 8 ∷ 8 ∷ []
top_bit = refl

-- F3, F16: a start's choice in bit 27, its version in 26..16, the word count in 15..0
start_fields : (choice_of 0x1fedcba9 ∷ version_of 0x1fedcba9 ∷ count_of 0x1fedcba9 ∷ []) ≡ 1 ∷ 0x7ed ∷ 0xcba9 ∷ []
start_fields = refl

-- the bits beside it are not the choice
start_choices : (choice_of 0x17edcba9 ∷ choice_of 0x18000000 ∷ version_of 0x18000000 ∷ []) ≡ 0 ∷ 1 ∷ 0 ∷ []
start_choices = refl

-- version 2 has eight words, also under OpenFlow 1.3, and no other has them
widths : (width_of 0x10010000 ∷ width_of 0x10020000 ∷ width_of 0x18020000 ∷ width_of 0x10030000 ∷ width_of 0x14020000 ∷ [])
    ≡ 4 ∷ 8 ∷ 8 ∷ 4 ∷ 4 ∷ []
widths = refl

-- ---- a record's words

-- the bytes of the n words from k on, each its own number
abbrev pub counting : ℕ → ℕ → List ℕ
counting zero k = []
counting (suc n) k = k ∷ 0 ∷ 0 ∷ 0 ∷ counting n (suc k)

-- F4: an edge with the first word 0x2fedcba9, then n words from 1 on
abbrev an_edge : ℕ → List ℕ
an_edge n = 0xa9 ∷ 0xcb ∷ 0xed ∷ 0x2f ∷ counting n 1

edge_numbers : (edge_words 4 ∷ edge_words 8 ∷ edge_group (an_edge 8) ∷ edge_port (an_edge 8) ∷ []) ≡ 9 ∷ 17 ∷ 0xfedc ∷
    0xba9 ∷ []
unfolding word_at
edge_numbers = refl

edge_set : edge_admitted 4 (an_edge 8) ≡ record { care = 1 ∷ 2 ∷ 3 ∷ 4 ∷ []; value = 5 ∷ 6 ∷ 7 ∷ 8 ∷ [] }
unfolding word_at
edge_set = refl

edge_set_2 : edge_admitted 8 (an_edge 16) ≡ record {
  care = 1 ∷ 2 ∷ 3 ∷ 4 ∷ 5 ∷ 6 ∷ 7 ∷ 8 ∷ [];
  value = 9 ∷ 10 ∷ 11 ∷ 12 ∷ 13 ∷ 14 ∷ 15 ∷ 16 ∷ [];
}
unfolding word_at
edge_set_2 = refl

-- F6: an entry with the first words 0x4fedcba9 and 0x20000321, then n words from 2 on
abbrev an_entry : ℕ → List ℕ
an_entry n = 0xa9 ∷ 0xcb ∷ 0xed ∷ 0x4f ∷ 0x21 ∷ 0x03 ∷ 0 ∷ 0x20 ∷ counting n 2

entry_numbers : (entry_words 4 ∷ entry_words 8 ∷ entry_priority (an_entry 16) ∷ entry_in (an_entry 16) ∷ entry_out (an_entry 16)
    ∷ [])
    ≡ 18 ∷ 34 ∷ 0xfedc ∷ 0xba9 ∷ 0x321 ∷ []
unfolding word_at
entry_numbers = refl

entry_match_lem : entry_match 4 (an_entry 16) ≡ record { care = 2 ∷ 3 ∷ 4 ∷ 5 ∷ []; value = 6 ∷ 7 ∷ 8 ∷ 9 ∷ [] }
unfolding word_at
entry_match_lem = refl

entry_match_2 : entry_match 8 (an_entry 32) ≡ record {
  care = 2 ∷ 3 ∷ 4 ∷ 5 ∷ 6 ∷ 7 ∷ 8 ∷ 9 ∷ [];
  value = 10 ∷ 11 ∷ 12 ∷ 13 ∷ 14 ∷ 15 ∷ 16 ∷ 17 ∷ [];
}
unfolding word_at
entry_match_2 = refl

entry_rewrite_lem : entry_rewrite 4 (an_entry 16) ≡ record {
  mask = 10 ∷ 11 ∷ 12 ∷ 13 ∷ [];
  value =
      14 ∷ 15 ∷ 16 ∷ 17 ∷ [];
}
unfolding word_at
entry_rewrite_lem = refl

entry_rewrite_2 : entry_rewrite 8 (an_entry 32) ≡ record {
  mask = 18 ∷ 19 ∷ 20 ∷ 21 ∷ 22 ∷ 23 ∷ 24 ∷ 25 ∷ [];
  value = 26 ∷ 27 ∷ 28 ∷ 29 ∷ 30 ∷ 31 ∷ 32 ∷ 33 ∷ [];
}
unfolding word_at
entry_rewrite_2 = refl

-- F15: it swaps; and the transfers by their numbers
entry_action_lem : entry_action 4 (an_entry 16) ≡ record { transfer = Swap; rewrite = entry_rewrite 4 (an_entry 16) }
unfolding word_at
entry_action_lem = refl

transfers : (transfer_at 0 ∷ transfer_at 1 ∷ transfer_at 2 ∷ []) ≡ Keep ∷ Copy ∷ Swap ∷ []
transfers = refl

-- ---- F8, where records stand: a start, two edges, two links and two entries

-- in this version, n words a set
abbrev a_file : ℕ → ℕ → List ℕ
a_file version n =
    (0 ∷ 0 ∷ version ∷ 0x10 ∷ [])
    ++ (0x05 ∷ 0 ∷ 0 ∷ 0x20 ∷ counting n 1) ++ (0x09 ∷ 0 ∷ 0 ∷ 0x20 ∷ counting n 1)
    ++ (0x15 ∷ 0x40 ∷ 0x01 ∷ 0x30 ∷ []) ++ (0x1f ∷ 0xe0 ∷ 0x01 ∷ 0x30 ∷ [])
    ++ an_entry (2 * n) ++ (0x0c ∷ 0x70 ∷ 0 ∷ 0x40 ∷ counting (2 * n + 1) 1)

abbrev ports_in : List ℕ → List ℕ
ports_in f =
    port_of_edge f 0 ∷ port_of_edge f 1 ∷ from_of_link f 2 0 ∷ to_of_link f 2 0 ∷ from_of_link f 2 1 ∷ to_of_link f 2 1
    ∷ in_of_entry f 2 2 0 ∷ in_of_entry f 2 2 1 ∷ []

-- the ports of the edges 5 and 9, of the links 20 -> 21 and 30 -> 31, and the in-ports of the entries
ports : ports_in (a_file 1 8) ≡ 5 ∷ 9 ∷ 20 ∷ 21 ∷ 30 ∷ 31 ∷ 0xba9 ∷ 12 ∷ []
unfolding word_at width_in
ports = refl

ports_2 : ports_in (a_file 2 16) ≡ 5 ∷ 9 ∷ 20 ∷ 21 ∷ 30 ∷ 31 ∷ 0xba9 ∷ 12 ∷ []
unfolding word_at width_in
ports_2 = refl

places : (place_of 4 0 0 0 ∷ place_of 4 2 0 0 ∷ place_of 4 2 3 0 ∷ place_of 4 2 3 4 ∷ []) ≡ 1 ∷ 19 ∷ 22 ∷ 94 ∷ []
places = refl

places_2 : (place_of 8 0 0 0 ∷ place_of 8 2 0 0 ∷ place_of 8 2 3 0 ∷ place_of 8 2 3 4 ∷ []) ≡ 1 ∷ 35 ∷ 38 ∷ 174 ∷ []
places_2 = refl

-- the port of the second edge and the out-port of the first entry, each with how many bytes its record has
abbrev own_bytes : ℕ → List ℕ → List ℕ
own_bytes w f =
    let edge = edge_bytes f 1 in
    let entry = entry_bytes f (record { words = w; edges = 2; links = 2; entries = 2 }) 0 in
    edge_port edge ∷ length edge ∷ entry_out entry ∷ length entry ∷ []

own_bytes_lem : (own_bytes 4 (a_file 1 8) ++ own_bytes 8 (a_file 2 16)) ≡ 9 ∷ 36 ∷ 0x321 ∷ 72 ∷ 9 ∷ 68 ∷ 0x321 ∷ 136 ∷ []
unfolding word_at bytes_from width_in
own_bytes_lem = refl

-- ---- the words of a header, by the version

by_version : (header_words One ∷ header_words Two ∷ []) ≡ 4 ∷ 8 ∷ []
by_version = refl

-- ---- F11, F12: the limits, and how long a file they allow

limits : (most_entries 4 ∷ most_bytes 4 ∷ most_entries 8 ∷ most_bytes 8 ∷ 4 * most_words ∷ []) ≡ 512 ∷ 40200 ∷ 400 ∷
    59784 ∷ 59784 ∷ []
limits = refl
