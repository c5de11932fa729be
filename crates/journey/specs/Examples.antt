-- The words of a packet's run (A11), computed for each fate (W9): port, hops and entries differ.
use Rattle.std.specs.Prelude.{true, false, [], ◌∷◌, ◌≡◌, refl, replicate}
use Rattle.answer.specs.Answer.{sixteen}
use Rattle.forwarding.specs.Run.{left, dropped, missed, travelling, tied, fate_of, port_of, header_of, taken_by}
use Rattle.forwarding.specs.Fabric.{Fabric}
use Rattle.forwarding.specs.Examples.{linked_under}
use Rattle.journey.specs.Journey.{packet_words}

-- a fabric without entries, under OpenFlow 1.0 and under 1.3
abbrev old : Fabric
old = linked_under false 0 0 []

abbrev new : Fabric
new = linked_under true 0 0 []

-- left at port 12 after entries 5, 4 and 2
left_words : packet_words old (left 12 (1 ∷ 6 ∷ 8 ∷ 9 ∷ []) (2 ∷ 4 ∷ 5 ∷ []))
    ≡ 0 ∷ 0 ∷ 12 ∷ 3 ∷ 1 ∷ 6 ∷ 8 ∷ 9 ∷ 5 ∷ 4 ∷ 2 ∷ replicate 13 0
unfolding sixteen fate_of port_of header_of taken_by packet_words
left_words = refl

-- the same with a header of eight words
wide_words_lem : packet_words old (left 12 (1 ∷ 6 ∷ 8 ∷ 9 ∷ 2 ∷ 3 ∷ 4 ∷ 256 ∷ []) (2 ∷ 4 ∷ 5 ∷ []))
    ≡ 0 ∷ 0 ∷ 12 ∷ 3 ∷ 1 ∷ 6 ∷ 8 ∷ 9 ∷ 2 ∷ 3 ∷ 4 ∷ 256 ∷ 5 ∷ 4 ∷ 2 ∷ replicate 13 0
unfolding sixteen fate_of port_of header_of taken_by packet_words
wide_words_lem = refl

-- dropped at port 12 by entry 5
dropped_words : packet_words old (dropped 12 (1 ∷ 6 ∷ 8 ∷ 9 ∷ []) (5 ∷ []))
    ≡ 1 ∷ 0 ∷ 12 ∷ 1 ∷ 1 ∷ 6 ∷ 8 ∷ 9 ∷ 5 ∷ replicate 15 0
unfolding sixteen fate_of port_of header_of taken_by packet_words
dropped_words = refl

-- no entry takes it at port 12, where it started: lost under 1.0, dropped under 1.3
lost_words : packet_words old (missed 12 (1 ∷ 6 ∷ 8 ∷ 9 ∷ []) []) ≡ 2 ∷ 0 ∷ 12 ∷ 0 ∷ 1 ∷ 6 ∷ 8 ∷ 9 ∷ replicate 16
    0
unfolding sixteen fate_of port_of header_of taken_by packet_words
lost_words = refl

missed_words : packet_words new (missed 12 (1 ∷ 6 ∷ 8 ∷ 9 ∷ []) [])
    ≡ 1 ∷ 0 ∷ 12 ∷ 0 ∷ 1 ∷ 6 ∷ 8 ∷ 9 ∷ replicate 16 0
unfolding sixteen fate_of port_of header_of taken_by packet_words
missed_words = refl

-- still travelling, to port 12, after entries 5 and 4
travelling_words : packet_words old (travelling 12 (1 ∷ 6 ∷ 8 ∷ 9 ∷ []) (4 ∷ 5 ∷ []))
    ≡ 3 ∷ 0 ∷ 12 ∷ 2 ∷ 1 ∷ 6 ∷ 8 ∷ 9 ∷ 5 ∷ 4 ∷ replicate 14 0
unfolding sixteen fate_of port_of header_of taken_by packet_words
travelling_words = refl

-- tied at port 12 after entry 5
tied_words : packet_words old (tied 12 (1 ∷ 6 ∷ 8 ∷ 9 ∷ []) (5 ∷ []))
    ≡ 4 ∷ 0 ∷ 12 ∷ 1 ∷ 1 ∷ 6 ∷ 8 ∷ 9 ∷ 5 ∷ replicate 15 0
unfolding sixteen fate_of port_of header_of taken_by packet_words
tied_words = refl
