-- E8, E9 and E10 of document 01, the carving of E2, the first set bit, and where the published method misleads; each computed.
use Rattle.std.specs.Prelude.{true, false, [], ◌∷◌, ◌≡◌, refl, ℕ}
use Rattle.std.proofs.Math.Option.{some, none, bind}
use Rattle.headers.specs.Bits.{bit, bit_at, positions, those, set_bits, single, first_set, first_bit}
use Rattle.headers.specs.Sets.{Header, Set, all_wild, beside, padded, intersection, undone}
use Rattle.headers.specs.Actions.{Act, unacted, before}
use Rattle.headers.specs.declared.Transfer.TheVariants.{Keep}
use Rattle.headers.specs.Carving.{parts_at, parts, carve, within}

abbrev pub header : ℕ → ℕ → ℕ → ℕ → Header
header a b c d = a ∷ b ∷ c ∷ d ∷ []

abbrev pub tp_dst : ℕ → Set
tp_dst port = record { care = header 0 0 0xffff 0; value = header 0 0 port 0 }

abbrev pub set_tp_dst : ℕ → Act
set_tp_dst port = record { transfer = Keep; rewrite = record { mask = header 0 0 0xffff 0; value = header 0 0 port 0 } }

-- What the examples compute with: to open it is to open all that its line names.
computing : Unit {0}
unfolding bind intersection undone unacted before
computing = tt

-- "rewriting tp_dst to 5 with an all-wild match, exit tp_dst 5: all wild"; 004's Table V has the written value
E8 : before 4 (all_wild 4) (set_tp_dst 5) (tp_dst 5) ≡ some (all_wild 4)
unfolding computing
E8 = refl

-- "exit tp_dst 6: empty"
E9 : before 4 (all_wild 4) (set_tp_dst 5) (tp_dst 6) ≡ none
unfolding computing
E9 = refl

-- "match tp_dst 80, rewrite to 5, all-wild exit: tp_dst 80"; 004's Table V has all-wild
E10 : before 4 (tp_dst 80) (set_tp_dst 5) (all_wild 4) ≡ some (tp_dst 80)
unfolding computing
E10 = refl

-- E2: the match of entry 1 carved by that of entry 0
E2-parts : carve 4 (record { care = header 0 0xffffffff 0 0; value = header 0 0x0a000002 0 0 })
    (record { care = header 0 0 3 0; value = header 0 0 1 0 })
    ≡ record { care = header 0 0xffffffff 2 0; value = header 0 0x0a000002 2 0 }
    ∷ record { care = header 0 0xffffffff 3 0; value = header 0 0x0a000002 0 0 }
    ∷ []
unfolding bit bit_at positions those set_bits single parts_at parts carve
E2-parts = refl

-- in document 01's order the first bit is the highest of the first word that is not 0
first_of_several : first_bit 4 (header 0 0x00000a01 0xffffffff 0x80000000) ≡ header 0 0x00000800 0 0
unfolding bit bit_at positions those set_bits single first_set first_bit
first_of_several = refl

first_of_none : first_bit 4 (header 0 0 0 0) ≡ header 0 0 0 0
unfolding bit bit_at positions those set_bits single first_set first_bit
first_of_none = refl

-- "A beater on nw_src 10.0.0.1 and tp_dst 80 leaves tp_dst 80 from other sources."
abbrev beater : Set
beater = record { care = header 0xffffffff 0 0xffff 0; value = header 0x0a000001 0 80 0 }

other_sources : within 4 (carve 4 (all_wild 4) beater) (header 0x0a000002 0 80 0) ≡ true
unfolding bit bit_at positions those set_bits single parts_at parts carve within
other_sources = refl

-- .. and takes it from that source alone
that_source : within 4 (carve 4 (all_wild 4) beater) (header 0x0a000001 0 80 0) ≡ false
unfolding bit bit_at positions those set_bits single parts_at parts carve within
that_source = refl

-- "Forwarding a back-traced set need not give the whole exit set": all of the all-wild exit set traces back to all headers,
-- and none of them is forwarded to tp_dst 6 (`proofs/Misleading.antt`, `never_forwarded`)
whole_exit_traced : before 4 (all_wild 4) (set_tp_dst 5) (all_wild 4) ≡ some (all_wild 4)
unfolding computing
whole_exit_traced = refl

-- ---- more words: document 02, 2.6

-- four more words, all of them wild, come last
four_more : padded 4 (tp_dst 80) ≡ record {
  care = 0 ∷ 0 ∷ 0xffff ∷ 0 ∷ 0 ∷ 0 ∷ 0 ∷ 0 ∷ [];
  value =
      0 ∷ 0 ∷ 80 ∷ 0 ∷ 0 ∷ 0 ∷ 0 ∷ 0 ∷ [];
}
four_more = refl

-- where no bit of word 3 is free, the first part is carved in word 4
carved_in_word_4 : carve 8 (padded 4 (tp_dst 80)) (beside (tp_dst 80) (record { care = header 3 0 0 0; value = header 1 0 0 0 }))
    ≡ beside (tp_dst 80) (record { care = header 2 0 0 0; value = header 2 0 0 0 })
    ∷ beside (tp_dst 80) (record { care = header 3 0 0 0; value = header 0 0 0 0 })
    ∷ []
unfolding bit bit_at positions those set_bits single parts_at parts carve
carved_in_word_4 = refl
