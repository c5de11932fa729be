-- The bits that are carved of eight words (document 02, 2.6), each computed: what holds the definitions of Cuts.antt.
use Rattle.std.specs.Prelude.{false, List, ◌≡◌, refl, ℕ}
use Rattle.headers.specs.Bits.{bit, bit_at, positions, those, set_bits, single, first_set, first_bit}
use Rattle.headers.specs.Examples.{header}
use Rattle.layout.specs.Words.{word_at}
use Rattle.layout.specs.Examples.{counting}
use Rattle.wide.specs.Examples.{eight}
use Rattle.carving.specs.Cuts.{free_left, bit_of}
use Rattle.carving.specs.declared.Cut.{Cut}

-- a cut of a set that cares for these words
abbrev caring : List ℕ → List ℕ → Cut
caring low high = record {
  set = record { low = record { care = low; value = header 0 0 0 0 }; high = record { care = high; value = header 0 0 0 0 } };
  high = false;
  free = header 0 0 0 0;
  bit = header 0 0 0 0;
}

-- by the set that cares for 1, 2, .. 8: what it cares for and the other doesn't, from first to last
free_bits : free_left 8 (counting 20 0) 1 (caring (header 1 2 0 4) (header 0 2 7 0)) ≡ eight 0 0 3 0 5 4 0 8
unfolding word_at
free_bits = refl

first_among_low : bit_of 8 (counting 20 0) 1 (caring (header 1 2 0 4) (header 0 2 7 0)) ≡ eight 0 0 2 0 0 0 0 0
unfolding word_at bit bit_at positions those set_bits single first_set first_bit
first_among_low = refl

-- after word 3 comes word 4
then_among_high : bit_of 8 (counting 20 0) 1 (caring (header 1 2 3 4) (header 0 2 7 0)) ≡ eight 0 0 0 0 4 0 0 0
unfolding word_at bit bit_at positions those set_bits single first_set first_bit
then_among_high = refl

-- a set of four words leaves the last four free of it
none_among_high : free_left 4 (counting 12 0) 1 (caring (header 1 2 3 4) (header 0 0 0 0)) ≡ eight 0 0 0 0 0 0 0 0
unfolding word_at
none_among_high = refl
