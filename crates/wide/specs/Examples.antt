-- Headers and sets of eight words, and what stands in a file as such (document 02, 2.6), each computed: what holds the definitions of
-- Forms.antt.
use Rattle.std.specs.Prelude.{Some, None, List, [], ◌∷◌, ◌≡◌, refl, ℕ}
use Rattle.std.proofs.Math.Option.{some, none}
use Rattle.std.proofs.Common.{arith}
use Rattle.headers.specs.Sets.{Header}
use Rattle.headers.specs.Examples.{header}
use Rattle.sets.specs.declared.HeaderSet.{HeaderSet}
use Rattle.layout.specs.Words.{word_at}
use Rattle.layout.specs.Examples.{counting}
use Rattle.wide.specs.Forms.{words_of, wide_of, maybe_wide_of, widest, narrowed, stored_at, rewrite_stored, Stored}
use Rattle.wide.specs.declared.WideSet.{WideSet}

-- ---- eight words

abbrev pub eight : ℕ → ℕ → ℕ → ℕ → ℕ → ℕ → ℕ → ℕ → Header
eight a b c d e f g h = a ∷ b ∷ c ∷ d ∷ e ∷ f ∷ g ∷ h ∷ []

abbrev four : ℕ → ℕ → ℕ → ℕ → List ℕ → HeaderSet
four a b c d value = record { care = header a b c d; value = value }

abbrev a_set : WideSet
a_set = record { low = four 1 2 3 4 (header 9 10 11 12); high = four 5 6 7 8 (header 13 14 15 16) }

-- "the old four, then ..": in order
words_in_order : words_of (record { low = header 1 2 3 4; high = header 5 6 7 8 }) ≡ eight 1 2 3 4 5 6 7 8
words_in_order = refl

set_in_order : wide_of a_set ≡ record { care = eight 1 2 3 4 5 6 7 8; value = eight 9 10 11 12 13 14 15 16 }
set_in_order = refl

there_or_empty : (maybe_wide_of (Some a_set) ∷ maybe_wide_of None ∷ []) ≡ some (wide_of a_set) ∷ none ∷ []
there_or_empty = refl

-- a set of four words as one of eight: the last four are wild; and its first four again
four_as_eight : widest 4 (record { care = header 1 2 3 4; value = header 5 6 7 8 })
    ≡ record { care = eight 1 2 3 4 0 0 0 0; value = eight 5 6 7 8 0 0 0 0 }
four_as_eight = refl

eight_as_eight : widest 8 (wide_of a_set) ≡ wide_of a_set
eight_as_eight = refl

first_four : narrowed 4 (wide_of a_set) ≡ record { care = header 1 2 3 4; value = header 9 10 11 12 }
first_four = refl

-- ---- in a file: words 0, 1, 2, .. whose numbers they hold

stored_in_four : stored_at 4 (counting 12 0) 1 ≡ record { care = eight 1 2 3 4 0 0 0 0; value = eight 5 6 7 8 0 0 0 0 }
unfolding word_at
stored_in_four = refl

stored_in_eight : stored_at 8 (counting 20 0) 1 ≡ record { care = eight 1 2 3 4 5 6 7 8; value = eight 9 10 11 12 13 14 15 16 }
unfolding word_at
stored_in_eight = refl

rewrite_in_four : rewrite_stored 4 (counting 12 0) 1 ≡ record { mask = eight 1 2 3 4 0 0 0 0; value = eight 5 6 7 8 0 0 0 0 }
unfolding word_at
rewrite_in_four = refl

rewrite_in_eight : rewrite_stored 8 (counting 20 0) 1 ≡ record { mask = eight 1 2 3 4 5 6 7 8; value = eight 9 10 11 12 13 14 15 16 }
unfolding word_at
rewrite_in_eight = refl

-- all of it is there, and with a word less it isn't
just_there : Stored (counting 17 0) 1 8
just_there = record { width = record { low = omega arith; high = omega arith; halves = refl }; inside = omega arith }

a_word_short : Stored (counting 16 0) 1 8 → ⊥
a_word_short s = omega (arith, s.inside)
