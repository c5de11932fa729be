-- X23 and X24: what copies and swaps make of a header, and what they are undone to; each computed.
use Rattle.std.proofs.Math.Option.{some, none, bind}
use Rattle.std.specs.Prelude.{◌≡◌, refl, ℕ}
use Rattle.headers.specs.Sets.{Set, Rewrite, all_wild, no_rewrite, intersection, undone}
use Rattle.headers.specs.Actions.{Act, acted, unacted, before}
use Rattle.headers.specs.Examples.{header}
use Rattle.headers.specs.declared.Transfer.TheVariants.{Copy, Swap}

-- from and to addresses under these masks
abbrev pub between : ℕ → ℕ → ℕ → ℕ → Set
between srcCare dstCare src dst = record { care = header srcCare dstCare 0 0; value = header src dst 0 0 }

abbrev from_to : ℕ → ℕ → Set
from_to src dst = between 0xffffffff 0xffffffff src dst

abbrev from : ℕ → Set
from src = between 0xffffffff 0 src 0

abbrev to : ℕ → Set
to dst = between 0 0xffffffff 0 dst

abbrev pub set_to : ℕ → Rewrite
set_to dst = record { mask = header 0 0xffffffff 0 0; value = header 0 dst 0 0 }

abbrev set_from : ℕ → Rewrite
set_from src = record { mask = header 0xffffffff 0 0 0; value = header src 0 0 0 }

abbrev pub copying : Rewrite → Act
copying r = record { transfer = Copy; rewrite = r }

abbrev pub swapping : Rewrite → Act
swapping r = record { transfer = Swap; rewrite = r }

computing : Unit {0}
unfolding bind intersection undone unacted before
computing = tt

-- ---- X23: on a header with nw_src 7, nw_dst 9 and the other words 3 and 4

copies : acted 4 (copying (no_rewrite 4)) (header 7 9 3 4) ≡ header 7 7 3 4
copies = refl

swaps : acted 4 (swapping (no_rewrite 4)) (header 7 9 3 4) ≡ header 9 7 3 4
swaps = refl

-- the transfer comes first: it moves what was there before the rewrite, and the rewrite may overwrite what it moved
copies_then_writes : acted 4 (copying (set_from 5)) (header 7 9 3 4) ≡ header 5 7 3 4
copies_then_writes = refl

swaps_then_writes : acted 4 (swapping (set_to 5)) (header 7 9 3 4) ≡ header 9 5 3 4
swaps_then_writes = refl

-- ---- X24: traced back from an exit set

-- a copy's nw_dst was its nw_src
copy_back : before 4 (all_wild 4) (copying (no_rewrite 4)) (to 7) ≡ some (from 7)
unfolding computing
copy_back = refl

-- two wants that agree are joined in one: on bits 31..16 and on bits 23..8
wants_agree : before 4 (all_wild 4) (copying (no_rewrite 4)) (between 0xffff0000 0x00ffff00 0x0a0b0000 0x000b0c00)
    ≡ some (between 0xffffff00 0 0x0a0b0c00 0)
unfolding computing
wants_agree = refl

-- and two that differ on a bit that both care for are empty
wants_disagree : before 4 (all_wild 4) (copying (no_rewrite 4)) (between 0xffff0000 0x00ffff00 0x0a0b0000 0x000a0c00) ≡ none
unfolding computing
wants_disagree = refl

swap_back : before 4 (all_wild 4) (swapping (no_rewrite 4)) (from_to 7 9) ≡ some (from_to 9 7)
unfolding computing
swap_back = refl

-- where the swapped field is written after the swap, nothing is wanted of nw_src
written_after_swap : before 4 (all_wild 4) (swapping (set_to 5)) (from_to 7 5) ≡ some (to 7)
unfolding computing
written_after_swap = refl

another_written : before 4 (all_wild 4) (swapping (set_to 5)) (from_to 7 6) ≡ none
unfolding computing
another_written = refl

-- what is written to nw_src after a copy doesn't reach nw_dst
written_after_copy : before 4 (all_wild 4) (copying (set_from 5)) (from_to 5 7) ≡ some (from 7)
unfolding computing
written_after_copy = refl

-- the match holds the header as it was before the transfer
swap_matched : before 4 (from 7) (swapping (no_rewrite 4)) (all_wild 4) ≡ some (from 7)
unfolding computing
swap_matched = refl

swap_unmatched : before 4 (from 7) (swapping (no_rewrite 4)) (to 9) ≡ none
unfolding computing
swap_unmatched = refl
