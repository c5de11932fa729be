-- The arrays of a cut are words of 32 bits, four each.
use mathlib.Core.List.{[], ◌∷◌}
use borrow.Author.Rules.{rules}
use denote.Laws.{Is}
use denote.Struct.Laws.{val}
use Rattle.headers.proofs.Positions.{array_words}
use Rattle.wide.proofs.Halves.{Fours}
use Rattle.carving.specs.declared.Cut as cuts
use Rattle.carving.specs.contracts.Cut
use Rattle.carving.proofs.Cut.TheLaws as cut-laws

pub cut_fours : (c : cuts.Cut) → Is Cut.the_row c (val Cut.the_type cut-laws.the_laws c ∷ []) → Fours c.set
cut_fours c is = record {
  low = record { care = array_words 4 _ (search rules) (λ w. search rules); value = array_words 4 _ (search rules) (λ w. search rules) };
  high = record { care = array_words 4 _ (search rules) (λ w. search rules); value = array_words 4 _ (search rules) (λ w. search rules) };
}
