-- The arrays of the code's structs are words of 32 bits, four each.
use mathlib.Core.List.{[], ◌∷◌}
use borrow.Author.Rules.{rules}
use denote.Laws.{Is}
use denote.Struct.Laws.{val}
use Rattle.headers.specs.Bits.{Words}
use Rattle.headers.proofs.Positions.{array_words}
use Rattle.layout.specs.Records.{half}
use Rattle.wide.specs.declared.WideHeader as headers
use Rattle.wide.specs.declared.WideSet as sets
use Rattle.wide.specs.declared.Query as queries
use Rattle.wide.proofs.Halves.{Fours}
use Rattle.wide.specs.contracts.WideHeader
use Rattle.wide.proofs.WideHeader.TheLaws as header-laws
use Rattle.wide.specs.contracts.WideSet
use Rattle.wide.proofs.WideSet.TheLaws as set-laws
use Rattle.wide.specs.contracts.Query
use Rattle.wide.proofs.Query.TheLaws as query-laws

pub record Halves (h : headers.WideHeader) : Type 0 where
  pub low : Words half h.low
  pub high : Words half h.high

pub header_halves : (h : headers.WideHeader) → Is WideHeader.the_row h (val WideHeader.the_type header-laws.the_laws h ∷ [])
    → Halves h
header_halves h is = record {
  low = array_words 4 _ (search rules) (λ w. search rules);
  high = array_words 4 _ (search rules) (λ w. search rules);
}

pub set_fours : (s : sets.WideSet) → Is WideSet.the_row s (val WideSet.the_type set-laws.the_laws s ∷ []) → Fours s
set_fours s is = record {
  low = record { care = array_words 4 _ (search rules) (λ w. search rules); value = array_words 4 _ (search rules) (λ w. search rules) };
  high = record { care = array_words 4 _ (search rules) (λ w. search rules); value = array_words 4 _ (search rules) (λ w. search rules) };
}

pub query_fours : (q : queries.Query) → Is Query.the_row q (val Query.the_type query-laws.the_laws q ∷ []) → Fours q.asked
query_fours q is = record {
  low = record { care = array_words 4 _ (search rules) (λ w. search rules); value = array_words 4 _ (search rules) (λ w. search rules) };
  high = record { care = array_words 4 _ (search rules) (λ w. search rules); value = array_words 4 _ (search rules) (λ w. search rules) };
}
