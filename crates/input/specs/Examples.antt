-- The words of a query (P2), each its own number, computed: which is which, in either version.
use Rattle.std.specs.Prelude.{[], ◌∷◌, ◌≡◌, refl}
use Rattle.std.proofs.Math.Option.{some, none}
use Rattle.layout.specs.Words.{word_at, bits}
use Rattle.layout.specs.Examples.{counting}
use Rattle.calls.specs.Questions.{query}
use Rattle.fabric.specs.declared.Call.TheVariants as Calls
use Rattle.input.specs.Program.{width_marked, query_words, query_in, call_named}

sizes : (query_words 4 ∷ query_words 8 ∷ []) ≡ 12 ∷ 20 ∷ []
sizes = refl

in_place : query_in 4 (counting 12 0)
    ≡ query 1 2 3 (record { care = 4 ∷ 5 ∷ 6 ∷ 7 ∷ []; value = 8 ∷ 9 ∷ 10 ∷ 11 ∷ [] })
unfolding word_at
in_place = refl

in_place_2 : query_in 8 (counting 20 0)
    ≡ query 1 2 3 (record {
      care = 4 ∷ 5 ∷ 6 ∷ 7 ∷ 8 ∷ 9 ∷ 10 ∷ 11 ∷ [];
      value = 12 ∷ 13 ∷ 14 ∷ 15 ∷ 16 ∷ 17 ∷ 18 ∷ 19 ∷ [];
    })
unfolding word_at
in_place_2 = refl

-- bit 31 marks version 2, and the bits below it are the call
marked : (width_marked 0x80000001 ∷ bits 30 0 0x80000001 ∷ width_marked 0x7fffffff ∷ bits 30 0 0x7fffffff ∷ [])
    ≡ 8 ∷ 1 ∷ 4 ∷ 0x7fffffff ∷ []
marked = refl

named : (call_named 0 ∷ call_named 1 ∷ call_named 2 ∷ call_named 3 ∷ call_named 4 ∷ [])
    ≡ none ∷ some Calls.Verdict ∷ some Calls.List ∷ some Calls.Run ∷ none ∷ []
unfolding call_named
named = refl
