-- What the cells of an index say, as the code has it: where a part comes from, and the next entry of a chain.
use Rattle.std.specs.Prelude.{Option, None, Some, ◌≡◌, ℕ, ◌+◌, ◌<◌}
use Rattle.index.specs.Chains.{no_entry}
use Rattle.index.specs.declared.Place.{Place}
use Rattle.index.specs.declared.Place.TheVariants.{Nowhere, Port, Edge}

-- 0 is from nowhere, a port from the link that starts there, and 4,096 + k from edge k
abbrev pub number_of_place : Place → ℕ
number_of_place Nowhere = 0
number_of_place (Port p) = p
number_of_place (Edge k) = 4096 + k

-- so a place has no other's number
abbrev pub IsFormed : Place → Type 0
IsFormed Nowhere = Unit {0}
IsFormed (Port p) = (0 < p) × (p < 4096)
IsFormed (Edge k) = Unit {0}

-- the number of the next entry, or at the end of a chain 'no entry'
abbrev pub chain_number : Option ℕ → ℕ
chain_number None = no_entry
chain_number (Some e) = e

-- an entry isn't 'no entry'
abbrev pub IsEntry : Option ℕ → Type 0
IsEntry None = Unit {0}
IsEntry (Some e) = e ≡ no_entry → ⊥
