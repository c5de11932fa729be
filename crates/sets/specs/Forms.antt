-- The structs of the code as sets and answers over four words.
use Rattle.std.specs.Prelude.{Option, Some, None}
use Rattle.std.proofs.Math.Option as maybe
use Rattle.headers.specs.Sets.{Set}
use Rattle.sets.specs.declared.HeaderSet.{HeaderSet}

abbrev pub set_of : HeaderSet → Set
set_of s = record { care = s.care; value = s.value }

-- a set as the code has it
abbrev pub form_of : Set → HeaderSet
form_of s = record { care = s.care; value = s.value }

abbrev pub maybe_of : maybe.Option Set → Option HeaderSet
maybe_of maybe.none = None
maybe_of (maybe.some s) = Some (form_of s)
