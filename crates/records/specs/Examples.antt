-- The kinds by their numbers: those of words that begin a record of each kind, computed.
use Rattle.std.specs.Prelude.{[], ◌∷◌, ◌≡◌, refl}
use Rattle.layout.specs.Words.{kind_of}
use Rattle.records.specs.Kinds.{kind_number}
use Rattle.records.specs.declared.Kind.TheVariants.{Start, Edge, Link, Entry, End}

kinds : (kind_of 0x10010003 ∷ kind_of 0x20007009 ∷ kind_of 0x30321456 ∷ kind_of 0x40064321 ∷ kind_of 0x50000000 ∷ [])
    ≡ kind_number Start ∷ kind_number Edge ∷ kind_number Link ∷ kind_number Entry ∷ kind_number End ∷ []
kinds = refl
