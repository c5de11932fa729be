-- The kinds of records by their numbers: "A record's first word has its kind in bits 31..28".
use Rattle.std.specs.Prelude.{ℕ}
use Rattle.records.specs.declared.Kind.{Kind}
use Rattle.records.specs.declared.Kind.TheVariants.{Start, Edge, Link, Entry, End}

abbrev pub kind_number : Kind → ℕ
kind_number Start = 1
kind_number Edge = 2
kind_number Link = 3
kind_number Entry = 4
kind_number End = 5
