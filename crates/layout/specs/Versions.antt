-- The version of a file, and its counts, as the code has them: document 02, 2.6.
use Rattle.std.specs.Prelude.{ℕ, ◌*◌}
use Rattle.layout.specs.Records.{half}
use Rattle.layout.specs.Shape.{Shape}
use Rattle.layout.specs.declared.Version.{Version}
use Rattle.layout.specs.declared.Version.TheVariants.{One, Two}
use Rattle.layout.specs.declared.Counts.{Counts}

-- the words of a header: "eight header words: the old four, then .."
abbrev pub header_words : Version → ℕ
header_words One = half
header_words Two = 2 * half

abbrev pub shape_counted : Counts → Shape
shape_counted c = record { words = header_words c.version; edges = c.edges; links = c.links; entries = c.entries }
