-- What the questions of a file answer: its shape, or the number and the place of the first no.
use Rattle.std.specs.Prelude.{ℕ}
use Rattle.layout.specs.Shape.{Shape}

pub data Read : Type 0 where
  Fabric : Shape → Read
  No : ℕ → ℕ → Read
