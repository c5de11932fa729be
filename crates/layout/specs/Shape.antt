-- What is counted in a file: the words of a header in it, and how many records of each kind it has.
use Rattle.std.specs.Prelude.{ℕ}

pub record Shape : Type 0 where
  pub words : ℕ
  pub edges : ℕ
  pub links : ℕ
  pub entries : ℕ
