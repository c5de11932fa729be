-- The match and the rewrite stand in an entry's own bytes.
use mathlib.Core.List.{List}
use Prim.Native.Nat.{ℕ}
use native.Mathlib.Omega.{arith}
use Rattle.layout.specs.Records.{match_at, rewrite_at, EntryLong}
use Rattle.wide.specs.Forms.{Stored}

module _ {w : ℕ} {x : List ℕ} (e : EntryLong w x) where
  pub match_stored : Stored x match_at w
  match_stored = record { width = e.width; inside = omega (arith, e.long) }

  pub rewrite_stored_lem : Stored x (rewrite_at w) w
  rewrite_stored_lem = record { width = e.width; inside = omega (arith, e.long) }
