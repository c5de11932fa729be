-- The path from a place on, which is a find's way. Assumes nothing.
use mathlib.Core.List.{List}
use mathlib.Core.Path.{◌≡◌, ap, ◌∙◌}
use Prim.Native.Nat.{ℕ, ◌-◌}
use lib.ListN.{length, drop, length-drop}
use Rattle.events.specs.Asked.{Path}

-- a hop for each entry
pub hops_are : {path : List ℕ} {d : ℕ} → Path path d → length (drop d path) ≡ 16 - d
hops_are {path} {d} p = length-drop d path ∙ ap (λ (n : ℕ). n - d) p.long
