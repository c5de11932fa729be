-- The target of a list: 0, or an edge port.
use mathlib.Core.Bool.{Bool, true, false, not, ◌&&◌, ◌||◌}
use mathlib.Core.Path.{◌≡◌, refl, ap, sym, ◌∙◌}
use Prim.Native.Nat.{ℕ, zero, suc}
use borrow.Author.Tests.{ne_eqb}
use Rattle.headers.specs.Sets.{Set}
use Rattle.forwarding.specs.Fabric.{Fabric, Sound}
use Rattle.forwarding.specs.Trace.{trace, list_trace}
use Rattle.queries.specs.Queries.{list_target}

-- 0 asks for the packets that are lost, where they are
pub lost_asked : (F : Fabric) → Sound F → list_target F 0 ≡ true → F.miss_drops ≡ false
lost_asked F sound e = go F.miss_drops (sym (ap (λ (b : Bool). b || not F.miss_drops) sound.zero_no_edge) ∙ e)
  where
    go : (b : Bool) → not b ≡ true → b ≡ false
    go true d = sym d
    go false d = refl

-- any other than 0 is an edge port
pub edge_asked : (F : Fabric) (target : ℕ) → ¬ (target ≡ 0) → list_target F target ≡ true → F.is_edge target ≡ true
edge_asked F target n e =
    go (F.is_edge target) (sym (ap (λ (b : Bool). F.is_edge target || (b && not F.miss_drops)) (ne_eqb target 0 n)) ∙ e)
  where
    go : (b : Bool) → (b || false) ≡ true → b ≡ true
    go true d = refl
    go false d = d

-- and is traced back from
pub edge_traced : (F : Fabric) (limit target : ℕ) (asked : Set) → ¬ (target ≡ 0)
    → trace F limit target asked ≡ list_trace F limit target asked
edge_traced F limit zero asked n = absurd (n refl)
edge_traced F limit (suc target) asked n = refl
