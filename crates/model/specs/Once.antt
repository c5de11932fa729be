-- A file is accepted in one way, so that a struct may keep the fact that it is.
use mathlib.Core.Path.{◌≡◌, sym, ap, ◌∙◌}
use mathlib.Core.HLevel.{is_prop→PathP}
use mathlib.Core.Sum.{⊎_set}
use native.Mathlib.Nat.{ℕ_set}
use mathlib.Core.List.{List}
use Prim.Native.Nat.{ℕ}
use Rattle.layout.specs.Shape.{Shape}
use Rattle.questions.specs.Read.{Read}
use Rattle.file.specs.Accepted.{Accepted}
use Rattle.model.specs.Model.{AFabric, shape_read}

read_set : IsSet Read
read_set = hlevel (ℕ_set, ⊎_set)

pub Accepted-prop : (f : List ℕ) (s : Shape) → IsProp (Accepted f s)
Accepted-prop f s = read_set _ _

pub AFabric-prop : (f : List ℕ) → IsProp (AFabric f)
AFabric-prop f a b =
    let same : a.shape ≡ b.shape = ap shape_read (sym a.is_accepted ∙ b.is_accepted) in
    λ i. record {
      shape = same i;
      is_accepted = is_prop→PathP (λ i. Accepted f (same i)) (λ i. Accepted-prop f (same i)) a.is_accepted b.is_accepted i;
    }
