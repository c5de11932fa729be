-- What an accepted file's ports and entries have room in.
use mathlib.Core.Bool.{true, true≢false}
use mathlib.Core.List.{List, [], ◌∷◌}
use mathlib.Core.Path.{◌≡◌, sym, ap, ◌∙◌}
use Prim.Native.Nat.{ℕ, ◌^◌, ◌≤◌, ◌<◌}
use native.Mathlib.Decide.{dec_lt}
use native.Mathlib.Omega.{arith}
use Rattle.layout.specs.Shape.{Shape}
use Rattle.file.specs.Accepted.{Accepted}
use Rattle.file.proofs.Accepted.{few_entries}
use Rattle.forwarding.specs.Fabric.{Fabric}
use Rattle.forwarding.proofs.Lists.{All}
use Rattle.model.specs.Model.{fabric_of, fabric_in}
use Rattle.model.proofs.Shapes.{fabric_is}
use Rattle.model.proofs.Lookups.{edge_past}
use Rattle.fabric.proofs.Said.{Fit}

pub all_below : (m n : ℕ) → m ≤ n → (l : List ℕ) → All (λ e. e < m) l → All (λ e. e < n) l
all_below m n h [] a = tt
all_below m n h (x ∷ l) a = (let b : x < m = a.0 in omega arith, all_below m n h l a.1)

pub fit_entries : (l : List ℕ) → All (λ e. e < 2 ^ 32) l → Fit l
fit_entries [] a = tt
fit_entries (x ∷ l) a = (a.0, fit_entries l a.1)

module _ (f : List ℕ) (s : Shape) (ok : Accepted f s) where
  pub edge_port_lem : (p : ℕ) → (fabric_in f).is_edge p ≡ true → p < 4096
  edge_port_lem p e = below (dec_lt p 4096)
    where
      below : Dec (p < 4096) → p < 4096
      below (yes l) = l
      below (no l) = absurd (true≢false (sym e ∙ edge_past f s ok p (omega arith)))

  pub entries_few : (fabric_in f).entries ≤ 512
  unfolding fabric_of
  entries_few = rw (ap (λ (G : Fabric). G.entries) (fabric_is f s ok)) (few_entries f s ok)
