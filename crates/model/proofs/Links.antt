-- What a link of an accepted file means (F5, W5), whatever else is in the file: what is sent out at its from-port comes in at its
-- to-port, and whatever comes over a link comes over one of the file's. Assumes nothing.
use mathlib.Core.List.{List}
use mathlib.Core.Path.{◌≡◌, refl, sym, ap, ◌∙◌}
use Prim.Native.Nat.{ℕ, zero, suc, ◌<◌}
use native.Mathlib.Omega.{arith}
use Rattle.layout.specs.Records.{from_of_link, to_of_link, recent}
use Rattle.layout.specs.Shape.{Shape}
use Rattle.questions.specs.Tables.{number}
use Rattle.questions.proofs.Lists.{number_is, number_has}
use Rattle.file.specs.Accepted.{Accepted}
use Rattle.file.proofs.Accepted.{froms_differ, tos_differ}
use Rattle.forwarding.specs.Fabric as Forwarding
use Rattle.model.specs.Model.{under, link_beginning, link_ending, fabric_of, fabric_in}
use Rattle.model.proofs.Shapes.{fabric_is}

module _ (f : List ℕ) (s : Shape) (ok : Accepted f s) where
  abbrev from : ℕ → ℕ
  from = from_of_link f s.edges

  abbrev to : ℕ → ℕ
  to = to_of_link f s.edges

  -- link i leads from its from-port to its to-port, and back
  module _ (i : ℕ) (l : i < s.links) where
    pub link_leads : (fabric_in f).link_to (from i) ≡ to i
    unfolding fabric_of link_beginning
    link_leads =
        ap (λ (F : Forwarding.Fabric). F.link_to (from i)) (fabric_is f s ok)
        ∙ ap (under 0 to) (number_is from s.links (froms_differ f s ok) i l)

    pub link_comes : (fabric_in f).link_from (to i) ≡ from i
    unfolding fabric_of link_ending
    link_comes =
        ap (λ (F : Forwarding.Fabric). F.link_from (to i)) (fabric_is f s ok)
        ∙ ap (under 0 from) (number_is to s.links (tos_differ f s ok) i l)

  -- the link of the file from port x to port y
  pub record LinkThere (x y : ℕ) : Type 0 where
    pub link : ℕ
    pub below : link < s.links
    pub from_is : from link ≡ x
    pub to_is : to link ≡ y

  -- a port with a link beginning there is some link's from-port
  pub link_there : (x y : ℕ) → (fabric_in f).link_to x ≡ suc y → LinkThere x (suc y)
  unfolding fabric_of link_beginning
  link_there x y e =
      found (number (recent from s.links) x) refl (sym (ap (λ (F : Forwarding.Fabric). F.link_to x) (fabric_is f s ok)) ∙ e)
    where
      found : (m : ℕ) → number (recent from s.links) x ≡ m → under 0 to m ≡ suc y → LinkThere x (suc y)
      found zero d e = absurd (omega arith)
      found (suc i) d e =
          let h = number_has from s.links x i d in
          record { link = i; below = h.0; from_is = h.1; to_is = e }
