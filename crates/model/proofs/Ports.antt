-- Ports of a file's fabric are numbers of twelve bits (F9), whatever the file.
use mathlib.Core.Bool.{Bool, true, false}
use mathlib.Core.List.{List}
use Prim.Native.Nat.{ℕ, zero, suc, ◌<◌}
use native.Mathlib.Omega.{arith}
use lib.Dec.{ltb}
use Rattle.layout.specs.Records.{width_in, entry_bytes, to_of_link}
use Rattle.questions.specs.Questions.{pick}
use Rattle.forwarding.specs.Fabric.{out_port_of}
use Rattle.model.specs.Model.{shape_in, under, entry_from, no_entry, link_beginning, fabric_of, fabric_in}

module _ (f : List ℕ) where
  pub out_port_low : (e : ℕ) → out_port_of (fabric_in f) e < 4096
  unfolding fabric_in fabric_of
  out_port_low e = go (ltb e (shape_in f).entries)
    where
      go : (b : Bool) → (pick b (entry_from (width_in f) (entry_bytes f (shape_in f) e)) (no_entry (width_in f))).out_port < 4096
      go true = omega arith
      go false = omega arith

  pub link_to_low : (x : ℕ) → (fabric_in f).link_to x < 4096
  unfolding fabric_in fabric_of
  link_to_low x = go (link_beginning f (shape_in f) x)
    where
      go : (k : ℕ) → under 0 (to_of_link f (shape_in f).edges) k < 4096
      go zero = omega arith
      go (suc i) = omega arith
