-- The verdict over the events of a trace, and what a budget makes of them: document 01, "The back-trace and its count". Assumes nothing.
use Rattle.std.specs.Prelude.{Bool, true, false, not, ◌&&◌, ◌||◌, cond, ◌≡◌, ℕ, suc, eqb, ltb}
use mathlib.Core.List.{List, [], ◌∷◌, head?}
use Rattle.std.proofs.Math.Option.{Option, some, none, map, get_or, or_else}
use Rattle.headers.specs.Bits.{Words}
use Rattle.headers.specs.Sets.{Header, Set, contains, lowest}
use Rattle.headers.specs.Carving.{carve}
use Rattle.forwarding.specs.Fabric.{Fabric}
use Rattle.forwarding.specs.Choices.{Arrives}
use Rattle.forwarding.specs.Trace.{Find, Event, unit, find, trace}

-- "isolated" with the units made; "reached" with the units made, the edge port, the entries in travelling order and the header
pub data Verdict : Type 0 where
  isolated : ℕ → Verdict
  reached : ℕ → ℕ → List ℕ → Header → Verdict

-- the units in a verdict's answer
unfoldable pub units_in : Verdict → ℕ
units_in (isolated u) = u
units_in (reached u p q h) = u

unfoldable pub is_isolated : Verdict → Bool
is_isolated (isolated u) = true
is_isolated (reached u p q h) = false

module _ (f : Fabric) (target : ℕ) where
  -- "A packet is foreign if its edge port is in another group than the target, or its header is outside that port's admitted set."
  unfoldable pub foreign : ℕ → Header → Bool
  foreign p h = not (eqb (f.group p) (f.group target)) || not (contains f.words (f.admitted p) h)

  -- the foreign packet of a find: "in a foreign group the find's lowest header (wild bits 0), else the lowest of the first part of
  -- the find carved by the admitted set"
  unfoldable pub foreign_packet : Find → Option Header
  foreign_packet d =
      cond (eqb (f.group d.port) (f.group target))
      (map (lowest f.words) (head? (carve f.words d.set (f.admitted d.port))))
      (some (lowest f.words d.set))

  -- "The verdict stops at the first find with a foreign packet": what it answers if it stops at d, u units having been made
  abbrev pub stops_at : ℕ → Find → Option Verdict
  stops_at u d = map (reached u d.port d.path) (foreign_packet d)

  -- the verdict on some events, u units having been made before them
  unfoldable pub verdict : ℕ → List Event → Verdict
  verdict u [] = isolated u
  verdict u (unit ∷ es) = verdict (suc u) es
  verdict u (find d ∷ es) = get_or (stops_at u d) (verdict u es)

  -- the verdict on the target, for packets that leave there within the limit's hops with a header in the asked set
  abbrev pub verdict_on : ℕ → Set → Verdict
  verdict_on limit asked = verdict 0 (trace f limit target asked)

-- ---- what the verdict is about

-- a foreign packet that arrives, under the choice of the entries q
pub record Leak (f : Fabric) (limit target : ℕ) (asked : Set) (p : ℕ) (q : List ℕ) (h : Header) : Type 0 where
  pub edge_port_lem : f.is_edge p ≡ true
  pub fits : Words f.words h
  pub is_foreign : foreign f target p h ≡ true
  pub arriving : Arrives f limit target asked p q h

-- no pair of edge port and header that arrives, under any choice, is foreign
abbrev pub NoLeak : Fabric → ℕ → ℕ → Set → Type 0
NoLeak f limit target asked =
    (p : ℕ) (q : List ℕ) (h : Header) → f.is_edge p ≡ true → Words f.words h
    → Arrives f limit target asked p q h → foreign f target p h ≡ false

-- ---- the budget

-- "A unit is made only while fewer than the budget were made; if one more is needed, question 13 gets a no."
-- The list goes through all events: does it end within the budget, u units having been made before them?
unfoldable pub ends_within : ℕ → ℕ → List Event → Bool
ends_within budget u [] = true
ends_within budget u (unit ∷ es) = ltb u budget && ends_within budget (suc u) es
ends_within budget u (find d ∷ es) = ends_within budget u es

-- the verdict, or none where question 13 gets a no
unfoldable pub verdict_within : Fabric → ℕ → ℕ → ℕ → List Event → Option Verdict
verdict_within f target budget u [] = some (isolated u)
verdict_within f target budget u (unit ∷ es) = cond (ltb u budget) (verdict_within f target budget (suc u) es) none
verdict_within f target budget u (find d ∷ es) = or_else (stops_at f target u d) (verdict_within f target budget u es)
