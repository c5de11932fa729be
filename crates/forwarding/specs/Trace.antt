-- The back-trace as a list of events, which knows no budget: T1 to T12, and T17 and T18 for the packets that are lost.
use Rattle.std.specs.Prelude.{Bool, true, false, ◌&&◌, ◌||◌, cond, ℕ, zero, suc, ◌+◌, eqb, ltb}
use mathlib.Core.List.{List, [], ◌∷◌, flat_map}
use Rattle.std.proofs.Math.Option.{Option-elim}
use Rattle.headers.specs.Bits.{positions, those}
use Rattle.headers.specs.Sets.{Header, Set, contains}
use Rattle.headers.specs.Carving.{carve, one}
use Rattle.forwarding.specs.Fabric.{Fabric, in_port_of, out_port_of, entries_where}
use Rattle.forwarding.specs.BackTrace.{back, beaters}

-- document 01's find: a part at an edge port, with the entries from there to the target in travelling order
pub record Find : Type 0 where
  pub port : ℕ
  pub path : List ℕ
  pub set : Set

pub data Event : Type 0 where
  unit : Event
  find : Find → Event

module _ (f : Fabric) where
  -- "Carve by the entries that beat it, in file order: trying one part against one beater is one unit, and each part is then tried
  -- against the next beater, its whole descent before its next sibling." What is left goes on to `next`.
  unfoldable pub carved : (Set → List Event) → List ℕ → Set → List Event
  carved next [] p = next p
  carved next (b ∷ bs) p = unit ∷ flat_map (carved next bs) (carve f.words p (f.entry b).matches)

  -- "If a link ends there .. a stop follows at its from-port": from port y, if there is one
  abbrev pub from_port : (ℕ → Set → List ℕ → List Event) → ℕ → List ℕ → Set → List Event
  from_port next zero path p = []
  from_port next (suc y) path p = next (suc y) p path

  -- A surviving part p at in-port x, `path` leading from there to the target and `next` being the stop with one hop less.
  -- "If that is an edge port, the part is a find. If a link ends there .. a stop follows at its from-port with one hop less."
  unfoldable pub at_in_port : (ℕ → Set → List ℕ → List Event) → ℕ → List ℕ → Set → List Event
  at_in_port next x path p =
      cond (f.is_edge x) (find (record { port = x; path = path; set = p }) ∷ []) (from_port next (f.link_from x) path p)

  -- T3 to T5: taken up, one unit; its action undone for T and met with the match; if empty, next entry; carved by the entries that beat it
  unfoldable pub taken_up : (ℕ → Set → List ℕ → List Event) → Set → List ℕ → ℕ → List Event
  taken_up next t path e =
      unit ∷ Option-elim (back f e t) [] (carved (at_in_port next (in_port_of f e) (e ∷ path)) (beaters f e))

  -- "A stop is an out-port, a set T and hops left. At a stop, the entries with that out-port are taken up in file order"; with no hop
  -- left there is no stop. `path` leads from there to the target.
  unfoldable pub stop : ℕ → ℕ → Set → List ℕ → List Event
  stop zero o t path = []
  stop (suc hops) o t path = flat_map (taken_up (stop hops) t path) (entries_where f (λ e. eqb (out_port_of f e) o))

  -- "The first stop is the target with the limit."
  abbrev pub trace : ℕ → ℕ → Set → List Event
  trace limit target asked = stop limit target asked []

  -- ---- the packets that are lost

  -- T17: where a packet can stand, an edge port or a link's end
  abbrev pub is_in_port : ℕ → Bool
  is_in_port x = f.is_edge x || ltb 0 (f.link_from x)

  -- in rising number
  abbrev pub in_ports : List ℕ
  in_ports = those is_in_port (positions f.ports 0)

  -- all entries of in-port x, in file order
  abbrev pub entries_in : ℕ → List ℕ
  entries_in x = entries_where f (λ e. eqb (in_port_of f e) x)

  -- T18: what the entries of in-port x leave of the asked set; no entry takes that there, and no entry is on its way yet
  unfoldable pub lost_at : (ℕ → Set → List ℕ → List Event) → Set → ℕ → List Event
  lost_at next asked x = carved (at_in_port next x []) (entries_in x) asked

  -- T18: at each in-port; a packet that is lost has made fewer hops than the limit
  unfoldable pub lost_trace : ℕ → Set → List Event
  lost_trace zero asked = []
  lost_trace (suc hops) asked = flat_map (lost_at (stop hops) asked) in_ports

  -- V8: what a list goes through: target 0, which is no port, asks for the packets that are lost
  abbrev pub list_trace : ℕ → ℕ → Set → List Event
  list_trace limit zero asked = lost_trace limit asked
  list_trace limit (suc target) asked = trace limit (suc target) asked

-- "A call's count is the units that would be made, were there no budget"
unfoldable pub units : List Event → ℕ
units [] = 0
units (unit ∷ es) = suc (units es)
units (find d ∷ es) = units es

-- the finds, in order
unfoldable pub finds : List Event → List Find
finds [] = []
finds (unit ∷ es) = finds es
finds (find d ∷ es) = d ∷ finds es

-- the same list of entries
unfoldable pub same : List ℕ → List ℕ → Bool
same [] [] = true
same [] (b ∷ m) = false
same (a ∷ l) [] = false
same (a ∷ l) (b ∷ m) = eqb a b && same l m

-- how many of the finds are at port p by the entries q and hold h, over n words
unfoldable pub finds_by : ℕ → ℕ → List ℕ → Header → List Find → ℕ
finds_by n p q h [] = 0
finds_by n p q h (d ∷ l) = one (eqb p d.port && (same d.path q && contains n d.set h)) + finds_by n p q h l
