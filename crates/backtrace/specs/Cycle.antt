-- What the code of the trace promises: `stop` and `carve`, which call each other, and their leaves. Assumes nothing.
use Rattle.std.specs.Prelude.{cond, ◌≡◌, ℕ, suc, ◌-◌, ◌≤◌, ◌<◌, Result, leb, length, drop}
use mathlib.Core.List.{List, [], ◌∷◌, flat_map}
use Rattle.headers.specs.Sets.{Set}
use Rattle.headers.specs.Carving.{carve}
use Rattle.layout.specs.Records.{port_of_edge}
use Rattle.file.specs.Accepted.{HasEdge}
use Rattle.forwarding.specs.Fabric.{in_port_of}
use Rattle.forwarding.specs.BackTrace.{beaters}
use Rattle.forwarding.specs.Trace.{Event, unit, find, stop, from_port, carved, at_in_port}
use Rattle.model.specs.Model.{wide_in}
use Rattle.index.specs.declared.Place.{Place}
use Rattle.index.specs.declared.Place.TheVariants.{Nowhere, Port, Edge}
use Rattle.entries.specs.Entries.{ranked_from}
use Rattle.events.specs.Play.{play}
use Rattle.events.specs.Asked.{Path, Room, budget_of, floor_of, world_of, played_of, found_by}
use Rattle.events.specs.declared.Ask.{Ask}
use Rattle.events.specs.declared.Counters.{Counters}
use Rattle.events.specs.declared.Halt.{Halt}
use Rattle.trials.specs.Trials.{Ending, met, past, used, Met}

-- ---- what the trace has in hand

-- with d places of the path free; the hop limit leaves as many free as `ask` says, at least
pub record Tracing (ask : Ask) (d : ℕ) (path : List ℕ) (counters : Counters) (area : List ℕ) : Type 0 where
  pub above_floor : floor_of ask ≤ d
  pub on_path : Path path d
  pub room : Room ask counters area

-- ---- what a part of the trace leaves

-- its events were played
pub record Traced (f : List ℕ) (ask : Ask) (events : List Event) (counters₀ : Counters) (area₀ : List ℕ)
    (ended : Result (Unit {0}) Halt) (counters : Counters) (area : List ℕ) : Type 0 where
  pub played : played_of ended counters area ≡ play (budget_of ask) (found_by f ask) events (world_of counters₀ area₀)

-- the path from place d on is as it was
pub record Kept (d : ℕ) (path₀ path : List ℕ) : Type 0 where
  pub long : length path ≡ 16
  pub later : drop d path ≡ drop d path₀

-- ---- where a part stands

-- nowhere, at the from-port of a link, or at an edge of the file
abbrev pub IsPlace : List ℕ → Place → Type 0
IsPlace f Nowhere = Unit {0}
IsPlace f (Port y) = (0 < y) × (y < 4096)
IsPlace f (Edge k) = HasEdge f k

-- the events of a part that came to stand at a place, by its number, with so many hops left
unfoldable pub events_at : List ℕ → ℕ → Set → ℕ → List ℕ → List Event
events_at f place t hops path =
    cond (leb 4096 place)
    (find (record { port = port_of_edge f (place - 4096); path = path; set = t }) ∷ [])
    (from_port (wide_in f) (stop (wide_in f) hops) place path t)

-- ---- parts at an in-port x

-- the events of a part that no entry took there, with so many hops left
abbrev pub survivor_events : List ℕ → ℕ → ℕ → List ℕ → Set → List Event
survivor_events f x hops path = at_in_port (wide_in f) (stop (wide_in f) hops) x path

-- the events of a part that is yet to be tried against the entries from j on of priority q or higher
unfoldable pub events_from : List ℕ → ℕ → ℕ → ℕ → ℕ → List ℕ → Set → List Event
events_from f x q j hops path p = carved (wide_in f) (survivor_events f x hops path) (ranked_from (wide_in f) x q j) p

-- the events of the parts that entry b leaves of a part
unfoldable pub events_cut : List ℕ → ℕ → ℕ → ℕ → ℕ → List ℕ → Set → List Event
events_cut f x q b hops path p = flat_map (events_from f x q (suc b) hops path) (carve (wide_in f).words p ((wide_in f).entry b).matches)

-- the events that are left of a part, by how its trials ended: where the budget is used, the unit that it doesn't have
abbrev pub events_after : List ℕ → ℕ → ℕ → Ending → ℕ → List ℕ → Set → List Event
events_after f x q (met b) hops path p = events_cut f x q b hops path p
events_after f x q past hops path p = survivor_events f x hops path p
events_after f x q used hops path p = unit ∷ []

-- the events of what entry e takes back, by the entries that beat it, with so many hops left at its in-port
unfoldable pub taken_back : List ℕ → ℕ → ℕ → List ℕ → Set → List Event
taken_back f e hops path = carved (wide_in f) (survivor_events f (in_port_of (wide_in f) e) hops (e ∷ path)) (beaters (wide_in f) e)

-- the part's trials ended with e: at an entry that it meets, or at none, or the budget is used
pub record Ended (f : List ℕ) (ask : Ask) (x : ℕ) (p : Set) (counters : Counters) (e : Ending) : Type 0 where
  pub entry_met : (b : ℕ) → e ≡ met b → Met (wide_in f) x p b
  pub budget_used : e ≡ used → budget_of ask ≤ counters.made
