-- What the code of the trace is handed beside the file and the index, and what it leaves, as worlds and plays have it. Assumes nothing.
use Rattle.std.specs.Prelude.{Result, Ok, Err, cond, List, ◌≡◌, ℕ, ◌*◌, ◌≤◌, ◌<◌, eqb, length, get_or}
use native.Mathlib.Nat.{ℕ_set}
use Rattle.headers.specs.Sets.{Set}
use Rattle.answer.specs.Answer.{answer_words}
use Rattle.layout.specs.Records.{Width, width_in, edge_words, port_of_edge}
use Rattle.layout.specs.Versions.{header_words}
use Rattle.forwarding.specs.Trace.{Find}
use Rattle.model.specs.Model.{AFabric, fabric_in, wide_in, entries_at}
use Rattle.model.specs.Once.{AFabric-prop}
use Rattle.events.specs.Play.{World, Played, make_unit, listed, judged}
use Rattle.events.specs.declared.Mode.{Mode}
use Rattle.events.specs.declared.Mode.TheVariants as Modes
use Rattle.events.specs.declared.Halt.{Halt}
use Rattle.events.specs.declared.Halt.TheVariants.{BudgetUsed, Reached}
use Rattle.events.specs.declared.Counters.{Counters}
use Rattle.events.specs.declared.Ask.{Ask}

-- ---- what is asked

-- 3: the verdict, else the list
abbrev pub mode_number : Mode → ℕ
mode_number Modes.List = 2
mode_number Modes.Judge = 3

abbrev pub budget_of : Ask → ℕ
budget_of ask = ask.budget

abbrev pub mode_of : Ask → ℕ
mode_of ask = mode_number ask.mode

-- 16 less the hop limit: with d places of the path free, d less this many hops are left
abbrev pub floor_of : Ask → ℕ
floor_of ask = ask.floor

abbrev pub target_of : Ask → ℕ
target_of ask = ask.target

abbrev pub group_of : Ask → ℕ
group_of ask = ask.group

-- the byte at which the entries begin
abbrev pub base_of : Ask → ℕ
base_of ask = ask.base

-- the words of a header in the file
abbrev pub words_asked : Ask → ℕ
words_asked ask = header_words ask.version

pub record Asked (f : List ℕ) (ask : Ask) : Type 0 where
  pub fabric : AFabric f
  pub group_is : group_of ask ≡ (fabric_in f).group (target_of ask)
  pub base_is : base_of ask ≡ entries_at f
  pub width_is : words_asked ask ≡ width_in f

-- in one way, so that a struct may keep it
pub Asked-prop : (f : List ℕ) (ask : Ask) → IsProp (Asked f ask)
Asked-prop f ask = hlevel (AFabric-prop f, ℕ_set)

-- as long as an edge with headers of w words
pub record EdgeLong (w : ℕ) (x : List ℕ) : Type 0 where
  pub width : Width w
  pub long : length x ≡ 4 * edge_words w

-- ---- the entries on the way

-- the entries on the way from a find to the target, in travelling order
pub record Way (way : List ℕ) : Type 0 where
  pub long : length way ≤ 16
  pub entries : (k : ℕ) → k < length way → get_or way k 0 < 512

-- the entries on the way from here on, in travelling order: places d to 15 of the path
pub record Path (path : List ℕ) (d : ℕ) : Type 0 where
  pub long : length path ≡ 16
  pub within : d ≤ 16
  pub entries : (k : ℕ) → d ≤ k → k < 16 → get_or path k 0 < 512

-- ---- what is counted, and how a trace ends

-- how it ended: 0, it is through; 1, the budget was used; 2, the verdict stops
abbrev pub status_of : {T : Type 0} → Result T Halt → ℕ
status_of (Ok x) = 0
status_of (Err BudgetUsed) = 1
status_of (Err Reached) = 2

-- the counters: units made, words of the finds
abbrev pub world_of : Counters → List ℕ → World
world_of counters area = record { made = counters.made; words = counters.words; area = area }

abbrev pub played_of : {T : Type 0} → Result T Halt → Counters → List ℕ → Played
played_of ended counters area = record { status = status_of ended; world = world_of counters area }

-- room for the units and, where a verdict is asked, for its words
pub record Room (ask : Ask) (counters : Counters) (area : List ℕ) : Type 0 where
  pub made_within : counters.made ≤ budget_of ask
  pub verdict_room : mode_of ask ≡ 3 → 4 * answer_words (words_asked ask) ≤ length area

-- ---- what is done with a find

-- by the mode
abbrev pub by_mode : ℕ → List ℕ → ℕ → Find → World → Played
by_mode mode f target = cond (eqb mode 3) (judged (wide_in f) (width_in f) target) (listed (width_in f))

unfoldable pub found_by : List ℕ → Ask → Find → World → Played
found_by f ask = by_mode (mode_of ask) f (target_of ask)

-- the find s at edge k, by this way to the target
abbrev pub find_at : List ℕ → ℕ → List ℕ → Set → Find
find_at f k way s = record { port = port_of_edge f k; path = way; set = s }

-- ---- units

-- a unit, where the budget has it, whatever the area holds
pub record UnitMade {T : Type 0} (ask : Ask) (counters₀ : Counters) (made : Result T Halt) (counters : Counters) : Type 0 where
  pub played : (area : List ℕ) → played_of made counters area ≡ make_unit (budget_of ask) (world_of counters₀ area)
