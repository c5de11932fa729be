-- What the code does with the events of a trace: document 01, "The back-trace and its count". The trace itself knows no budget, no early
-- stop and no area; they are here, a line each. Assumes nothing.
use Rattle.std.specs.Prelude.{Bool, true, false, cond, List, [], ◌∷◌, ◌++◌, map, ℕ, zero, suc, ◌+◌, ◌*◌, ◌/◌}
use Rattle.std.specs.Prelude.{◌^◌, ltb, leb, length, take}
use Rattle.std.proofs.Math.Option.{Option, some, none}
use Rattle.headers.specs.Sets.{Header}
use Rattle.answer.specs.Answer.{written_at, sixteen}
use Rattle.wide.specs.Forms.{narrowed}
use Rattle.forwarding.specs.Fabric.{Fabric}
use Rattle.forwarding.specs.Trace.{Find, Event, unit, find}
use Rattle.forwarding.specs.Verdict.{foreign_packet}

-- the units made, the words of the finds so far, and the area lent
pub record World : Type 0 where
  pub made : ℕ
  pub words : ℕ
  pub area : List ℕ

-- how a part of the trace ended: 0, it is through; 1, the budget was used; 2, the verdict stops
pub record Played : Type 0 where
  pub status : ℕ
  pub world : World

abbrev pub goes_on : World → Played
goes_on w = record { status = 0; world = w }

-- on with what comes next, unless it has ended
abbrev pub next_if : ℕ → Played → (World → Played) → Played
next_if zero p next = next p.world
next_if (suc s) p next = p

abbrev pub and_then : Played → (World → Played) → Played
and_then p next = next_if p.status p next

-- "A unit is made only while fewer than the budget were made; if one more is needed, question 13 gets a no."
abbrev pub unit_made : Bool → World → Played
unit_made true w = goes_on (record { made = w.made + 1; words = w.words; area = w.area })
unit_made false w = record { status = 1; world = w }

unfoldable pub make_unit : ℕ → World → Played
make_unit budget w = unit_made (ltb w.made budget) w

-- the events one after the other, a find being handed to `found`
module _ (budget : ℕ) (found : Find → World → Played) where
  unfoldable pub step : Event → World → Played
  step unit w = make_unit budget w
  step (find d) w = found d w

  unfoldable pub play : List Event → World → Played
  play [] w = goes_on w
  play (e ∷ es) w = and_then (step e w) (play es)

-- ---- what is done with a find

-- "word of kind 6 (bits 27..12 hops, 11..0 edge port); for each entry in travelling order a word of kind 7 with its number below;
-- care (4), value (4)", or eight of each in version 2
unfoldable pub find_words : Find → List ℕ
find_words d =
    (6 * 2 ^ 28 + length d.path * 2 ^ 12 + d.port) ∷ (map (λ e. 7 * 2 ^ 28 + e) d.path ++ (d.set.care ++ d.set.value))

-- more words than any area holds: the count stays there
abbrev pub too_many : ℕ
too_many = 2 ^ 62

abbrev pub counted_on : Bool → ℕ → ℕ → ℕ
counted_on true words n = words + n
counted_on false words n = words

-- the area with words written from word `at` on, if there is room for all of them
abbrev pub fitted_at : ℕ → List ℕ → List ℕ → List ℕ
fitted_at at ws area = cond (leb (at + length ws) (length area / 4)) (written_at at ws area) area

-- a find of eight words as the file has it, whose headers have n
abbrev pub narrow_find : ℕ → Find → Find
narrow_find n d = record { port = d.port; path = d.path; set = narrowed n d.set }

-- the list: a find's words are counted, and written where there is room for them
unfoldable pub listed : ℕ → Find → World → Played
listed n d w = goes_on (record {
  made = w.made;
  words = counted_on (ltb w.words too_many) w.words (length (find_words (narrow_find n d)));
  area = fitted_at w.words (find_words (narrow_find n d)) w.area;
})

-- "0 isolated or 1 reached; units made; edge port; hops; header (4); entries in travelling order"
unfoldable pub reached_words : ℕ → ℕ → List ℕ → Header → List ℕ
reached_words units port path h = 1 ∷ units ∷ port ∷ length path ∷ (h ++ sixteen path)

-- "The verdict stops at the first find with a foreign packet", of whose header it tells the first n words
module _ (f : Fabric) (n target : ℕ) where
  abbrev pub judged_by : Option Header → Find → World → Played
  judged_by none d w = goes_on w
  judged_by (some h) d w = record {
    status = 2;
    world = record {
      made = w.made;
      words = w.words;
      area = written_at 0 (reached_words w.made d.port d.path (take n h)) w.area;
    };
  }

  unfoldable pub judged : Find → World → Played
  judged d w = judged_by (foreign_packet f target d) d w

-- "The list writes each find in order"
unfoldable pub list_words : List Find → List ℕ
list_words [] = []
list_words (d ∷ l) = find_words d ++ list_words l
