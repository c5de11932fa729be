-- A part tried against entries one after the other, until it meets one (T16): which of them that is, and the units made on the way. It
-- knows neither what the part is carved for nor what comes of it.
use Rattle.std.specs.Prelude.{Bool, true, cond, List, [], ◌∷◌, ◌≡◌, ℕ, suc, ◌+◌, ◌<◌, eqb, ltb}
use Rattle.std.specs.Prelude.{Option, Some, None, Result, Ok, Err}
use Rattle.std.proofs.Math.Option as maybe
use Rattle.headers.specs.Sets.{Set, overlaps}
use Rattle.forwarding.specs.Fabric.{Fabric, in_port_of}
use Rattle.index.specs.Chains.{no_entry}
use Rattle.entries.specs.Entries.{chained}
use Rattle.events.specs.declared.Counters.{Counters}
use Rattle.events.specs.declared.Halt.{Halt}
use Rattle.events.specs.declared.Halt.TheVariants.{BudgetUsed}
use Rattle.trials.specs.declared.Ending as Declared
use Rattle.trials.specs.declared.Ending.TheVariants as Endings

-- how trials end: at the entry that the part meets, past the last entry, or where the budget has no unit for the next trial
pub data Ending : Type 0 where
  met : ℕ → Ending
  past : Ending
  used : Ending

-- the number that each has at the index's chains: the entry's own, the one at the end of a chain, and the one after that
abbrev pub number_of : Ending → ℕ
number_of (met b) = b
number_of past = no_entry
number_of used = suc no_entry

-- and the ending with a number
abbrev pub ending_at : ℕ → Ending
ending_at r = cond (ltb r no_entry) (met r) (cond (eqb r no_entry) past used)

-- the ending that the code's says
abbrev pub ending_said : Declared.Ending → Ending
ending_said (Endings.Met b) = met b
ending_said Endings.Past = past
ending_said Endings.Used = used

-- and that ending's number in the code
abbrev pub ending_number_of : Declared.Ending → ℕ
ending_number_of (Endings.Met b) = b
ending_number_of Endings.Past = no_entry
ending_number_of Endings.Used = suc no_entry

-- what the code answers for each: the entry, that there is none, or why the trace ends
abbrev pub answer_of : Ending → Result (Option ℕ) Halt
answer_of (met b) = Ok (Some b)
answer_of past = Ok None
answer_of used = Err BudgetUsed

-- the trials' ending, and the units made by then
pub record Tried : Type 0 where
  pub ending : Ending
  pub made : ℕ

-- T6, T13: one trial after the other, each a unit, which is made only while fewer than the budget were made
module _ (meets : ℕ → Bool) (budget : ℕ) where
  unfoldable pub tried : List ℕ → ℕ → Tried
  tried [] made = record { ending = past; made = made }
  tried (b ∷ bs) made =
      cond (ltb made budget)
      (cond (meets b) (record { ending = met b; made = made + 1 }) (tried bs (made + 1)))
      (record { ending = used; made = made })

-- the match of entry b holds a header of the part
abbrev pub meets : Fabric → Set → ℕ → Bool
meets f p b = overlaps f.words p (f.entry b).matches

-- entry b stands at in-port x, and the part meets it
pub record Met (f : Fabric) (x : ℕ) (p : Set) (b : ℕ) : Type 0 where
  pub is_entry : b < f.entries
  pub in_port_lem : in_port_of f b ≡ x
  pub is_met : meets f p b ≡ true

-- the trials of part p against the entries at the in-port of entry j, from j on, of priority q or higher
abbrev pub trials_from : Fabric → ℕ → ℕ → ℕ → Set → ℕ → Tried
trials_from f budget q j p made = tried (meets f p) budget (chained f q j) made

-- what the code leaves: the ending's answer, the units made, and the words as they were
pub record NextMet (after : Tried) (counters₀ : Counters) (r : Result (Option ℕ) Halt) (counters : Counters) : Type 0 where
  pub ending_is : r ≡ answer_of after.ending
  pub units_are : counters.made ≡ after.made
  pub words_stay : counters.words ≡ counters₀.words

-- ---- what is said of trials

-- those passed over, and the one that is met: how many trials there are to make
module _ (meets : ℕ → Bool) where
  unfoldable pub trials_of : List ℕ → ℕ
  trials_of [] = 0
  trials_of (b ∷ bs) = suc (cond (meets b) 0 (trials_of bs))

abbrev pub ending_of : maybe.Option ℕ → Ending
ending_of maybe.none = past
ending_of (maybe.some b) = met b
