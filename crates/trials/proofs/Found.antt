-- What the ending that the code says and its number say: the entry that was met, or that there is none, or that the budget is used.
use mathlib.Core.Bool.{Bool, true, false, cond, ◌&&◌}
use mathlib.Core.List.{List}
use mathlib.Core.Path.{◌≡◌, refl, sym, ap, ◌∙◌, subst}
use Prim.Native.Nat.{ℕ, zero, suc, ◌+◌, ◌-◌, ◌≤◌, ◌<◌}
use native.Mathlib.Decide.{dec_lt}
use native.Mathlib.Omega.{arith}
use borrow.Author.Tests.{eqb-true, lt-ltb, le-ltb, ne_eqb}
use lib.Dec.{eqb, leb, ltb}
use Rattle.std.specs.Prelude.{Option, Result, Err}
use Rattle.headers.specs.Bits.{positions, keep_if, those}
use Rattle.headers.specs.Sets.{Set}
use Rattle.headers.proofs.Booleans.{and_fst}
use Rattle.forwarding.specs.Fabric.{Fabric, in_port_of, priority_of}
use Rattle.index.specs.Chains.{no_entry}
use Rattle.entries.specs.Entries.{ranked_from}
use Rattle.events.specs.declared.Counters.{Counters}
use Rattle.events.specs.declared.Halt.{Halt}
use Rattle.events.specs.declared.Halt.TheVariants.{BudgetUsed}
use Rattle.trials.specs.Trials.{Ending, met, past, used, number_of, ending_at, ending_said, ending_number_of, answer_of}
use Rattle.trials.specs.Trials.{Tried, tried, meets, Met, NextMet}
use Rattle.trials.specs.declared.Ending as Declared
use Rattle.trials.specs.declared.Ending.TheVariants as Endings
use Rattle.trials.proofs.Next.{trial_refused, trial_met, trial_passed, tried_within, tried_used}

-- the ending with a number
pub ending_met : (b : ℕ) → b < no_entry → ending_at b ≡ met b
ending_met b l = ap (λ (t : Bool). cond t (met b) (cond (eqb b no_entry) past used)) (lt-ltb b no_entry l)

pub ending_past : (b : ℕ) → b ≡ no_entry → ending_at b ≡ past
ending_past b e = ap ending_at e

pub ending_used : (b : ℕ) → no_entry < b → ending_at b ≡ used
ending_used b l =
    ap (λ (t : Bool). cond t (met b) (cond (eqb b no_entry) past used)) (le-ltb b no_entry (omega arith))
    ∙ ap (λ (t : Bool). cond t past used) (ne_eqb b no_entry (λ e. omega arith))

-- an ending's number is its own, where what is met is an entry
pub ending_numbered : (e : Ending) → ((b : ℕ) → e ≡ met b → b < no_entry) → ending_at (number_of e) ≡ e
ending_numbered (met b) l = ending_met b (l b refl)
ending_numbered past l = refl
ending_numbered used l = refl

-- the code's ending has the number of the one that it says
said_number : (r : Declared.Ending) → ending_number_of r ≡ number_of (ending_said r)
said_number (Endings.Met b) = refl
said_number Endings.Past = refl
said_number Endings.Used = refl

-- an answer is one ending's
answer_one : (e o : Ending) → answer_of e ≡ answer_of o → e ≡ o
answer_one (met b) (met c) h = let z : b ≡ c = cc in ap met z
answer_one (met b) past h = let z : ◌≡◌ {A = ℕ} 0 1 = cc in absurd (omega arith)
answer_one (met b) used h = let z : ◌≡◌ {A = ℕ} 0 1 = cc in absurd (omega arith)
answer_one past (met b) h = let z : ◌≡◌ {A = ℕ} 0 1 = cc in absurd (omega arith)
answer_one past past h = refl
answer_one past used h = let z : ◌≡◌ {A = ℕ} 0 1 = cc in absurd (omega arith)
answer_one used (met b) h = let z : ◌≡◌ {A = ℕ} 0 1 = cc in absurd (omega arith)
answer_one used past h = let z : ◌≡◌ {A = ℕ} 0 1 = cc in absurd (omega arith)
answer_one used used h = refl

-- what the code's ending says is how trials end, and it has that ending's number
module _ {after : Tried} {counters₀ counters : Counters} (r : Declared.Ending)
    (n : NextMet after counters₀ (answer_of (ending_said r)) counters) where
  pub said_is : ending_said r ≡ after.ending
  said_is = answer_one (ending_said r) after.ending n.ending_is

  pub number_is : ending_number_of r ≡ number_of after.ending
  number_is = said_number r ∙ ap number_of said_is

-- what the code's ending says is what trials answer
pub told : {after : Tried} {counters₀ counters : Counters} {said r : Result (Option ℕ) Halt} → NextMet after counters₀ said counters
    → r ≡ said → NextMet after counters₀ r counters
told n e = record { ending_is = e ∙ n.ending_is; units_are = n.units_are; words_stay = n.words_stay }

module _ (f : Fabric) (p : Set) (budget x q : ℕ) where
  -- an entry from j on that the part meets
  pub record MetFrom (j b : ℕ) : Type 0 where
    pub low : j ≤ b
    pub is : Met f x p b

  abbrev ranked : ℕ → Bool
  ranked b = eqb (in_port_of f b) x && leb q (priority_of f b)

  abbrev rest : ℕ → ℕ → List ℕ
  rest k j = those ranked (positions k j)

  met_among : (k j made b : ℕ) → j + k ≤ f.entries → (tried (meets f p) budget (rest k j) made).ending ≡ met b → MetFrom j b
  unfolding tried those positions
  met_among zero j made b l e = let z : ◌≡◌ {A = ℕ} 0 1 = cc in absurd (omega arith)
  met_among (suc k) j made b l e =
      go (ranked j) refl (met_among k (suc j) made b (omega arith)) (met_among k (suc j) (made + 1) b (omega arith)) e
    where
      later : MetFrom (suc j) b → MetFrom j b
      later m = record { low = omega (arith, m.low); is = m.is }

      here : j ≡ b → ranked j ≡ true → meets f p j ≡ true → MetFrom j b
      here is r t = subst (MetFrom j) is (record {
        low = omega arith;
        is = record { is_entry = omega arith; in_port_lem = eqb-true _ _ (and_fst _ _ r); is_met = t };
      })

      go : (r : Bool) → ranked j ≡ r
          → ((tried (meets f p) budget (rest k (suc j)) made).ending ≡ met b → MetFrom (suc j) b)
          → ((tried (meets f p) budget (rest k (suc j)) (made + 1)).ending ≡ met b → MetFrom (suc j) b)
          → (tried (meets f p) budget (keep_if r j (rest k (suc j))) made).ending ≡ met b → MetFrom j b
      go false d skip pass e = later (skip e)
      go true d skip pass e = by (ltb made budget) refl (meets f p j) refl
        where
          by : (u : Bool) → ltb made budget ≡ u → (t : Bool) → meets f p j ≡ t → MetFrom j b
          by false u t m =
              let h = trial_refused (meets f p) budget j (rest k (suc j)) made u in
              let z : ◌≡◌ {A = ℕ} 0 1 = cc in absurd (omega arith)
          by true u true m =
              let h = trial_met (meets f p) budget j (rest k (suc j)) made u m in
              here (let z : j ≡ b = cc in z) d m
          by true u false m = later
              (pass (ap (λ (t : Tried). t.ending) (sym (trial_passed (meets f p) budget j (rest k (suc j)) made u m)) ∙ e))

  -- the trials of the entries from j on
  abbrev trials_at : ℕ → ℕ → Tried
  trials_at j made = tried (meets f p) budget (ranked_from f x q j) made

  trials_met : (j made b : ℕ) → (trials_at j made).ending ≡ met b → MetFrom j b
  unfolding tried those positions
  trials_met j made b e = go (dec_lt j f.entries)
    where
      go : Dec (j < f.entries) → MetFrom j b
      go (yes l) = met_among (f.entries - j) j made b (omega arith) e
      go (no l) =
          let none : f.entries - j ≡ 0 = omega arith in
          let ends : past ≡ met b = rw none at e in
          let z : ◌≡◌ {A = ℕ} 0 1 = cc in absurd (omega arith)

  -- ---- from the code's ending and the counters

  module _ (j made : ℕ) {counters₀ counters : Counters} where
    module _ (r : Declared.Ending) (n : NextMet (trials_at j made) counters₀ (answer_of (ending_said r)) counters) where
      -- the entry that it says is the one that was met
      pub said_met : (b : ℕ) → ending_said r ≡ met b → MetFrom j b
      said_met b h = trials_met j made b (sym (said_is r n) ∙ h)

      -- and where it says that the budget is used, all of it is
      pub said_used : ending_said r ≡ used → budget ≤ counters.made
      said_used h = rw n.units_are (tried_used (meets f p) budget (ranked_from f x q j) made (sym (said_is r n) ∙ h))

      -- its number is never less than the entry that trials began with
      pub found_later : j ≤ no_entry → j ≤ ending_number_of r
      found_later l = go r refl
        where
          go : (o : Declared.Ending) → r ≡ o → j ≤ ending_number_of o
          go (Endings.Met b) h = (said_met b (ap ending_said h)).low
          go Endings.Past h = l
          go Endings.Used h = omega arith

      module _ (few : f.entries ≤ no_entry) where
        -- the ending with its number is the one that was come to
        pub ending_found : ending_at (ending_number_of r) ≡ (trials_at j made).ending
        ending_found =
            ap ending_at (number_is r n)
            ∙ ending_numbered (trials_at j made).ending (λ b h. let l = (trials_met j made b h).is.is_entry in omega arith)

        -- a number below that of 'none' is the entry's that was met
        pub entry_found : ending_number_of r < no_entry → MetFrom j (ending_number_of r)
        entry_found l = go r refl l
          where
            go : (o : Declared.Ending) → r ≡ o → ending_number_of o < no_entry → MetFrom j (ending_number_of o)
            go (Endings.Met b) h l = said_met b (ap ending_said h)
            go Endings.Past h l = absurd (omega arith)
            go Endings.Used h l = absurd (omega arith)

        -- one above it says that the budget is used
        pub budget_found_used : no_entry < ending_number_of r → budget ≤ counters.made
        budget_found_used l = go r refl l
          where
            go : (o : Declared.Ending) → r ≡ o → no_entry < ending_number_of o → budget ≤ counters.made
            go (Endings.Met b) h l =
                let m = (said_met b (ap ending_said h)).is.is_entry in
                absurd (omega arith)
            go Endings.Past h l = absurd (omega arith)
            go Endings.Used h l = said_used (ap ending_said h)

    -- where the trace ends, the budget is used, and all of it is
    module _ {h : Halt} (n : NextMet (trials_at j made) counters₀ (Err h) counters) where
      pub ending_halts : (trials_at j made).ending ≡ used
      ending_halts = go (trials_at j made).ending n.ending_is
        where
          go : (e : Ending) → Err h ≡ answer_of e → e ≡ used
          go (met b) k = let z : ◌≡◌ {A = ℕ} 0 1 = cc in absurd (omega arith)
          go past k = let z : ◌≡◌ {A = ℕ} 0 1 = cc in absurd (omega arith)
          go used k = refl

      pub budget_halts : h ≡ BudgetUsed
      budget_halts =
          let k : ◌≡◌ {A = Result (Option ℕ) Halt} (Err h) (Err BudgetUsed) = n.ending_is ∙ ap answer_of ending_halts in
          let z : h ≡ BudgetUsed = cc in z

      pub budget_ended : budget ≤ counters.made
      budget_ended = rw n.units_are (tried_used (meets f p) budget (ranked_from f x q j) made ending_halts)

    pub units_within : {r : Result (Option ℕ) Halt} → NextMet (trials_at j made) counters₀ r counters
        → made ≤ budget → counters.made ≤ budget
    units_within n l = rw n.units_are (tried_within (meets f p) budget (ranked_from f x q j) made l)
