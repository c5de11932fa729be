-- The walk along the chain of an in-port: what is left to be tried now is what was to be tried at first.
use mathlib.Core.Bool.{Bool, true, false}
use mathlib.Core.List.{List, [], ◌∷◌}
use mathlib.Core.Path.{◌≡◌, refl, sym, ap, ◌∙◌}
use Prim.Native.Nat.{ℕ, suc, ◌+◌, ◌≤◌, ◌<◌}
use native.Mathlib.Omega.{arith}
use lib.Dec.{ltb}
use Rattle.std.specs.Prelude.{Option, None, Some, Result, Ok, Err, is_ok}
use Rattle.headers.specs.Sets.{Set}
use Rattle.forwarding.specs.Fabric.{Fabric, in_port_of, priority_of}
use Rattle.index.specs.Chains.{no_entry}
use Rattle.index.specs.Places.{chain_number, IsEntry}
use Rattle.index.proofs.Chained.{Next}
use Rattle.entries.specs.Entries.{OfChain, ranked_from}
use Rattle.entries.proofs.InChains.{next_in_chain}
use Rattle.entries.proofs.Ranked.{ranked_next, ranked_here, ranked_below, ranked_end}
use Rattle.events.specs.Play.{Played, unit_made, make_unit}
use Rattle.events.specs.Asked.{world_of, played_of, UnitMade}
use Rattle.events.specs.declared.Ask.{Ask}
use Rattle.events.specs.declared.Counters.{Counters}
use Rattle.events.specs.declared.Halt.{Halt}
use Rattle.events.specs.declared.Halt.TheVariants.{BudgetUsed, Reached}
use Rattle.trials.specs.Trials.{Tried, past, answer_of, tried, meets, trials_from, NextMet}
use Rattle.trials.proofs.Next.{trial_refused, trial_met, trial_passed}

-- ---- a unit, on the counters

abbrev pub counted : Bool → ℕ → ℕ
counted true n = n + 1
counted false n = n

pub record Counted (budget : ℕ) (counters₀ : Counters) (made : Bool) (counters : Counters) : Type 0 where
  pub asked : ltb counters₀.made budget ≡ made
  pub units : counters.made ≡ counted made counters₀.made
  pub words : counters.words ≡ counters₀.words

module _ {T : Type 0} {ask : Ask} {counters₀ counters : Counters} where
  pub unit_counted : {made : Result T Halt} → UnitMade ask counters₀ made counters
      → Counted ask.budget counters₀ (is_ok made) counters
  unfolding make_unit
  unit_counted {made} u = go (ltb counters₀.made ask.budget) made refl (u.played [])
    where
      go : (t : Bool) (m : Result T Halt) → ltb counters₀.made ask.budget ≡ t
          → played_of m counters [] ≡ unit_made t (world_of counters₀ []) → Counted ask.budget counters₀ (is_ok m) counters
      go true (Ok x) e h = record {
        asked = e;
        units = ap (λ (p : Played). p.world.made) h;
        words = ap (λ (p : Played). p.world.words) h;
      }
      go false (Err BudgetUsed) e h = record {
        asked = e;
        units = ap (λ (p : Played). p.world.made) h;
        words = ap (λ (p : Played). p.world.words) h;
      }
      go true (Err BudgetUsed) e h = let z : ◌≡◌ {A = ℕ} 1 0 = ap (λ (p : Played). p.status) h in absurd (omega arith)
      go true (Err Reached) e h = let z : ◌≡◌ {A = ℕ} 2 0 = ap (λ (p : Played). p.status) h in absurd (omega arith)
      go false (Ok x) e h = let z : ◌≡◌ {A = ℕ} 0 1 = ap (λ (p : Played). p.status) h in absurd (omega arith)
      go false (Err Reached) e h = let z : ◌≡◌ {A = ℕ} 2 1 = ap (λ (p : Played). p.status) h in absurd (omega arith)

-- ---- come to entry b of the chain, or to its end

pub record AtTrial (f : Fabric) (budget q j : ℕ) (p : Set) (counters₀ : Counters) (b : Option ℕ) (counters : Counters)
    : Type 0 where
  pub of_chain : OfChain f.entries (chain_number b)
  pub is_entry : IsEntry b
  pub words_stay : counters.words ≡ counters₀.words
  pub left : trials_from f budget q (chain_number b) p counters.made ≡ trials_from f budget q j p counters₀.made

pub first_trial : {f : Fabric} {budget q : ℕ} {p : Set} {j b : Option ℕ} {counters : Counters} → OfChain f.entries (chain_number j)
    → IsEntry j → j ≡ b → AtTrial f budget q (chain_number j) p counters b counters
first_trial o i is = rw (sym is) (record { of_chain = o; is_entry = i; words_stay = refl; left = refl })

-- the chain ends
pub walk_ends : {f : Fabric} {budget q j : ℕ} {p : Set} {counters₀ counters : Counters} → f.entries ≤ no_entry
    → AtTrial f budget q j p counters₀ None counters
    → NextMet (trials_from f budget q j p counters₀.made) counters₀ (Ok None) counters
unfolding tried
walk_ends {f} {budget} {q} {j} {p} {counters₀} {counters} few x =
    let done : record { ending = past; made = counters.made } ≡ trials_from f budget q j p counters₀.made =
    ap (λ (bs : List ℕ). tried (meets f p) budget bs counters.made) (sym (ranked_end f q no_entry few)) ∙ x.left in
    record {
      ending_is = ap (λ (t : Tried). answer_of t.ending) done;
      units_are = ap (λ (t : Tried). t.made) done;
      words_stay = x.words_stay;
    }

module _ {f : Fabric} {budget q j : ℕ} {p : Set} {counters₀ counters : Counters} {b : ℕ} (few : f.entries ≤ no_entry)
    (x : AtTrial f budget q j p counters₀ (Some b) counters) where
  abbrev at_first : Tried
  at_first = trials_from f budget q j p counters₀.made

  -- the trials of entries bs from here on
  abbrev now : List ℕ → Tried
  now bs = tried (meets f p) budget bs counters.made

  pub is_entry : b < f.entries
  is_entry = x.of_chain.is_entry (omega (arith, x.of_chain.within, x.is_entry))

  -- b is below the priority
  pub ranked_lower : priority_of f b < q → {r : Option ℕ} → Next (in_port_of f) f.entries (in_port_of f b) (suc b) (chain_number r)
      → IsEntry r → AtTrial f budget q j p counters₀ r counters
  ranked_lower h n i = record {
    of_chain = (next_in_chain few n).of_chain;
    is_entry = i;
    words_stay = x.words_stay;
    left =
        ap (λ (bs : List ℕ). now bs) (sym (ranked_below f q b h ∙ ranked_next f q n))
        ∙ x.left;
  }

  -- b is tried
  module _ (h : q ≤ priority_of f b) {made : Bool} {counters₁ : Counters} (c : Counted budget counters made counters₁) where
    abbrev later : List ℕ
    later = ranked_from f (in_port_of f b) q (suc b)

    here : now (b ∷ later) ≡ at_first
    here = ap (λ (bs : List ℕ). now bs) (sym (ranked_here f q b is_entry h)) ∙ x.left

    ended : {t : Tried} → now (b ∷ later) ≡ t → counters₁.made ≡ t.made
        → NextMet at_first counters₀ (answer_of t.ending) counters₁
    ended e u = record {
      ending_is = ap (λ (t : Tried). answer_of t.ending) (sym e ∙ here);
      units_are = u ∙ ap (λ (t : Tried). t.made) (sym e ∙ here);
      words_stay = c.words ∙ x.words_stay;
    }

    -- the unit is refused
    pub refused_at : made ≡ false → NextMet at_first counters₀ (Err BudgetUsed) counters₁
    refused_at m =
        ended (trial_refused (meets f p) budget b later counters.made (c.asked ∙ m))
        (c.units ∙ ap (λ (t : Bool). counted t counters.made) m)

    module _ (m : made ≡ true) where
      one_more : counters₁.made ≡ counters.made + 1
      one_more = c.units ∙ ap (λ (t : Bool). counted t counters.made) m

      -- the part meets b
      pub met_at : meets f p b ≡ true → NextMet at_first counters₀ (Ok (Some b)) counters₁
      met_at e = ended (trial_met (meets f p) budget b later counters.made (c.asked ∙ m) e) one_more

      -- or b is passed over
      pub passed_over : meets f p b ≡ false → {r : Option ℕ}
          → Next (in_port_of f) f.entries (in_port_of f b) (suc b) (chain_number r)
          → IsEntry r → AtTrial f budget q j p counters₀ r counters₁
      passed_over e {r} n i = record {
        of_chain = (next_in_chain few n).of_chain;
        is_entry = i;
        words_stay = c.words ∙ x.words_stay;
        left =
            ap (λ (k : ℕ). trials_from f budget q (chain_number r) p k) one_more
            ∙ ap (λ (bs : List ℕ). tried (meets f p) budget bs (counters.made + 1)) (sym (ranked_next f q n))
            ∙ sym (trial_passed (meets f p) budget b later counters.made (c.asked ∙ m) e)
            ∙ here;
      }
