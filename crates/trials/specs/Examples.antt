-- Trials, computed: entries 4, 9, 2 and 7, of which the part meets 9 and 7.
use Rattle.std.specs.Prelude.{Bool, List, [], ◌∷◌, ◌≡◌, refl, ℕ, ltb, Some, None, Ok, Err}
use Rattle.events.specs.declared.Halt.TheVariants.{BudgetUsed}
use Rattle.trials.specs.Trials.{met, past, used, number_of, ending_at, ending_said, ending_number_of, answer_of, tried, trials_of}
use Rattle.trials.specs.declared.Ending.TheVariants as Endings

abbrev few : List ℕ
few = 4 ∷ 9 ∷ 2 ∷ 7 ∷ []

abbrev large : ℕ → Bool
large b = ltb 5 b

-- 4 is passed over, and 9 is met: a unit each
the_next : tried large 8 few 6 ≡ record { ending = met 9; made = 8 }
unfolding tried
the_next = refl

-- the budget ends at the one that would be met, and at the one passed over before it
used_at_the_met : tried large 7 few 6 ≡ record { ending = used; made = 7 }
unfolding tried
used_at_the_met = refl

used_before : tried large 6 few 6 ≡ record { ending = used; made = 6 }
unfolding tried
used_before = refl

-- none is met
none_met : tried (ltb 9) 10 few 6 ≡ record { ending = past; made = 10 }
unfolding tried
none_met = refl

-- with no entry there is no trial, and no unit is asked for
nothing_to_try : tried large 6 [] 6 ≡ record { ending = past; made = 6 }
unfolding tried
nothing_to_try = refl

two_trials : trials_of large few ≡ 2
unfolding trials_of
two_trials = refl

-- each ending has its own name in the code and its own answer
said_met : ending_said (Endings.Met 9) ≡ met 9
said_met = refl

said_past : ending_said Endings.Past ≡ past
said_past = refl

said_used : ending_said Endings.Used ≡ used
said_used = refl

the_met : answer_of (met 9) ≡ Ok (Some 9)
the_met = refl

past_is_none : answer_of past ≡ Ok None
past_is_none = refl

used_is_budget_used : answer_of used ≡ Err BudgetUsed
used_is_budget_used = refl

-- no ending has another's number
past_is_512 : number_of past ≡ 512
past_is_512 = refl

used_is_513 : number_of used ≡ 513
used_is_513 = refl

-- nor has the code's
past_has_512 : ending_number_of Endings.Past ≡ 512
past_has_512 = refl

used_has_513 : ending_number_of Endings.Used ≡ 513
used_has_513 = refl

-- and each number is its ending's
at_511_met : ending_at 511 ≡ met 511
at_511_met = refl

at_512_past : ending_at 512 ≡ past
at_512_past = refl

at_513_used : ending_at 513 ≡ used
at_513_used = refl
