-- What an entry takes back to, from the code's two steps: its rewrite undone, u, and then its match met, m; with a transfer between them
-- or without.
use Rattle.std.specs.Prelude.{Option as Answer}
use mathlib.Core.Bool.{true, false≢true}
use mathlib.Core.List.{List}
use mathlib.Core.Option.{Option, some, none, bind}
use mathlib.Core.Path.{◌≡◌, refl, sym, ap, ◌∙◌}
use Prim.Native.Nat.{ℕ}
use Rattle.headers.specs.Sets.{Set, undone, intersection}
use Rattle.headers.specs.Actions.{met_before}
use Rattle.headers.specs.declared.Transfer.{Transfer}
use Rattle.headers.specs.declared.Transfer.TheVariants.{Keep, Copy, Swap}
use Rattle.headers.proofs.Acting.{before_steps, met_kept}
use Rattle.layout.specs.Records.{match_at, rewrite_at, entry_transfer}
use Rattle.wide.specs.Forms.{wide_words, wide_of, maybe_wide_of, stored_at, rewrite_stored}
use Rattle.wide.specs.declared.WideSet.{WideSet}
use Rattle.entries.specs.Entries.{keeps, back_from}

keep_is : (t : Transfer) → keeps t ≡ true → t ≡ Keep
keep_is Keep e = refl
keep_is Copy e = absurd (false≢true e)
keep_is Swap e = absurd (false≢true e)

module _ (w : ℕ) (x : List ℕ) (t : Set) where
  -- what the rewrite makes into headers of t, and the headers in the match that the transfer takes into such a set
  abbrev before_rewrite : Option Set
  before_rewrite = undone wide_words (rewrite_stored w x (rewrite_at w)) t

  abbrev in_match : Set → Option Set
  in_match = met_before wide_words (stored_at w x match_at) (entry_transfer x)

  back_steps : back_from w x t ≡ bind before_rewrite in_match
  back_steps = before_steps wide_words (stored_at w x match_at) _ t

  -- nothing is made into headers of t
  pub back_empty : none ≡ before_rewrite → none ≡ back_from w x t
  unfolding bind
  back_empty undo = sym (back_steps ∙ ap (λ (o : Option Set). bind o in_match) (sym undo))

  module _ (u : WideSet) (undo : some (wide_of u) ≡ before_rewrite) where
    pub back_moved : (m : Answer WideSet) → maybe_wide_of m ≡ in_match (wide_of u) → maybe_wide_of m ≡ back_from w x t
    unfolding bind
    back_moved m h = h ∙ sym (back_steps ∙ ap (λ (o : Option Set). bind o in_match) (sym undo))

    pub back_kept : keeps (entry_transfer x) ≡ true
        → (m : Answer WideSet) → maybe_wide_of m ≡ intersection wide_words (wide_of u) (stored_at w x match_at)
        → maybe_wide_of m ≡ back_from w x t
    back_kept k m h = back_moved m
        (h
        ∙ sym (met_kept wide_words (stored_at w x match_at) (wide_of u))
        ∙ ap (λ (t : Transfer). met_before wide_words (stored_at w x match_at) t (wide_of u)) (sym (keep_is (entry_transfer x) k)))
