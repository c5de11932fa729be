-- One entry traced back: document 01, "The back-trace and its count", the headers that it sends into a set. Assumes nothing.
use mathlib.Core.List.{List, [], ◌∷◌, flat_map}
use Rattle.std.proofs.Math.Option.{Option, bind, Option-elim}
use Rattle.std.specs.Prelude.{ℕ}
use Rattle.headers.specs.Sets.{Set, intersection}
use Rattle.headers.specs.Carving.{carve}
use Rattle.forwarding.specs.Fabric.{Fabric, entries_where, beats, undoes}

module _ (f : Fabric) where
  -- T4: the action of entry e undone for t, and met with its match
  unfoldable pub back : ℕ → Set → Option Set
  back e t = bind (undoes f e t) (λ s. intersection f.words s (f.entry e).matches)

  -- "the entries that beat it, in file order"
  unfoldable pub beaters : ℕ → List ℕ
  beaters e = entries_where f (λ b. beats f b e)

  -- what is left of p carved by the matches of the entries, one after the other
  unfoldable pub survivors : List ℕ → Set → List Set
  survivors [] p = p ∷ []
  survivors (b ∷ bs) p = flat_map (survivors bs) (carve f.words p (f.entry b).matches)

  -- the parts of the back-traced set of entry e for the exit set t
  unfoldable pub back_traced : ℕ → Set → List Set
  back_traced e t = Option-elim (back e t) [] (survivors (beaters e))
