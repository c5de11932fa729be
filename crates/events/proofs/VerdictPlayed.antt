-- The verdict's play is the verdict within the budget. Assumes nothing.
use mathlib.Core.Bool.{Bool, true, false, cond}
use mathlib.Core.List.{List, [], ◌∷◌}
use mathlib.Core.Option.{Option, some, none, or_else, map}
use mathlib.Core.Path.{◌≡◌, refl, subst}
use Prim.Native.Nat.{ℕ, suc, ◌+◌}
use native.Mathlib.Numerals.{add-one}
use lib.Dec.{ltb}
use lib.ListN.{take}
use Rattle.headers.specs.Sets.{Header}
use Rattle.answer.specs.Answer.{written_at}
use Rattle.forwarding.specs.Fabric.{Fabric}
use Rattle.forwarding.specs.Trace.{Event, unit, find}
use Rattle.forwarding.specs.Verdict.{Verdict, isolated, reached, foreign_packet, verdict_within}
use Rattle.events.specs.Play.{World, Played, and_then, unit_made, make_unit, step, play, judged, judged_by, reached_words}

-- how the play of a verdict that tells the first n words of a header ends: the budget used, and nothing written; isolated, and nothing
-- written; or reached, and its words written
unfoldable pub VerdictPlayed : ℕ → World → Option Verdict → Played → Type 0
VerdictPlayed n w none p = (p.status ≡ 1) × (p.world.area ≡ w.area)
VerdictPlayed n w (some (isolated u)) p = (p.status ≡ 0) × (p.world.made ≡ u) × (p.world.area ≡ w.area)
VerdictPlayed n w (some (reached u x path h)) p =
    (p.status ≡ 2) × (p.world.area ≡ written_at 0 (reached_words u x path (take n h)) w.area)

module _ (f : Fabric) (n target budget : ℕ) where
  pub verdict_played : (es : List Event) (w : World)
      → VerdictPlayed n w (verdict_within f target budget w.made es) (play budget (judged f n target) es w)
  unfolding VerdictPlayed verdict_within play step make_unit judged or_else
  verdict_played [] w = (refl, refl, refl)
  verdict_played (unit ∷ es) w = go (ltb w.made budget) (verdict_played es)
    where
      go : (b : Bool)
          → ((w : World) → VerdictPlayed n w (verdict_within f target budget w.made es) (play budget (judged f n target) es w))
          → VerdictPlayed n w (cond b (verdict_within f target budget (suc w.made) es) none)
          (and_then (unit_made b w) (play budget (judged f n target) es))
      go true ih =
          let more : World = record { made = w.made + 1; words = w.words; area = w.area } in
          subst (λ (k : ℕ). VerdictPlayed n w (verdict_within f target budget k es) (play budget (judged f n target) es more))
          (add-one w.made) (same_area (verdict_within f target budget (w.made + 1) es) _ (ih more))
        where
          same_area : (v : Option Verdict) (p : Played)
              → VerdictPlayed n (record { made = w.made + 1; words = w.words; area = w.area }) v p → VerdictPlayed n w v p
          same_area none p r = r
          same_area (some (isolated u)) p r = r
          same_area (some (reached u x path h)) p r = r
      go false ih = (refl, refl)
  verdict_played (find d ∷ es) w = go (foreign_packet f target d) (verdict_played es w)
    where
      go : (o : Option Header) → VerdictPlayed n w (verdict_within f target budget w.made es) (play budget (judged f n target) es w)
          → VerdictPlayed n w (or_else (map (reached w.made d.port d.path) o) (verdict_within f target budget w.made es))
          (and_then (judged_by f n target o d w) (play budget (judged f n target) es))
      go none ih = ih
      go (some h) ih = (refl, refl)
