-- The list's pass: it counts the words of all finds, and writes them in order where there is room for all.
use mathlib.Core.Bool.{Bool, true, false, ◌&&◌, cond, true≢false, false≢true}
use mathlib.Core.List.{List, [], ◌∷◌, ◌++◌, map}
use mathlib.Core.Path.{◌≡◌, refl, sym, ◌∙◌, subst}
use Prim.Native.Nat.{ℕ, suc, ◌+◌, ◌*◌, ◌/◌, ◌≤◌, ◌<◌}
use native.Mathlib.Numerals.{add-one}
use native.Mathlib.Omega.{arith}
use borrow.Author.Tests.{lt-ltb, le-leb}
use lib.Dec.{ltb, leb}
use lib.ListN.{length, length-append}
use Rattle.answer.specs.Answer.{written_at}
use Rattle.answer.proofs.Written.{written_next, written_length, written_none}
use Rattle.forwarding.specs.Trace.{Find, Event, unit, find, finds}
use Rattle.forwarding.specs.Verdict.{ends_within}
use Rattle.events.specs.Play.{World, Played, and_then, unit_made, make_unit, step, play}
use Rattle.events.specs.Play.{find_words, narrow_find, list_words, too_many, counted_on, listed}

-- the finds among events, of headers of n words
abbrev pub finds_in : ℕ → List Event → List Find
finds_in n es = map (narrow_find n) (finds es)

-- how many words finds have
abbrev pub words_of : List Find → ℕ
words_of ds = length (list_words ds)

-- a world with one more unit made
abbrev one_more_lem : World → World
one_more_lem w = record { made = w.made + 1; words = w.words; area = w.area }

-- all events are gone through and the words of all finds counted; if there is room for all of them, they are written
pub record ListedAll (w : World) (ds : List Find) (p : Played) : Type 0 where
  pub through : p.status ≡ 0
  pub counted : p.world.words ≡ w.words + words_of ds
  pub written : 4 * (w.words + words_of ds) ≤ length w.area
      → p.world.area ≡ written_at w.words (list_words ds) w.area

module _ (n budget : ℕ) where
  -- from any world in which the budget has their units, and the words stay below the limit of the count
  abbrev pub Listed : List Event → Type 0
  Listed es =
      (w : World) → ends_within budget w.made es ≡ true → w.words + words_of (finds_in n es) < too_many
      → ListedAll w (finds_in n es) (play budget (listed n) es w)

  pub listed_all : (es : List Event) → Listed es
  unfolding ends_within play step make_unit listed finds list_words
  listed_all [] w e low = record {
    through = refl;
    counted = omega arith;
    written = λ room. sym (written_none w.words w.area (omega arith));
  }
  listed_all (unit ∷ es) w e low = go (ltb w.made budget) e (listed_all es)
    where
      go : (b : Bool) → (b && ends_within budget (suc w.made) es) ≡ true → Listed es
          → ListedAll w (finds_in n (unit ∷ es)) (and_then (unit_made b w) (play budget (listed n) es))
      go true d ih =
          let r = ih (one_more_lem w) (subst (λ (k : ℕ). ends_within budget k es ≡ true) (sym (add-one w.made)) d) low in
          record { through = r.through; counted = r.counted; written = r.written }
      go false d ih = absurd (false≢true d)
  listed_all (find d ∷ es) w e low =
      go (ltb w.words too_many) (leb (w.words + length (find_words (narrow_find n d))) (length w.area / 4))
      (lt-ltb w.words too_many (omega arith))
      (λ room. le-leb (w.words + length (find_words (narrow_find n d))) (length w.area / 4) (omega (arith, size))) (listed_all es)
    where
      size : length (find_words (narrow_find n d) ++ list_words (finds_in n es)) ≡ length (find_words (narrow_find n d)) + words_of
          (finds_in n es)
      size = length-append (find_words (narrow_find n d)) (list_words (finds_in n es))

      -- the world after it, by whether the count is below its limit, and whether there is room
      next : Bool → Bool → World
      next b c = record {
        made = w.made;
        words = counted_on b w.words (length (find_words (narrow_find n d)));
        area = cond c (written_at w.words (find_words (narrow_find n d)) w.area) w.area;
      }

      go : (b c : Bool) → b ≡ true → (4 * (w.words + words_of (finds_in n (find d ∷ es))) ≤ length w.area → c ≡ true)
          → Listed es
          → ListedAll w (finds_in n (find d ∷ es)) (play budget (listed n) es (next b c))
      go false c below fits ih = absurd (false≢true below)
      go true false below fits ih =
          let r = ih (next true false) e (omega (arith, size)) in
          record { through = r.through; counted = omega (arith, size, r.counted); written = λ room. absurd (false≢true (fits room)) }
      go true true below fits ih =
          let r = ih (next true true) e (omega (arith, size)) in
          record {
            through = r.through;
            counted = omega (arith, size, r.counted);
            written = λ room.
                let here : 4 * (w.words + length (find_words (narrow_find n d))) ≤ length w.area = omega (arith, size) in
                r.written (omega (arith, size, written_length w.words (find_words (narrow_find n d)) [] w.area here))
                ∙ written_next w.words (find_words (narrow_find n d)) (list_words (finds_in n es)) w.area here;
          }

  -- where the budget ends first, it was used
  pub listed_stops : (es : List Event) (w : World) → ends_within budget w.made es ≡ false → (play budget (listed n) es w).status ≡ 1
  unfolding ends_within play step make_unit listed
  listed_stops [] w e = absurd (true≢false e)
  listed_stops (unit ∷ es) w e = go (ltb w.made budget) e (listed_stops es)
    where
      go : (b : Bool) → (b && ends_within budget (suc w.made) es) ≡ false
          → ((v : World) → ends_within budget v.made es ≡ false → (play budget (listed n) es v).status ≡ 1)
          → (and_then (unit_made b w) (play budget (listed n) es)).status ≡ 1
      go true d ih = ih (one_more_lem w) (subst (λ (k : ℕ). ends_within budget k es ≡ false) (sym (add-one w.made)) d)
      go false d ih = refl
  listed_stops (find d ∷ es) w e = listed_stops es _ e
