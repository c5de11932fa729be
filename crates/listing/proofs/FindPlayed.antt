-- What is played at a find for the list: its words are counted, and written where there is room. Assumes nothing.
use mathlib.Core.Bool.{Bool, cond}
use mathlib.Core.List.{List}
use mathlib.Core.Path.{◌≡◌, sym, ap, ◌∙◌}
use Prim.Native.Nat.{ℕ, ◌+◌, ◌/◌}
use lib.Dec.{ltb, leb}
use lib.ListN.{length}
use Rattle.answer.specs.Answer.{written_at}
use Rattle.layout.specs.Records.{half, Width, set_words}
use Rattle.wide.specs.Forms.{wide_of, narrowed}
use Rattle.wide.specs.declared.WideSet.{WideSet}
use Rattle.events.specs.Play.{goes_on, find_words, narrow_find, too_many, counted_on, fitted_at, listed}
use Rattle.events.specs.Asked.{Way, world_of, find_at}
use Rattle.events.specs.declared.Counters.{Counters}
use Rattle.events.proofs.FindWords.{narrowed_long, find_words_are}

-- a set of the code has four words each
pub record FourWords (s : WideSet) : Type 0 where
  pub low_care : length s.low.care ≡ half
  pub low_value : length s.low.value ≡ half
  pub high_care : length s.high.care ≡ half
  pub high_value : length s.high.value ≡ half

-- the find s at edge k, in the world of these counters and this area
module _ {way : List ℕ} (is-way : Way way) (f : List ℕ) (k : ℕ) {w : ℕ} (width : Width w) (s : WideSet) (four : FourWords s)
    (counters : Counters) (area : List ℕ) where
  abbrev words : List ℕ
  words = find_words (narrow_find w (find_at f k way (wide_of s)))

  pub words_long : length words ≡ 1 + length way + set_words w
  words_long =
      find_words_are is-way f k w (narrowed w (wide_of s))
      (narrowed_long width s.low.care s.high.care four.low_care four.high_care)
      (narrowed_long width s.low.value s.high.value four.low_value four.high_value)

  pub listed_is : (after : Counters) {last : List ℕ} → after.made ≡ counters.made
      → after.words ≡ counted_on (ltb counters.words too_many) counters.words (1 + length way + set_words w)
      → last ≡ fitted_at counters.words words area
      → goes_on (world_of after last) ≡ listed w (find_at f k way (wide_of s)) (world_of counters area)
  unfolding listed
  listed_is after made count written = rw (made, count, written, words_long)

  -- by whether there is room for them
  pub fitted_by : (b : Bool) → b ≡ leb (counters.words + (1 + length way + set_words w)) (length area / 4)
      → cond b (written_at counters.words words area) area ≡ fitted_at counters.words words area
  fitted_by b e =
      ap (λ (b : Bool). cond b (written_at counters.words words area) area)
      (e ∙ ap (λ (n : ℕ). leb (counters.words + n) (length area / 4)) (sym words_long))
