-- What is asked has eight words, of which the file's headers have the first four or all: it is clean exactly if the file's own set is, and
-- each pass over it in the wide fabric is the pass over the file's own.
use mathlib.Core.Bool.{Bool, true, ◌&&◌}
use mathlib.Core.List.{List, [], ◌∷◌, ◌++◌}
use mathlib.Core.Path.{◌≡◌, refl, sym, ap, ap₂, ◌∙◌, subst}
use Prim.Native.Nat.{ℕ, zero, suc, ◌+◌, ◌-◌, ◌≤◌}
use native.Mathlib.Omega.{arith}
use lib.Dec.{eqb}
use lib.ListN.{length}
use lib.Seq.{length-take-le}
use Rattle.headers.specs.Bits.{word, words, Words}
use Rattle.headers.specs.Sets.{Set, tidy, WellFormed, padded}
use Rattle.headers.proofs.Booleans.{and_fst}
use Rattle.headers.proofs.Beside.{Long, fits_beside}
use Rattle.headers.proofs.Padded.{tidy_padded}
use Rattle.answer.specs.Answer.{answer_words}
use Rattle.layout.specs.Words.{bits}
use Rattle.layout.specs.Records.{half, Width, width_in}
use Rattle.layout.specs.Shape.{Shape}
use Rattle.layout.proofs.Widths.{width_said}
use Rattle.wide.specs.Forms.{wide_words, wide_of, widest, narrowed, Fits}
use Rattle.wide.specs.declared.WideSet.{WideSet}
use Rattle.wide.proofs.Halves.{Fours}
use Rattle.questions.specs.Questions.{clean, first_no}
use Rattle.file.specs.Accepted.{Accepted}
use Rattle.file.proofs.Accepted.{words_said}
use Rattle.forwarding.specs.Fabric.{Fabric}
use Rattle.forwarding.specs.Trace.{trace, list_trace}
use Rattle.forwarding.specs.Run.{Packet, run, header_of}
use Rattle.forwarding.specs.Wider.{wider, wider_packet}
use Rattle.forwarding.proofs.Wider.{wider_to_lem}
use Rattle.forwarding.proofs.RunFits.{run_fits}
use Rattle.forwarding.proofs.WiderRuns.{fate_wider, run_wider}
use Rattle.model.specs.Model.{fabric_in, wide_in}
use Rattle.model.proofs.EntryRead.{words_are}
use Rattle.model.proofs.Soundness.{fabric_sound}
use Rattle.model.proofs.Ports.{out_port_low, link_to_low}
use Rattle.events.specs.Play.{play, listed, judged}
use Rattle.events.proofs.Widened.{verdict_pass_same, list_pass_same}
use Rattle.events.specs.Pass.{begin, pass_of}
use Rattle.journey.specs.Journey.{IsJourney, journey_words, packet_words}
use Rattle.journey.specs.declared.Journey.{Journey}
use Rattle.journey.proofs.Hops.{words_same, words_long}
use Rattle.queries.specs.Queries.{trace_questions}
use Rattle.calls.specs.Questions.{query}
use Rattle.calls.specs.List.{list_pass_of}
use Rattle.calls.proofs.Judging.{judged_pass}

-- ---- words that are 0

zero_word : (k i : ℕ) → word (words k (λ w. 0)) i ≡ 0
zero_word zero i = refl
zero_word (suc k) zero = refl
zero_word (suc k) (suc i) = zero_word k i

word_longer : (l : List ℕ) (k i : ℕ) → word (l ++ words k (λ w. 0)) i ≡ word l i
word_longer [] k i = zero_word k i
word_longer (x ∷ l) k zero = refl
word_longer (x ∷ l) k (suc i) = word_longer l k i

-- a set is as clean with wild words up to eight
clean_wider : (w : ℕ) (s : Set) → Long w s → w ≤ wide_words → clean wide_words (widest w s) ≡ clean w s
clean_wider w s long low =
    ap₂ ◌&&◌
    (ap (λ (n : ℕ). tidy n (widest w s)) (let e : wide_words ≡ w + (wide_words - w) = omega arith in e)
    ∙ tidy_padded w (wide_words - w) s long)
    (ap (λ (x : ℕ). eqb (bits 7 0 x) 0) (word_longer s.care (wide_words - w) 7))

-- the first w of words that are 0 from there on
words_narrowed : (w k : ℕ) (l m : List ℕ) → l ≡ m ++ words k (λ i. 0) → length m ≡ w → w ≤ wide_words
    → Words wide_words l → Words w m
words_narrowed w k l m e long low fit = record {
  long = long;
  fits = λ i inside. rw (sym (word_longer m k i), sym e) (fit.fits i (omega arith));
}

-- ---- a query on an accepted file

module _ (f : List ℕ) (s : Shape) (ok : Accepted f s) (asked : WideSet) (fits : Fits s.words (wide_of asked)) (fours : Fours asked) where
  abbrev F : Fabric
  F = fabric_in f

  abbrev more : ℕ
  more = wide_words - F.words

  -- the file's own set
  abbrev pub own : Set
  own = narrowed s.words (wide_of asked)

  pub width : Width s.words
  width = width_said f (words_said f s ok)

  pub words_own : F.words ≡ s.words
  words_own = words_are f s ok ∙ sym (words_said f s ok)

  low : F.words ≤ wide_words
  low = omega (arith, words_own, width.high)

  care_fits : Words wide_words (wide_of asked).care
  care_fits = fits_beside half half asked.low.care asked.high.care fours.low.care fours.high.care

  value_fits : Words wide_words (wide_of asked).value
  value_fits = fits_beside half half asked.low.value asked.high.value fours.low.value fours.high.value

  own_long : Long s.words own
  own_long = record {
    care = length-take-le s.words (wide_of asked).care (omega (arith, care_fits.long, width.high));
    value = length-take-le s.words (wide_of asked).value (omega (arith, value_fits.long, width.high));
  }

  -- what is asked is the file's own set with wild words up to eight
  pub asked_is : wide_of asked ≡ padded more own
  asked_is = fits ∙ ap (λ (n : ℕ). padded (wide_words - n) own) (sym words_own)

  pub own_care : Words F.words own.care
  own_care = words_narrowed F.words more (wide_of asked).care own.care (ap (λ (t : Set). t.care) asked_is)
      (own_long.care ∙ sym words_own) low care_fits

  pub own_value : Words F.words own.value
  own_value = words_narrowed F.words more (wide_of asked).value own.value (ap (λ (t : Set). t.value) asked_is)
      (own_long.value ∙ sym words_own) low value_fits

  pub clean_own : clean wide_words (wide_of asked) ≡ clean F.words own
  clean_own =
      ap (clean wide_words) fits
      ∙ clean_wider s.words own own_long width.high ∙ ap (λ (n : ℕ). clean n own) (sym words_own)

  pub questions_own : (right : Bool) (limit : ℕ)
      → first_no (trace_questions wide_words right limit (wide_of asked)) ≡ first_no (trace_questions F.words right limit own)
  questions_own right limit = rw clean_own

  pub own_formed : clean F.words own ≡ true → WellFormed F.words own
  own_formed c = record { care = own_care; value = own_value; is_tidy = and_fst (tidy F.words own) _ c }

  -- ---- the passes

  module _ (formed : WellFormed F.words own) (port limit budget : ℕ) (area : List ℕ) where
    pub judged_own : pass_of f 3 port limit budget (wide_of asked) area ≡ judged_pass f (query port limit budget own) area
    judged_own =
        (λ i. play budget (judged (wide_in f) (sym (words_are f s ok) i) port) (trace (wide_in f) limit port (asked_is i)) (begin area))
        ∙ verdict_pass_same wide_words F (fabric_sound f s ok) low limit port own formed budget (begin area)

    pub listed_own : list_pass_of (width_in f) (wide_in f) (query port limit budget (wide_of asked)) area
        ≡ list_pass_of F.words F (query port limit budget own) area
    listed_own =
        (λ i. play budget (listed (sym (words_are f s ok) i)) (list_trace (wide_in f) limit port (asked_is i)) (begin area))
        ∙ list_pass_same wide_words F (fabric_sound f s ok) low limit port own formed budget (begin area)

  -- ---- the run

  module _ (limit port : ℕ) (j : Journey) (is : IsJourney (wide_in f) (run (wide_in f) limit port (wide_of asked).value) j) where
    abbrev packet : Packet
    packet = run F limit port own.value

    is_wider : IsJourney (wider more F) (wider_packet more packet) j
    is_wider =
        subst
        (λ (p : Packet). IsJourney (wider more F) p j)
        (run_wider more F (fabric_sound f s ok) limit port own.value own_value.long)
        (subst (λ (h : List ℕ). IsJourney (wider more F) (run (wider more F) limit port h) j) (ap (λ (t : Set). t.value) asked_is)
        (subst (λ (G : Fabric). IsJourney G (run G limit port (wide_of asked).value) j) (wider_to_lem wide_words F low) is))

    header_long : length (header_of packet) ≡ s.words
    header_long =
        (run_fits F (fabric_sound f s ok) (4096 + port + 1) (λ e. omega (arith, out_port_low f e)) (λ x. omega (arith, link_to_low f x))
        limit port own.value (omega arith) own_value).header.long
        ∙ words_own

    pub journey_own : journey_words s.words j ≡ packet_words F packet
    journey_own = words_same F (wider more F) s.words more packet j is_wider header_long (fate_wider more F packet)

    pub run_words_long : length (packet_words F packet) ≡ answer_words s.words
    run_words_long = words_long F packet s.words header_long
