-- The reader as a whole: the end, where no other record can stand, and questions 1 and 2.
use mathlib.Core.Bool.{Bool, true, false, not, true≢false}
use mathlib.Core.List.{List, [], ◌∷◌}
use mathlib.Core.Path.{◌≡◌, refl, sym, ap, ◌∙◌}
use Prim.Native.Nat.{ℕ, ◌+◌, ◌≤◌, ◌<◌}
use native.Mathlib.Omega.{arith}
use lib.Dec.{ltb, eqb}
use borrow.Author.Tests.{lt-ltb, le-leb, ltb-false, eqb-true, not-true, not-false}
use Rattle.layout.specs.Words.{word_at, words_in, kind_of, bits}
use Rattle.layout.specs.Records.{Width, width_in, place_of, place_in}
use Rattle.layout.proofs.Words.{word_fits}
use Rattle.questions.specs.Questions.{pick, asked, in_order, ports_right, sets_tidy, link_free, within_limits, shape, records}
use Rattle.questions.specs.Questions.{after_start, accepted, sized, started}
use Rattle.questions.specs.Reading.{last_kind, passed_at, Bounded, asked_at, ends_at}
use Rattle.questions.specs.Read.{Read}
use Rattle.questions.specs.Read.{Fabric, No}
use Rattle.questions.proofs.Asked.{up_to_entries}
use Rattle.questions.proofs.Chains.{parts}
use Rattle.questions.proofs.Versions.{bounded, own_width}
use Rattle.questions.proofs.Yes.{Ordered, ordered}
use Rattle.file.specs.Reading.{rest, RunRead}
use Rattle.file.proofs.Steps.{stops, ends_there}

-- ---- the last kind says what has not come yet

pub no_entry_yet : (e l n : ℕ) → last_kind e l n ≤ 3 → n ≡ 0
no_entry_yet e l n = go (ltb 0 n) refl
  where
    go : (b : Bool) → ltb 0 n ≡ b → pick b 4 (last_kind e l 0) ≤ 3 → n ≡ 0
    go true h k = absurd (omega arith)
    go false h k = omega (arith, ltb-false 0 n h)

pub no_link_yet : (e l : ℕ) → last_kind e l 0 ≤ 2 → l ≡ 0
no_link_yet e l = go (ltb 0 l) refl
  where
    go : (d : Bool) → ltb 0 l ≡ d → pick d 3 (last_kind e 0 0) ≤ 2 → l ≡ 0
    go true h k = absurd (omega arith)
    go false h k = omega (arith, ltb-false 0 l h)

-- ---- the end

module _ (f : List ℕ) (e l n : ℕ) where
  abbrev place : ℕ
  place = place_in f e l n

  pub end_asked : ends_at f place ≡ true → (kind_of (word_at f place) ≡ 5) × (asked_at f e l n ≡ 0)
  unfolding asked in_order ports_right sets_tidy link_free within_limits passed_at
  end_asked h =
      let part = parts (eqb (place + 1) (words_in f)) (eqb (word_at f place) 0x50000000 ∷ []) h in
      let last : place + 1 ≡ words_in f = eqb-true _ _ (part 0) in
      let w = eqb-true (word_at f place) 0x50000000 (part 1) in
      let i = lt-ltb place (words_in f) (omega arith) in
      let j = le-leb (place + 1) (words_in f) (omega arith) in
      let o = le-leb (last_kind e l n) 5 (up_to_entries e l n 5 (omega arith)) in
      (rw w, simp (w, i, j, o, part 0))

  -- where none of the other kinds can stand, a record in order is the end
  only_end : Ordered f (passed_at f e l n)
      → (kind_of (word_at f place) ≡ 4 → ⊥) → (n ≡ 0 → kind_of (word_at f place) ≡ 3 → ⊥)
      → (n ≡ 0 → l ≡ 0 → kind_of (word_at f place) ≡ 2 → ⊥)
      → ends_at f place ≡ true
  unfolding passed_at
  only_end o d4 d3 d2 = is5 (omega (arith, o.low, o.high, is4, is3, is2))
    where
      is4 : kind_of (word_at f place) ≡ 4 → ⊥
      is4 = d4

      is3 : kind_of (word_at f place) ≡ 3 → ⊥
      is3 k = d3 (no_entry_yet e l n (rw k at o.order)) k

      is2 : kind_of (word_at f place) ≡ 2 → ⊥
      is2 k =
          let h : last_kind e l n ≤ 2 = rw k at o.order in
          let z : n ≡ 0 = no_entry_yet e l n (omega arith) in
          d2 z (no_link_yet e l (rw z at h)) k

      is5 : kind_of (word_at f place) ≡ 5 → ends_at f place ≡ true
      is5 k =
          let z : bits 27 0 (word_at f place) ≡ 0 = eqb-true _ _ (simp k at o.zero_bits_lem) in
          let w : word_at f place ≡ 0x50000000 = omega (arith, word_fits f place) in
          simp (w, simp k at o.last)

-- ---- the three runs and the end, put together

module _ (f : List ℕ) (e l n : ℕ) (A : RunRead f 2 0 0 0 e 0 0 0) (B : RunRead f 3 e 0 0 e l 0 0) (C : RunRead f 4 e l 0 e l n 0) where
  to_end : rest f 0 0 0 ≡ rest f e l n
  to_end = A.answer ∙ B.answer ∙ C.answer

  module _ (hw at : ℕ) (hh : hw ≡ width_in f) (ha : at ≡ place_of hw e l n) where
    end_place : at ≡ place_in f e l n
    end_place = rw hh at ha

    pub fabric : ends_at f at ≡ true → Fabric (shape hw e l n) ≡ rest f 0 0 0
    fabric t =
        let q = end_asked f e l n (rw end_place at t) in
        ap (λ (w : ℕ). Fabric (shape w e l n)) hh ∙ sym (to_end ∙ ends_there f e l n C.inside q.0 q.1)

    pub no_end : ends_at f at ≡ false → No 3 at ≡ rest f 0 0 0
    unfolding asked passed_at
    no_end t =
        rw end_place
        (sym (to_end ∙ stops f e l n C.inside 3 (rest f e l n) (three (in_order f (passed_at f e l n)) refl) not_zero))
      where
        not_zero : ◌≡◌ {A = ℕ} 3 0 → ⊥
        not_zero z = omega arith

        three : (b : Bool) → in_order f (passed_at f e l n) ≡ b → 3 ≡ asked_at f e l n
        three false h = simp h
        three true h =
            let o = ordered f (passed_at f e l n) h in
            let i : place_in f e l n < words_in f = o.here in
            absurd (true≢false
            (sym (only_end f e l n o (C.done refl i) (λ zn k. B.done refl (rw zn at i) (rw zn at k))
            (λ zn zl k. A.done refl (rw (zn, zl) at i) (rw (zn, zl) at k)))
            ∙ rw end_place at t))

-- ---- questions 1 and 2

pub start_passed : (f : List ℕ) → passed_at f 0 0 0 ≡ after_start
unfolding passed_at
start_passed f = ap (λ (p : ℕ). record { place = p; last_kind_lem = 1; edges = []; froms = []; tos = []; ins = [] }) after
  where
    after : place_in f 0 0 0 ≡ 1
    after = omega arith

pub from_start : (f : List ℕ) → rest f 0 0 0 ≡ records (words_in f) f after_start
unfolding rest
from_start f = ap (λ (k : ℕ). records k f (passed_at f 0 0 0)) (omega arith) ∙ ap (records (words_in f) f) (start_passed f)

-- in a call for headers of w words, a is whether question 1 got a yes, b whether question 2 did
module _ (w : ℕ) (f : List ℕ) (d : Width w) (a : Bool) (ha : a ≡ sized w f) where
  pub question_1 : not a ≡ true → No 1 0 ≡ accepted w f
  unfolding accepted
  question_1 z = simp (sym ha ∙ not-true a z)

  module _ (za : not a ≡ false) where
    pub is_bounded : Bounded f
    is_bounded = bounded w d f (sym ha ∙ not-false a za)

    module _ (b : Bool) (hb : b ≡ started w f) where
      pub question_2 : not b ≡ true → No 2 0 ≡ accepted w f
      unfolding accepted
      question_2 z = simp (sym ha ∙ not-false a za, sym hb ∙ not-true b z)

      pub of_version : not b ≡ false → w ≡ width_in f
      of_version z = own_width w d f (sym hb ∙ not-false b z)

      pub both_yes : not b ≡ false → (r : Read) → r ≡ rest f 0 0 0 → r ≡ accepted w f
      unfolding accepted
      both_yes z r e = e ∙ from_start f ∙ simp (sym ha ∙ not-false a za, sym hb ∙ not-false b z)
