-- From record to record: a record that gets five yeses leads from the state after e edges, l links and n entries to the state with one
-- more of its kind, so the questions come by where specs/Records.antt says.
use mathlib.Core.Bool.{true}
use mathlib.Core.List.{List}
use mathlib.Core.Path.{◌≡◌, sym, ap, ap₂, ◌∙◌}
use Prim.Native.Nat.{ℕ, suc, ◌+◌, ◌-◌, ◌≤◌}
use native.Mathlib.Omega.{arith}
use lib.Dec.{ltb, eqb}
use borrow.Author.Tests.{lt-ltb, ne_eqb}
use Rattle.layout.specs.Words.{word_at, words_in, kind_of}
use Rattle.layout.specs.Records.{width_in, edge_words, entry_words, place_in}
use Rattle.questions.specs.Questions.{pick, or_else, Passed, passed, shape, records}
use Rattle.questions.specs.Reading.{passed_at, asked_at}
use Rattle.questions.specs.Read.{Read}
use Rattle.questions.specs.Read.{Fabric}
use Rattle.questions.proofs.Lists.{recent_more, recent_long}
use Rattle.file.specs.Reading.{rest}

-- ---- one more of a kind

one_more : (n : ℕ) → ltb 0 (n + 1) ≡ true
one_more n = lt-ltb 0 (n + 1) (omega arith)

pub edge_passed : (f : List ℕ) (e : ℕ) → kind_of (word_at f (place_in f e 0 0)) ≡ 2
    → passed f (passed_at f e 0 0) ≡ passed_at f (e + 1) 0 0
unfolding passed passed_at
edge_passed f e k =
    let at : place_in f e 0 0 + edge_words (width_in f) ≡ place_in f (e + 1) 0 0 = omega arith in
    simp (k, one_more, recent_more, ← at)

pub link_passed : (f : List ℕ) (e l : ℕ) → kind_of (word_at f (place_in f e l 0)) ≡ 3
    → passed f (passed_at f e l 0) ≡ passed_at f e (l + 1) 0
unfolding passed passed_at
link_passed f e l k =
    let at : place_in f e l 0 + 1 ≡ place_in f e (l + 1) 0 = omega arith in
    simp (k, one_more, recent_more, ← at)

pub entry_passed : (f : List ℕ) (e l n : ℕ) → kind_of (word_at f (place_in f e l n)) ≡ 4
    → passed f (passed_at f e l n) ≡ passed_at f e l (n + 1)
unfolding passed passed_at
entry_passed f e l n k =
    let at : place_in f e l n + entry_words (width_in f) ≡ place_in f e l (n + 1) = omega arith in
    simp (k, one_more, recent_more, ← at)

-- ---- the answer from a record on

module _ (f : List ℕ) (e l n : ℕ) (inside : place_in f e l n ≤ words_in f) where
  step : rest f e l n ≡ or_else (asked_at f e l n) (place_in f e l n)
      (pick (eqb (kind_of (word_at f (place_in f e l n))) 5) (Fabric (shape (width_in f) e l n))
      (records (words_in f - suc (e + l + n)) f (passed f (passed_at f e l n))))
  unfolding rest records passed_at
  step =
      let k : words_in f - (e + l + n) ≡ suc (words_in f - suc (e + l + n)) = omega arith in
      ap (λ (x : ℕ). records x f (passed_at f e l n)) k ∙ simp recent_long

  -- a no
  pub stops : (q : ℕ) (x : Read) → q ≡ asked_at f e l n → (q ≡ 0 → ⊥) → rest f e l n ≡ or_else q (place_in f e l n) x
  stops q x a z = step ∙ simp (sym a, ne_eqb q 0 z)

  -- the end
  pub ends_there : kind_of (word_at f (place_in f e l n)) ≡ 5 → asked_at f e l n ≡ 0
      → rest f e l n ≡ Fabric (shape (width_in f) e l n)
  ends_there k a = step ∙ simp (a, k)

  -- any other record
  next : (e' l' n' k : ℕ) → kind_of (word_at f (place_in f e l n)) ≡ k → (k ≡ 5 → ⊥) → asked_at f e l n ≡ 0
      → e' + l' + n' ≡ e + l + n + 1
      → passed f (passed_at f e l n) ≡ passed_at f e' l' n' → rest f e l n ≡ rest f e' l' n'
  unfolding rest
  next e' l' n' k h d a more s =
      let m : words_in f - suc (e + l + n) ≡ words_in f - (e' + l' + n') = omega arith in
      step ∙ simp (a, h, ne_eqb k 5 d) (ap₂ (λ (x : ℕ) (y : Passed). records x f y) m s)

pub next_edge : (f : List ℕ) (e : ℕ) → place_in f e 0 0 ≤ words_in f → kind_of (word_at f (place_in f e 0 0)) ≡ 2
    → asked_at f e 0 0 ≡ 0
    → rest f e 0 0 ≡ rest f (e + 1) 0 0
next_edge f e i k a = next f e 0 0 i (e + 1) 0 0 2 k (λ z. let y : ⊥ = omega arith in y) a (omega arith) (edge_passed f e k)

pub next_link : (f : List ℕ) (e l : ℕ) → place_in f e l 0 ≤ words_in f → kind_of (word_at f (place_in f e l 0)) ≡ 3
    → asked_at f e l 0 ≡ 0
    → rest f e l 0 ≡ rest f e (l + 1) 0
next_link f e l i k a = next f e l 0 i e (l + 1) 0 3 k (λ z. let y : ⊥ = omega arith in y) a (omega arith) (link_passed f e l k)

pub next_entry : (f : List ℕ) (e l n : ℕ) → place_in f e l n ≤ words_in f → kind_of (word_at f (place_in f e l n)) ≡ 4
    → asked_at f e l n ≡ 0 → rest f e l n ≡ rest f e l (n + 1)
next_entry f e l n i k a = next f e l n i e l (n + 1) 4 k (λ z. let y : ⊥ = omega arith in y) a (omega arith) (entry_passed f e l n k)
