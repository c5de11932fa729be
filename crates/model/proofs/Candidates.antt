-- Whether an entry that was read is a candidate for a header, and what the search keeps then. Assumes nothing.
use mathlib.Core.Bool.{Bool, true, false, ◌&&◌}
use mathlib.Core.List.{List}
use mathlib.Core.Logic.{◌⊎◌, inl, inr}
use mathlib.Core.Path.{◌≡◌, refl, sym, ap, ap₂, ◌∙◌, subst}
use Prim.Native.Nat.{ℕ, ◌+◌, ◌<◌}
use native.Mathlib.Omega.{arith}
use borrow.Author.Tests.{eq-eqb, ne_eqb, ltb-true, ltb-false}
use Rattle.headers.specs.Sets.{Header, Set, contains}
use Rattle.layout.specs.Records.{width_in, match_at, entry_in, entry_match}
use Rattle.layout.specs.Shape.{Shape}
use Rattle.file.specs.Accepted.{Accepted}
use Rattle.file.proofs.Accepted.{words_said}
use Rattle.forwarding.specs.Fabric.{Fabric, in_port_of, priority_of, outranks, holds}
use Rattle.forwarding.specs.Best.{candidate, BestSoFar}
use Rattle.forwarding.proofs.Best.{best_keep, best_tie, best_take, best_none, best_alone, best_several}
use Rattle.wide.specs.Forms.{wide_words, widest, stored_at}
use Rattle.model.specs.Model.{fabric_in, wide_in}
use Rattle.model.specs.Taking.{Takes, AmongEntries, best_entry, is_tied, IsBest, Better}
use Rattle.model.specs.declared.Takers.{Takers}
use Rattle.model.specs.declared.Takers.TheVariants.{Nobody, One, Several}
use Rattle.model.proofs.EntryRead.{EntryRead, words_are}

module _ (f : List ℕ) (s : Shape) (ok : Accepted f s) (x : ℕ) (h : Header) (i : ℕ) (e : List ℕ)
    (read : EntryRead (width_in f) (fabric_in f) i e) where
  holds_is : holds (wide_in f) i h ≡ contains wide_words (widest (width_in f) (entry_match (width_in f) e)) h
  unfolding holds
  holds_is =
      ap₂ (λ (n : ℕ) (m : Set). contains wide_words (widest n m) h) (words_are f s ok) (sym read.matches)

  pub other_port : (entry_in e ≡ x → ⊥) → candidate (wide_in f) x h i ≡ false
  other_port d = ap (λ (b : Bool). b && holds (wide_in f) i h)
      (ne_eqb x (in_port_of (fabric_in f) i) (λ q. d (read.in_port_lem ∙ sym q)))

  -- past the test of the port that of the match decides
  pub tested : entry_in e ≡ x → (t : Bool) → t ≡ contains wide_words (stored_at s.words e match_at) h
      → t ≡ candidate (wide_in f) x h i
  tested p t d = sym (
      ap₂ ◌&&◌ (eq-eqb x (in_port_of (fabric_in f) i) (sym p ∙ read.in_port_lem))
      (holds_is ∙ sym (d ∙ ap (λ (w : ℕ). contains wide_words (stored_at w e match_at) h) (words_said f s ok))))

-- ---- the best so far with entry i

-- it names entry a
abbrev pub Names : Takers → ℕ → Type 0
Names b a = (b ≡ One a) ⊎ (b ≡ Several a)

pub named_entry : (n : ℕ) (b : Takers) (a : ℕ) → Names b a → best_entry n b ≡ a
named_entry n b a (inl e) = ap (best_entry n) e
named_entry n b a (inr e) = ap (best_entry n) e

pub named_below : (n : ℕ) (b : Takers) (a : ℕ) → Names b a → AmongEntries n b → a < n
named_below n b a (inl e) l = subst (AmongEntries n) e l
named_below n b a (inr e) l = subst (AmongEntries n) e l

module _ (F : Fabric) (x : ℕ) (h : Header) (i : ℕ) (number : i < F.entries) where
  -- the number of entries stands for 'none'
  pub better_first : (b : Takers) → b ≡ Nobody → candidate F x h i ≡ true → Better F x h i b (One i)
  better_first b none d = rw none (record {
    best_then = λ c. best_take F x h i F.entries false c number d (λ l. absurd (omega arith));
    within = number;
  })

  -- a's priority is p, entry i's is q
  module _ (b : Takers) (a : ℕ) (is : Names b a) (within : AmongEntries F.entries b) {p q : ℕ}
      (hp : p ≡ priority_of F a) (hq : q ≡ priority_of F i) where
    best_of : IsBest F x h i b → BestSoFar F x h i a (is_tied b)
    best_of c = subst (λ (e : ℕ). BestSoFar F x h i e (is_tied b)) (named_entry F.entries b a is) c

    pub better_take : candidate F x h i ≡ true → outranks q p ≡ true → Better F x h i b (One i)
    better_take d o = record {
      best_then = λ c. best_take F x h i a (is_tied b) (best_of c) number d (λ l. omega (arith, ltb-true p q o));
      within = number;
    }

    pub better_keep : outranks p q ≡ true → Better F x h i b b
    better_keep o = record {
      best_then = λ c.
          subst (λ (e : ℕ). BestSoFar F x h (i + 1) e (is_tied b)) (sym (named_entry F.entries b a is))
          (best_keep F x h i a (is_tied b) (best_of c) (named_below F.entries b a is within) (omega (arith, ltb-true q p o)));
      within = within;
    }

    pub better_tie : candidate F x h i ≡ true → outranks q p ≡ false → outranks p q ≡ false → Better F x h i b (Several a)
    better_tie d o u = record {
      best_then = λ c.
          best_tie F x h i a (is_tied b) (best_of c) (named_below F.entries b a is within) d
          (omega (arith, ltb-false p q o, ltb-false q p u));
      within = named_below F.entries b a is within;
    }

-- ---- all entries are passed

pub taken_by : (F : Fabric) (x : ℕ) (h : Header) (b : Takers) → AmongEntries F.entries b → IsBest F x h F.entries b → Takes F x h b
taken_by F x h Nobody l c = best_none F x h F.entries false c (λ m. omega arith)
taken_by F x h (One e) l c = (l, best_alone F x h e false c l refl)
taken_by F x h (Several e) l c = (l, best_several F x h e true c l refl)
