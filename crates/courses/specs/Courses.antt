-- Several actions one after the other are one of a wider form, a course, which is undone in one step (H19). Over n words.
use Rattle.std.specs.Prelude.{List, [], ◌∷◌, ℕ, zero, suc}
use Rattle.std.proofs.Math.Option.{Option, some, bind}
use Rattle.std.specs.Int.Bits.{bit_or}
use Rattle.headers.specs.Bits.{word, words}
use Rattle.headers.specs.Sets.{Header, Set, Rewrite, overwrite, all_wild, intersection, no_rewrite, rewritten, undone}
use Rattle.headers.specs.Actions.{Act, moved, copied, swapped, acted, wanted_of, unacted}
use Rattle.headers.specs.declared.Transfer.{Transfer}
use Rattle.headers.specs.declared.Transfer.TheVariants.{Keep, Copy, Swap}

-- H19: for each word the word that it comes from, and then a rewrite
pub record Course : Type 0 where
  pub from : List ℕ
  pub rewrite : Rewrite

-- what a course makes of a header
abbrev pub coursed : ℕ → Course → Header → Header
coursed n c h = rewritten n c.rewrite (moved n (word c.from) h)

-- what t wants of its first v words, each wanted of the word that it comes from; several wants may meet in one word, and be empty
unfoldable pub gathered : ℕ → (ℕ → ℕ) → Set → ℕ → Option Set
gathered n from t zero = some (all_wild n)
gathered n from t (suc v) = bind (gathered n from t v) (λ s. intersection n s (wanted_of n (from v) v t))

-- H19: the headers that a course takes into a set
unfoldable pub uncoursed : ℕ → Course → Set → Option Set
uncoursed n c t = bind (undone n c.rewrite t) (λ s. gathered n (word c.from) s n)

-- ---- actions as courses

-- the word that a transfer brings to word w
abbrev pub source : Transfer → ℕ → ℕ
source Keep w = w
source Copy w = copied w
source Swap w = swapped w

-- one action
abbrev pub course_of : ℕ → Act → Course
course_of n a = record { from = words n (source a.transfer); rewrite = a.rewrite }

-- c, and then d
abbrev pub followed : ℕ → Course → Course → Course
followed n c d = record {
  from = words n (λ w. word c.from (word d.from w));
  rewrite = record {
    mask = words n (λ w. bit_or (word c.rewrite.mask (word d.from w)) (word d.rewrite.mask w));
    value = words n (λ w.
        overwrite (word d.rewrite.mask w) (word d.rewrite.value w) (word c.rewrite.value (word d.from w)));
  };
}

-- the actions of a path, in travelling order
unfoldable pub course_of_all : ℕ → List Act → Course
course_of_all n [] = record { from = words n (λ w. w); rewrite = no_rewrite n }
course_of_all n (a ∷ later) = followed n (course_of n a) (course_of_all n later)

-- ---- the same one by one

-- what the actions make of a header
unfoldable pub acted_all : ℕ → List Act → Header → Header
acted_all n [] h = h
acted_all n (a ∷ later) h = acted_all n later (acted n a h)

-- the headers that they take into a set: the latest is undone first
unfoldable pub unacted_all : ℕ → List Act → Set → Option Set
unacted_all n [] t = some t
unacted_all n (a ∷ later) t = bind (unacted_all n later t) (unacted n a)
