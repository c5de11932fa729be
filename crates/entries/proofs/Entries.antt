-- An entry's own bytes of an accepted file, and what the file's fabric says of that entry. Assumes nothing.
use mathlib.Core.List.{List}
use mathlib.Core.Path.{◌≡◌, refl, ap, ap₂, subst}
use Prim.Native.Nat.{ℕ, ◌+◌, ◌-◌, ◌*◌, ◌≤◌, ◌<◌}
use native.Mathlib.Omega.{arith}
use borrow.Author.Tests.{lt-ltb}
use lib.ListN.{length, take, drop}
use Rattle.headers.specs.Sets.{Set, WellFormed}
use Rattle.headers.specs.Actions.{padded_act, before}
use Rattle.headers.proofs.Padded.{well_formed_padded}
use Rattle.layout.specs.Words.{bytes_from}
use Rattle.layout.specs.Records.{width_in, match_at, entry_words, entry_in, entry_priority, place_of, EntryLong}
use Rattle.layout.specs.Shape.{Shape}
use Rattle.layout.proofs.Widths.{width_is}
use Rattle.wide.specs.Forms.{wide_words, widest, stored_at}
use Rattle.file.proofs.Accepted.{few_entries, entry_inside, entry_of}
use Rattle.forwarding.specs.Fabric.{Entry, in_port_of, priority_of, undoes}
use Rattle.forwarding.specs.BackTrace.{back}
use Rattle.model.specs.Model.{AFabric, shape_read, shape_in, entry_from, fabric_of, fabric_in, wide_in, entries_at}
use Rattle.entries.specs.Entries.{IsEntry, back_from}

pub words_are : (f : List ℕ) → (fabric_in f).words ≡ width_in f
unfolding fabric_in fabric_of
words_are f = refl

module _ {f : List ℕ} (a : AFabric f) where
  pub shape_is : shape_in f ≡ a.shape
  unfolding shape_in
  shape_is = ap shape_read a.is_accepted

  entries_are : (fabric_in f).entries ≡ a.shape.entries
  unfolding fabric_in fabric_of
  entries_are = ap (λ (s : Shape). s.entries) shape_is

  pub entries_few : (fabric_in f).entries ≤ 512
  entries_few = rw entries_are (few_entries f a.shape a.is_accepted)

  begins : entries_at f ≡ 4 * place_of (width_in f) a.shape.edges a.shape.links 0
  unfolding entries_at
  begins = ap (λ (s : Shape). 4 * place_of (width_in f) s.edges s.links 0) shape_is

  module _ {e : ℕ} (l : e < (fabric_in f).entries) where
    below : e < a.shape.entries
    below = rw entries_are at l

    module _ (n : ℕ) (is : n ≡ 4 * entry_words (width_in f)) where
      -- entry e's n bytes lie in the file
      pub entry_room : entries_at f + e * n + n ≤ length f
      entry_room = rw is (omega (arith, begins, entry_inside f a.shape a.is_accepted e below))

      -- and are those from there on
      pub entry_part : (k : ℕ) → k ≡ entries_at f + e * n → IsEntry f e (take (k + n - k) (drop k f))
      unfolding bytes_from
      entry_part k h =
          let size : k + n - k ≡ 4 * entry_words (width_in f) = omega arith in
          let place : k ≡ 4 * place_of (width_in f) a.shape.edges a.shape.links e = omega (arith, begins, rw is at h) in
          record { within = l; bytes = rw (shape_is, size, place) }

    pub match_well_formed : WellFormed (width_in f) ((fabric_in f).entry e).matches
    unfolding fabric_in fabric_of
    match_well_formed = rw (lt-ltb e (shape_in f).entries l, shape_is) (entry_of f a.shape a.is_accepted e below).matches

    -- the same with wild words up to eight
    pub wide_match_well_formed : WellFormed wide_words ((wide_in f).entry e).matches
    wide_match_well_formed =
        let sum : width_in f + (wide_words - width_in f) ≡ wide_words = omega (arith, (width_is f).high) in
        rw (words_are f) (subst (λ (n : ℕ). WellFormed n (widest (width_in f) ((fabric_in f).entry e).matches)) sum
        (well_formed_padded (width_in f) (wide_words - width_in f) ((fabric_in f).entry e).matches match_well_formed))

  module _ {e : ℕ} {x : List ℕ} (i : IsEntry f e x) where
    pub entry_long : EntryLong (width_in f) x
    entry_long = record { width = width_is f; long = long }
      where
        long : length x ≡ 4 * entry_words (width_in f)
        long = rw (i.bytes, shape_is) (entry_of f a.shape a.is_accepted e (below i.within)).long

    pub entry_is : (fabric_in f).entry e ≡ entry_from (width_in f) x
    unfolding fabric_in fabric_of
    entry_is =
        let t = lt-ltb e (shape_in f).entries i.within in
        rw (t, ← i.bytes)

    pub in_port_is : in_port_of (fabric_in f) e ≡ entry_in x
    in_port_is = ap (λ (y : Entry). y.in_port) entry_is

    pub priority_is : priority_of (fabric_in f) e ≡ entry_priority x
    priority_is = ap (λ (y : Entry). y.priority) entry_is

    pub match_is : ((wide_in f).entry e).matches ≡ stored_at (width_in f) x match_at
    match_is = ap₂ (λ (n : ℕ) (y : Entry). widest n y.matches) (words_are f) entry_is

    -- what the entry takes at its in-port and makes into headers of t
    pub back_is : (t : Set) → back (wide_in f) e t ≡ back_from (width_in f) x t
    unfolding back undoes before
    back_is t =
        ap₂ (λ (n : ℕ) (y : Entry). before wide_words (widest n y.matches) (padded_act (wide_words - n) y.action) t)
        (words_are f) entry_is
