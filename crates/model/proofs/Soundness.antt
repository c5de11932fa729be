-- The fabric of an accepted file is sound: what questions 4 to 6 give of it. Assumes nothing.
use mathlib.Core.Bool.{Bool, true, false}
use mathlib.Core.List.{List}
use mathlib.Core.Path.{◌≡◌, refl, sym, ap, ◌∙◌, subst}
use Prim.Native.Nat.{ℕ, zero, suc, ◌≤◌, ◌<◌}
use native.Mathlib.Decide.{dec_lt}
use native.Mathlib.Omega.{arith}
use lib.Dec.{ltb}
use borrow.Author.Tests.{lt-ltb, le-ltb}
use Rattle.headers.specs.Sets.{WellFormed, Written, all_wild}
use Rattle.headers.proofs.Members.{all_wild_well_formed, no_bits}
use Rattle.layout.specs.Records.{width_in, edge_admitted, port_of_edge, from_of_link, to_of_link, edge_bytes, entry_bytes, recent}
use Rattle.layout.specs.Shape.{Shape}
use Rattle.layout.proofs.Widths.{width_is}
use Rattle.questions.specs.Questions.{pick}
use Rattle.questions.specs.Tables.{number}
use Rattle.questions.proofs.Lists.{number_is, number_has}
use Rattle.file.specs.Accepted.{Accepted}
use Rattle.file.proofs.Accepted.{edge_port_low, link_from_low, link_to_low, froms_differ, tos_differ}
use Rattle.file.proofs.Accepted.{no_edge_at_from, no_edge_at_to, edge_of, entry_of}
use Rattle.forwarding.specs.Fabric as Forwarding
use Rattle.forwarding.specs.Fabric.{Sound}
use Rattle.model.specs.Model.{under, entry_from, no_entry, edge_at, link_beginning, link_ending, fabric_of, fabric_in}
use Rattle.model.proofs.Shapes.{fabric_is, edge_there}

-- ---- links found by one of their ports

-- the other port of the link with the port x, by number; 0 where no link has it
module _ (key other : ℕ → ℕ) (n : ℕ) (apart : (i j : ℕ) → i < j → j < n → other i ≡ other j → ⊥) (low : (i : ℕ)
    → i < n → 1 ≤ key i) where
  -- found by x, it is found by its other port, and gives x back
  across_back : (x y : ℕ) → under 0 other (number (recent key n) x) ≡ suc y → under 0 key (number (recent other n) (suc y)) ≡ x
  across_back x y = go (number (recent key n) x) refl
    where
      go : (m : ℕ) → number (recent key n) x ≡ m → under 0 other m ≡ suc y → under 0 key (number (recent other n) (suc y)) ≡ x
      go zero d e = absurd (omega arith)
      go (suc i) d e =
          let h = number_has key n x i d in
          ap (under 0 key) (ap (number (recent other n)) (sym e) ∙ number_is other n apart i h.0) ∙ h.1

  -- a port that no link has leads nowhere
  across_none : (x : ℕ) → ((i : ℕ) → i < n → key i ≡ x → ⊥) → under 0 other (number (recent key n) x) ≡ 0
  across_none x none = go (number (recent key n) x) refl
    where
      go : (m : ℕ) → number (recent key n) x ≡ m → under 0 other m ≡ 0
      go zero d = refl
      go (suc i) d = let h = number_has key n x i d in absurd (none i h.0 h.1)

module _ (f : List ℕ) (s : Shape) (ok : Accepted f s) where
  abbrev froms : ℕ → ℕ
  froms = from_of_link f s.edges

  abbrev tos : ℕ → ℕ
  tos = to_of_link f s.edges

  no_link_at_zero : (g : ℕ → ℕ) → ((i : ℕ) → i < s.links → 1 ≤ g i) → (i : ℕ) → i < s.links → g i ≡ 0 → ⊥
  no_link_at_zero g low i l e = let h = low i l in omega arith

  sound_of : Sound (fabric_of f s)
  unfolding fabric_of edge_at link_beginning link_ending
  sound_of = record {
    two_words = omega (arith, (width_is f).low);
    zero_no_edge = no_edge ((fabric_of f s).is_edge 0) refl;
    zero_begins_none =
        across_none froms tos s.links (tos_differ f s ok) (link_from_low f s ok) 0 (no_link_at_zero froms (link_from_low f s ok));
    zero_ends_none = across_none tos froms s.links (froms_differ f s ok) (link_to_low f s ok) 0 (no_link_at_zero tos (link_to_low f s ok));
    begins_once = λ x y. across_back tos froms s.links (froms_differ f s ok) (link_to_low f s ok) x y;
    ends_once = λ y x. across_back froms tos s.links (tos_differ f s ok) (link_from_low f s ok) y x;
    edge_begins_none = λ x e.
        let d = edge_there f s x e in
        across_none froms tos s.links (tos_differ f s ok) (link_from_low f s ok) x
        (λ j l q. no_edge_at_from f s ok d.number_then j d.below l (d.port_is ∙ sym q));
    edge_ends_none = λ x e.
        let d = edge_there f s x e in
        across_none tos froms s.links (froms_differ f s ok) (link_to_low f s ok) x
        (λ j l q. no_edge_at_to f s ok d.number_then j d.below l (d.port_is ∙ sym q));
    edge_below = λ x e. omega (arith, (edge_there f s x e).port_is);
    end_below = λ x y. end x y (number (recent tos s.links) x) refl;
    match_well_formed = λ e.
        by_entry (λ x. WellFormed (width_in f) x.matches) e (λ l. (entry_of f s ok e l).matches) (all_wild_well_formed (width_in f));
    admitted_well_formed = λ x. admitted x (number (recent (port_of_edge f) s.edges) x) refl;
    rewrite_written = λ e.
        by_entry (λ x. Written (width_in f) x.action.rewrite) e (λ l. (entry_of f s ok e l).rewrites)
        (record { mask = no_bits (width_in f); value = no_bits (width_in f) });
  }
    where
      no_edge : (b : Bool) → (fabric_of f s).is_edge 0 ≡ b → b ≡ false
      no_edge true e = let d = edge_there f s 0 e in let h = edge_port_low f s ok d.number_then d.below in absurd (omega (arith, d.port_is))
      no_edge false e = refl

      end : (x y m : ℕ) → number (recent tos s.links) x ≡ m → under 0 froms m ≡ suc y → x < 4096
      end x y zero d e = absurd (omega arith)
      end x y (suc i) d e = omega (arith, (number_has tos s.links x i d).1)

      by_entry : (P : Forwarding.Entry → Type 0) (e : ℕ) → (e < s.entries → P (entry_from (width_in f) (entry_bytes f s e)))
          → P (no_entry (width_in f))
          → P (pick (ltb e s.entries) (entry_from (width_in f) (entry_bytes f s e)) (no_entry (width_in f)))
      by_entry P e there past = go (dec_lt e s.entries)
        where
          go : Dec (e < s.entries) → P (pick (ltb e s.entries) (entry_from (width_in f) (entry_bytes f s e)) (no_entry (width_in f)))
          go (yes l) = rw (lt-ltb e s.entries l) (there l)
          go (no l) = rw (le-ltb e s.entries (omega arith)) past

      admitted : (x m : ℕ) → number (recent (port_of_edge f) s.edges) x ≡ m
          → WellFormed (width_in f) (under (all_wild (width_in f)) (λ i. edge_admitted (width_in f) (edge_bytes f i)) m)
      admitted x zero d = all_wild_well_formed (width_in f)
      admitted x (suc i) d = (edge_of f s ok i (number_has (port_of_edge f) s.edges x i d).0).admitted

-- the fabric of an accepted file is sound
pub fabric_sound : (f : List ℕ) (s : Shape) → Accepted f s → Sound (fabric_in f)
fabric_sound f s ok = subst Sound (sym (fabric_is f s ok)) (sound_of f s ok)
