-- The theorems at work on the example with a link: its fabric is sound, so their conditions can be met, and from its computed trace
-- every header arrives. Assumes nothing.
use mathlib.Core.Bool.{Bool, true, false, ◌||◌, cond, true≢false}
use mathlib.Core.List.Memᴰ
use mathlib.Core.List.{List, [], ◌∷◌}
use mathlib.Core.Path.{◌≡◌, refl, sym, ap, ◌∙◌}
use Prim.Native.Nat.{ℕ, zero, suc, ◌^◌, ◌<◌}
use native.Mathlib.Omega.{arith}
use borrow.Author.Tests.{ltb-true, eq-eqb, eqb-true}
use lib.Dec.{eqb, ltb}
use lib.ListN.{length}
use Rattle.headers.specs.Bits.{word, every, Words}
use Rattle.headers.specs.Sets.{Header, WellFormed, Written, all_wild}
use Rattle.headers.proofs.Members.{all_wild_well_formed, all_wild_contains}
use Rattle.headers.proofs.Positions.{every_at}
use Rattle.forwarding.specs.Fabric.{Sound}
use Rattle.forwarding.specs.Choices.{Arrives}
use Rattle.forwarding.specs.Trace.{finds}
use Rattle.forwarding.specs.Examples.{two_hops, two_hops_back}
use Rattle.forwarding.proofs.Arrivals.{find_arrives}

-- words and sets that are well-formed by computing
words_by : (l : List ℕ) → length l ≡ 4 → every 4 (λ w. ltb (word l w) (2 ^ 32)) ≡ true → Words 4 l
words_by l e d = record { long = e; fits = λ w m. ltb-true _ _ (every_at 4 (λ w. ltb (word l w) (2 ^ 32)) d w m) }

-- across the link and back
there_and_back : (a b x y : ℕ) (t : Bool) → eqb x b ≡ t → cond t a 0 ≡ suc y → cond (eqb (suc y) a) b 0 ≡ x
there_and_back a b x y true e d = rw (eq-eqb (suc y) a (sym d)) (sym (eqb-true x b e))
there_and_back a b x y false e d = absurd (omega arith)

-- no link at an edge port
inner : (a b x : ℕ) (t : Bool) → eqb x a ≡ t → two_hops.is_edge a ≡ false → two_hops.is_edge x ≡ true → cond t b 0 ≡ 0
inner a b x true e i d = absurd (true≢false (sym d ∙ ap two_hops.is_edge (eqb-true x a e) ∙ i))
inner a b x false e i d = refl

sound : Sound two_hops
sound = record {
  two_words = omega arith;
  zero_no_edge = refl;
  zero_begins_none = refl;
  zero_ends_none = refl;
  begins_once = λ x y. there_and_back 3 4 x y (eqb x 4) refl;
  ends_once = λ y x. there_and_back 4 3 y x (eqb y 3) refl;
  edge_begins_none = λ x. inner 3 4 x (eqb x 3) refl refl;
  edge_ends_none = λ x. inner 4 3 x (eqb x 4) refl refl;
  edge_below = λ x d. edge x (eqb x 1) (eqb x 2) refl refl d;
  end_below = λ x y d. end x y (eqb x 4) refl d;
  match_well_formed = match;
  admitted_well_formed = λ x. all_wild_well_formed 4;
  rewrite_written = rewrite;
}
  where
    edge : (x : ℕ) (a b : Bool) → eqb x 1 ≡ a → eqb x 2 ≡ b → (a || b) ≡ true → x < 8
    edge x true b p q d = omega (arith, eqb-true x 1 p)
    edge x false true p q d = omega (arith, eqb-true x 2 q)
    edge x false false p q d = absurd (true≢false (sym d))

    end : (x y : ℕ) (a : Bool) → eqb x 4 ≡ a → cond a 3 0 ≡ suc y → x < 8
    end x y true p d = omega (arith, eqb-true x 4 p)
    end x y false p d = absurd (omega arith)

    match : (e : ℕ) → WellFormed 4 (two_hops.entry e).matches
    match zero = all_wild_well_formed 4
    match (suc zero) = record { care = words_by _ refl refl; value = words_by _ refl refl; is_tidy = refl }
    match (suc (suc e)) = all_wild_well_formed 4

    rewrite : (e : ℕ) → Written 4 (two_hops.entry e).action.rewrite
    rewrite zero = record { mask = words_by _ refl refl; value = words_by _ refl refl }
    rewrite (suc zero) = record { mask = words_by _ refl refl; value = words_by _ refl refl }
    rewrite (suc (suc e)) = record { mask = words_by _ refl refl; value = words_by _ refl refl }

-- with any header a packet from edge port 1 leaves at edge port 2
every_header_arrives : (h : Header) → Words 4 h → Arrives two_hops 2 2 (all_wild 4) 1 (0 ∷ 1 ∷ []) h
unfolding finds
every_header_arrives h w =
    find_arrives two_hops sound 2 2 (all_wild 4) refl (all_wild_well_formed 4)
    (record { port = 1; path = 0 ∷ 1 ∷ []; set = all_wild 4 })
    (rw two_hops_back (Memᴰ.head refl)) h w (all_wild_contains 4 h)
