-- Demand 3 of the finds: a pair of edge port and header that arrives by some entries is in just one find by those entries, and each packet
-- of a find arrives by its entries. Assumes nothing.
use mathlib.Core.Bool.{true, ◌&&◌}
use mathlib.Core.List.{List, Memᴰ, reverse, reverse-reverse}
use mathlib.Core.Path.{◌≡◌, ap, ap₂, ◌∙◌}
use Prim.Native.Nat.{ℕ}
use native.Mathlib.Omega.{arith}
use borrow.Author.Tests.{le-leb, leb-true}
use lib.Dec.{leb}
use lib.ListN.{length, length-reverse}
use Rattle.headers.specs.Bits.{Words}
use Rattle.headers.specs.Sets.{Header, Set, contains, WellFormed}
use Rattle.headers.specs.Carving.{one}
use Rattle.headers.proofs.Booleans.{and_fst, and_snd, refuted}
use Rattle.forwarding.specs.Fabric.{Fabric, Sound}
use Rattle.forwarding.specs.Run.{left, run, fate_of, taken_by, entries_taken}
use Rattle.forwarding.specs.Choices.{EndsIn, CanEnd, Arrives}
use Rattle.forwarding.specs.Trace.{Find, finds, trace, finds_by}
use Rattle.forwarding.proofs.Ways.{goes, CanGo}
use Rattle.forwarding.proofs.WayByWay.{finds_by_way}
use Rattle.forwarding.proofs.Finds.{find_sound}
use Rattle.forwarding.proofs.RunWays.{arrives_way, way_arrives}
use Rattle.forwarding.proofs.Choices.{run_only_end}

module _ (f : Fabric) (sound : Sound f) (limit target : ℕ) (asked : Set) (edge : f.is_edge target ≡ true)
    (wa : WellFormed f.words asked) where
  -- a pair that arrives by the entries q is in just one find by those entries
  pub arrival_found : (p : ℕ) (q : List ℕ) (h : Header) → f.is_edge p ≡ true → Words f.words h
      → Arrives f limit target asked p q h → finds_by f.words p q h (finds (trace f limit target asked)) ≡ 1
  arrival_found p q h pe w a =
      let c = arrives_way f sound p h limit target asked q a in
      finds_by_way f sound p h pe w limit target asked wa q ∙ ap one (ap₂ ◌&&◌ (le-leb _ _ c.short) c.goes_there)

  -- a pair that does not is in none
  pub else_none : (p : ℕ) (q : List ℕ) (h : Header) → f.is_edge p ≡ true → Words f.words h
      → ¬ Arrives f limit target asked p q h → finds_by f.words p q h (finds (trace f limit target asked)) ≡ 0
  else_none p q h pe w n =
      finds_by_way f sound p h pe w limit target asked wa q
      ∙ ap one (refuted _ (λ t. n (way_arrives f sound p h limit target asked q edge (way t))))
    where
      way : (leb (length q) limit && goes f p h (reverse q) target asked) ≡ true → CanGo f limit target asked p q h
      way t = record { short = leb-true _ _ (and_fst _ _ t); goes_there = and_snd (leb (length q) limit) _ t }

  -- every packet of a find arrives, by its entries
  pub find_arrives : (d : Find) → Memᴰ d (finds (trace f limit target asked)) → (h : Header) → Words f.words h
      → contains f.words d.set h ≡ true → Arrives f limit target asked d.port d.path h
  find_arrives d m h w e =
      way_arrives f sound d.port h limit target asked d.path edge (find_sound f sound limit target asked wa d m h w e)

-- if the run of a pair that arrives by some entries is not tied, those entries took it
pub arrival_run : (f : Fabric) (limit target : ℕ) (asked : Set) (p : ℕ) (q : List ℕ) (h : Header)
    → Arrives f limit target asked p q h → ¬ (fate_of f (run f limit p h) ≡ 4) → entries_taken (run f limit p h) ≡ q
unfolding EndsIn taken_by
arrival_run f limit target asked p q h a n =
    let end : CanEnd f limit p h (left target a.header (reverse q)) =
    record { can_be = a.leaves; ends = omega (arith, a.within, length-reverse q) } in
    ap entries_taken (run_only_end f p h limit _ n end) ∙ reverse-reverse q
