-- Each find holds only packets that can go its way to the target, and each such packet is in a find. Assumes nothing.
use mathlib.Core.Bool.{true, ◌&&◌}
use mathlib.Core.List.Memᴰ
use mathlib.Core.List.{List, [], reverse, Memᴰ}
use mathlib.Core.Path.{◌≡◌, ap, ap₂, subst}
use Prim.Native.Nat.{ℕ, ◌<◌}
use native.Mathlib.Omega.{arith}
use borrow.Author.Tests.{eqb-true, le-leb, leb-true}
use lib.Dec.{eqb, leb}
use lib.ListN.{length}
use Rattle.headers.specs.Bits.{Words}
use Rattle.headers.specs.Sets.{Header, Set, contains, WellFormed}
use Rattle.headers.specs.Carving.{one}
use Rattle.headers.proofs.Booleans.{and_fst, and_snd}
use Rattle.forwarding.specs.Fabric.{Fabric, Sound}
use Rattle.forwarding.specs.Trace.{Find, finds, trace, same, finds_by}
use Rattle.forwarding.proofs.Lists.{member_total, total_member, one_true, same_equal}
use Rattle.forwarding.proofs.Ways.{goes, CanGo}
use Rattle.forwarding.proofs.WaysBack.{onto, ways_back, finds_stop, EdgeSet, find_edge_set}
use Rattle.forwarding.proofs.WayByWay.{holds_by, holds_own, finds_by_total, finds_by_way}

-- one of the finds, at port p and by the entries q, holds h
pub record Found (n : ℕ) (l : List Find) (p : ℕ) (q : List ℕ) (h : Header) : Type 0 where
  pub in_find : Find
  pub member : Memᴰ in_find l
  pub port : p ≡ in_find.port
  pub path : in_find.path ≡ q
  pub holds_it : contains n in_find.set h ≡ true

-- a find counts for each header that it holds
pub find_counts : (n : ℕ) (l : List Find) (d : Find) → Memᴰ d l → (h : Header) → contains n d.set h ≡ true
    → 0 < finds_by n d.port d.path h l
find_counts n l d m h e =
    let here : one (holds_by n d.port d.path h d) ≡ 1 = ap one (holds_own n h d e) in
    omega (arith, member_total (λ c. one (holds_by n d.port d.path h c)) l m, finds_by_total n d.port d.path h l)

module _ (f : Fabric) (sound : Sound f) (limit target : ℕ) (asked : Set) (wa : WellFormed f.words asked) where
  -- every find is a well-formed set at an edge port
  pub edge_set : (d : Find) → Memᴰ d (finds (trace f limit target asked)) → EdgeSet f d
  edge_set d m =
      let a = Memᴰ.of_map (onto []) (ways_back f limit target asked) (subst (Memᴰ d) (finds_stop f limit target asked []) m) in
      let c = find_edge_set f sound limit target asked wa a.0 a.1 in
      subst (EdgeSet f) a.2 (record { edge = c.edge; well_formed = c.well_formed })

  -- a packet of a find can go its way
  pub find_sound : (d : Find) → Memᴰ d (finds (trace f limit target asked)) → (h : Header) → Words f.words h
      → contains f.words d.set h ≡ true → CanGo f limit target asked d.port d.path h
  find_sound d m h w e =
      let counted = find_counts f.words (finds (trace f limit target asked)) d m h e in
      let is = finds_by_way f sound d.port h (edge_set d m).edge w limit target asked wa d.path in
      let c = one_true (leb (length d.path) limit && goes f d.port h (reverse d.path) target asked) (omega arith) in
      record { short = leb-true _ _ (and_fst _ _ c); goes_there = and_snd (leb (length d.path) limit) _ c }

  -- and a packet that can go a way is in a find with that path
  pub find_complete : (p : ℕ) (q : List ℕ) (h : Header) → f.is_edge p ≡ true → Words f.words h
      → CanGo f limit target asked p q h
      → Found f.words (finds (trace f limit target asked)) p q h
  find_complete p q h edge w c =
      let sum = finds_by_total f.words p q h (finds (trace f limit target asked)) in
      let is = finds_by_way f sound p h edge w limit target asked wa q in
      let yes : one (leb (length q) limit && goes f p h (reverse q) target asked) ≡ 1 =
      ap one (ap₂ ◌&&◌ (le-leb _ _ c.short) c.goes_there) in
      let m = total_member (λ d. one (holds_by f.words p q h d)) (finds (trace f limit target asked)) (omega arith) in
      let t = one_true _ m.2 in
      let s = and_snd (eqb p m.0.port) _ t in
      record {
        in_find = m.0;
        member = m.1;
        port = eqb-true _ _ (and_fst _ _ t);
        path = same_equal _ _ (and_fst _ _ s);
        holds_it = and_snd (same m.0.path q) _ s;
      }
