-- D3g: a pair of edge port and header that is lost by some entries is in just one find by those entries of the trace of the lost, and each
-- packet of a find is lost by its entries. Nothing here asks that one entry alone takes a header.
use mathlib.Core.Bool.{Bool, true, false, ◌&&◌, ◌||◌, false≢true, and-false, or-true}
use mathlib.Core.List.Memᴰ
use mathlib.Core.List.{List, [], ◌∷◌, reverse, Memᴰ}
use mathlib.Core.Path.{◌≡◌, refl, sym, ap, ap₂, ◌∙◌, subst}
use Prim.Native.Nat.{ℕ, zero, suc, ◌*◌, ◌<◌}
use native.Mathlib.Nat.{mul-zero}
use native.Mathlib.Omega.{arith}
use borrow.Author.Tests.{eq-eqb, ne_eqb, lt-ltb, ltb-true}
use lib.Dec.{eqb, ltb, leb, leb-suc-suc, leb-suc-zero}
use lib.ListN.{length}
use Rattle.headers.specs.Bits.{Words}
use Rattle.headers.specs.Sets.{Header, Set, contains, WellFormed}
use Rattle.headers.specs.Carving.{one}
use Rattle.headers.proofs.Booleans.{and_fst, and_snd, refuted}
use Rattle.forwarding.specs.Fabric.{Fabric, Sound}
use Rattle.forwarding.specs.Run.{fate_of}
use Rattle.forwarding.specs.Choices.{untaken, Loses}
use Rattle.forwarding.specs.BackTrace.{survivors}
use Rattle.forwarding.specs.Trace.{Find, finds, at_in_port, stop, is_in_port, in_ports, entries_in, lost_at, lost_trace, finds_by}
use Rattle.forwarding.proofs.Lists.{All, flat_map_member, total, total_times, total_zero, total_only, one_true, holders_total}
use Rattle.forwarding.proofs.BackTraced.{survivors_well_formed, survivors_exact}
use Rattle.forwarding.proofs.Misses.{none_holds, none_held, none_taken}
use Rattle.forwarding.proofs.Ways.{Place, nowhere, at, departs, to_port, onward, stands, is_at, FitsAt, stands_fits, stood_entries}
use Rattle.forwarding.proofs.WaysBack.{found_at, ways_back, onto, finds_flat_map, finds_carved, finds_part, EdgeSet, found_edge_set}
use Rattle.forwarding.proofs.WaysBack.{find_edge_set}
use Rattle.forwarding.proofs.WayByWay.{finds_by_each, factor, part_by_way}
use Rattle.forwarding.proofs.Finds.{find_counts}
use Rattle.forwarding.proofs.RunWays.{Went, went, stands_can_be}

-- the packet stands where no match holds it, with a header in t
unfoldable pub loses_at : Fabric → Place → Set → Bool
loses_at f nowhere t = false
loses_at f (at x g) t = contains f.words t g && none_holds f x g

-- ---- way by way

module _ (f : Fabric) (sound : Sound f) (p : ℕ) (h : Header) (edge : f.is_edge p ≡ true) (w : Words f.words h) where
  -- a packet stands only at edge ports and link ends
  InPort : Place → Type 0
  InPort nowhere = Unit {0}
  InPort (at x g) = (x < f.ports) × (is_in_port f x ≡ true)

  stands_in_port : (r : List ℕ) → InPort (stands f p h r)
  unfolding InPort stands onward
  stands_in_port [] = (sound.edge_below p edge, ap (λ (b : Bool). b || ltb 0 (f.link_from p)) edge)
  stands_in_port (e ∷ r) = go (departs f e (stands f p h r))
    where
      go : (s : Place) → InPort (onward f s)
      go nowhere = tt
      go (at o g) = on (f.link_to o) o refl
        where
          on : (z o : ℕ) → f.link_to o ≡ z → InPort (to_port f z g)
          on zero o d = tt
          on (suc z) zero d = absurd (let c : 0 ≡ suc z = sym sound.zero_begins_none ∙ d in omega arith)
          on (suc z) (suc o) d =
              let back = sound.ends_once (suc o) z d in
              (sound.end_below (suc z) o back, rw (back, lt-ltb 0 (suc o) (omega arith)) (or-true (f.is_edge (suc z))))

  -- the finds by the entries q, in travelling order: one if the packet is lost that way, and else none
  pub lost_by_way : (limit : ℕ) (asked : Set) → WellFormed f.words asked → (q : List ℕ)
      → finds_by f.words p q h (finds (lost_trace f limit asked))
      ≡ one (ltb (length q) limit && loses_at f (stands f p h (reverse q)) asked)
  unfolding lost_trace lost_at finds finds_by total is_at loses_at InPort
  lost_by_way zero asked wa q = rw (leb-suc-zero (length q))
  lost_by_way (suc k) asked wa q =
      ap (finds_by n p q h) (finds_flat_map (lost_at f (stop f k) asked) (in_ports f))
      ∙ finds_by_each n p q h (λ x. finds (lost_at f (stop f k) asked x)) (in_ports f)
      ∙ go (stands f p h (reverse q)) (stands_fits f sound p h w (reverse q)) (stands_in_port (reverse q))
      (λ x s ws. part_by_way f sound p h edge w k x s ws q)
      ∙ rw (leb-suc-suc (length q) k)
    where
      n : ℕ
      n = f.words

      short : Bool
      short = leb (length q) k

      left_at : ℕ → List Set
      left_at x = survivors f (entries_in f x) asked

      part_finds : ℕ → Set → ℕ
      part_finds x s = finds_by n p q h (finds (at_in_port f (stop f k) x [] s))

      port_finds : ℕ → ℕ
      port_finds x = finds_by n p q h (finds (lost_at f (stop f k) asked x))

      port_parts : (x : ℕ) → port_finds x ≡ total (part_finds x) (left_at x)
      port_parts x =
          ap (finds_by n p q h) (finds_carved f (at_in_port f (stop f k) x []) (entries_in f x) asked)
          ∙ finds_by_each n p q h (λ s. finds (at_in_port f (stop f k) x [] s)) (left_at x)

      go : (a : Place) → FitsAt f a → InPort a
          → ((x : ℕ) (s : Set) → WellFormed n s → part_finds x s ≡ one (short && is_at f a x s))
          → total port_finds (in_ports f) ≡ one (short && loses_at f a asked)
      go nowhere v i each = total_zero _ (in_ports f) (λ x. port_parts x
          ∙ total_times (part_finds x) (λ s. 0) 0 (left_at x)
          (λ s m. each x s (survivors_well_formed f sound (entries_in f x) asked wa s m) ∙ rw and-false)
          ∙ mul-zero _)
          ∙ rw and-false
      go (at y g) v i each =
          total_only port_finds (is_in_port f) f.ports y (λ x d. port_is x ∙ rw (ne_eqb y x d, and-false) (mul-zero _))
          ∙ rw (lt-ltb y f.ports i.0, i.1, port_is y, eq-eqb y y refl)
          (let z = sym (factor short true (contains n asked g && none_holds f y g)) in omega arith)
        where
          port_is : (x : ℕ) → port_finds x ≡ one (contains n asked g && none_holds f x g) * one (short && eqb y x)
          port_is x =
              port_parts x
              ∙ total_times (part_finds x) (λ s. one (contains n s g)) (one (short && eqb y x)) (left_at x)
              (λ s m. each x s (survivors_well_formed f sound (entries_in f x) asked wa s m) ∙ factor short (eqb y x) (contains n s g))
              ∙ ap (λ (m : ℕ). m * one (short && eqb y x))
              (sym (holders_total n (left_at x) g) ∙ survivors_exact f sound g (entries_in f x) asked wa)

-- every find is a well-formed set at an edge port
pub lost_edge_set : (f : Fabric) → Sound f → (limit : ℕ) (asked : Set) → WellFormed f.words asked
    → (d : Find) → Memᴰ d (finds (lost_trace f limit asked)) → EdgeSet f d
unfolding lost_trace lost_at finds
lost_edge_set f sound zero asked wa d m = absurd (Memᴰ.not-nil m)
lost_edge_set f sound (suc k) asked wa d m =
    let through = flat_map_member _ (in_ports f) (subst (Memᴰ d) (finds_flat_map (lost_at f (stop f k) asked) (in_ports f)) m) in
    let x : ℕ = through.0 in
    let part = flat_map_member _ (survivors f (entries_in f x) asked)
    (subst (Memᴰ d) (finds_carved f (at_in_port f (stop f k) x []) (entries_in f x) asked) through.2) in
    let a = Memᴰ.of_map (onto []) (found_at f (ways_back f k) x part.0)
    (subst (Memᴰ d) (finds_part f k x [] part.0) part.2) in
    let wp = survivors_well_formed f sound (entries_in f x) asked wa part.0 part.1 in
    let c = found_edge_set f sound k (find_edge_set f sound k) x part.0 wp a.0 a.1 in
    subst (EdgeSet f) a.2 (record { edge = c.edge; well_formed = c.well_formed })

-- ---- lost

-- under OpenFlow 1.0
module _ (f : Fabric) (sound : Sound f) (old : f.miss_drops ≡ false) (limit : ℕ) (asked : Set) where
  module _ (p : ℕ) (q : List ℕ) (h : Header) where
    -- a packet is lost where no match holds it
    loss_way : Loses f limit asked p q h → (ltb (length q) limit && loses_at f (stands f p h (reverse q)) asked) ≡ true
    unfolding Went loses_at
    loss_way l =
        let there = went f sound p h l.misses in
        ap₂ ◌&&◌ (lt-ltb _ _ l.within)
        (rw there.0 (ap₂ ◌&&◌ l.in_asked (none_taken f l.at_port l.header_then there.1)))

    way_loss : (ltb (length q) limit && loses_at f (stands f p h (reverse q)) asked) ≡ true → Loses f limit asked p q h
    unfolding loses_at fate_of
    way_loss c = go (stands f p h (reverse q)) refl (and_snd (ltb (length q) limit) _ c)
      where
        go : (s : Place) → stands f p h (reverse q) ≡ s → loses_at f s asked ≡ true → Loses f limit asked p q h
        go nowhere a d = absurd (false≢true d)
        go (at x g) a d = record {
          within = ltb-true _ _ (and_fst _ _ c);
          at_port = x;
          header_then = g;
          misses =
              untaken x g (reverse q) (stands_can_be f sound p h (reverse q) x g a)
              (none_held f x g (and_snd (contains f.words asked g) _ d));
          is_lost = rw old refl;
          in_asked = and_fst _ _ d;
        }

    -- its entries are entries of the fabric
    pub loss_entries : Loses f limit asked p q h → All (λ e. e < f.entries) q
    unfolding Went
    loss_entries l = stood_entries f p h q (went f sound p h l.misses).0

  module _ (wa : WellFormed f.words asked) where
    -- a pair that is lost by the entries q is in just one find by those entries
    pub loss_found : (p : ℕ) (q : List ℕ) (h : Header) → f.is_edge p ≡ true → Words f.words h
        → Loses f limit asked p q h → finds_by f.words p q h (finds (lost_trace f limit asked)) ≡ 1
    loss_found p q h pe w l = lost_by_way f sound p h pe w limit asked wa q ∙ ap one (loss_way p q h l)

    -- a pair that is not is in none
    pub else_none : (p : ℕ) (q : List ℕ) (h : Header) → f.is_edge p ≡ true → Words f.words h
        → ¬ Loses f limit asked p q h → finds_by f.words p q h (finds (lost_trace f limit asked)) ≡ 0
    else_none p q h pe w n = lost_by_way f sound p h pe w limit asked wa q ∙ ap one (refuted _ (λ t. n (way_loss p q h t)))

    -- every packet of a find is lost, by its entries
    pub find_loses : (d : Find) → Memᴰ d (finds (lost_trace f limit asked)) → (h : Header) → Words f.words h
        → contains f.words d.set h ≡ true → Loses f limit asked d.port d.path h
    find_loses d m h w e =
        let counted = find_counts f.words (finds (lost_trace f limit asked)) d m h e in
        let is = lost_by_way f sound d.port h (lost_edge_set f sound limit asked wa d m).edge w limit asked wa d.path in
        way_loss d.port d.path h (one_true _ (omega (arith, counted, is)))
