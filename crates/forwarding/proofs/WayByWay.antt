-- The finds of the trace are exact, way by way: for each list of entries there is one find with that path that holds the packet if the
-- packet can go that way, and else none. Nothing here asks that one entry alone takes a header. Assumes nothing.
use mathlib.Core.Bool.{Bool, true, false, not, ◌&&◌, cond, true≢false, and-false}
use mathlib.Core.List.{List, [], ◌∷◌, map, flat_map, reverse, Memᴰ}
use mathlib.Core.Path.{◌≡◌, refl, sym, ap, ap₂, ◌∙◌}
use Prim.Native.Nat.{ℕ, zero, suc, ◌+◌, ◌*◌}
use native.Mathlib.Nat.{mul-zero, mul-one}
use native.Mathlib.Omega.{arith}
use borrow.Author.Tests.{eq-eqb, ne_eqb}
use lib.Dec.{eqb, ltb, leb, leb-zero, leb-suc-zero, leb-suc-suc, eqb-suc-zero}
use lib.ListN.{length, length-reverse}
use Rattle.headers.specs.Bits.{Words}
use Rattle.headers.specs.Sets.{Header, Set, contains, WellFormed}
use Rattle.headers.specs.Carving.{one}
use Rattle.headers.proofs.Booleans.{◌==◌, same_true, always}
use Rattle.forwarding.specs.Fabric.{Fabric, Sound, in_port_of, out_port_of, entries_where, holds, applied}
use Rattle.forwarding.specs.Run.{unbeaten, takes}
use Rattle.forwarding.specs.BackTrace.{back_traced}
use Rattle.forwarding.specs.Trace.{Find, at_in_port, stop, finds, trace, same, finds_by}
use Rattle.forwarding.proofs.Lists.{total, total_times, total_zero, total_flat_map, total_map, total_only, one_and, holders_total}
use Rattle.forwarding.proofs.Lists.{same_refl, same_reverse}
use Rattle.forwarding.proofs.BackTraced.{back_traced_holders, back_traced_well_formed}
use Rattle.forwarding.proofs.Ways.{Place, nowhere, at, departs, stands, sent, is_at, goes, FitsAt, departs_at, stands_fits}
use Rattle.forwarding.proofs.Ways.{across_link}
use Rattle.forwarding.proofs.WaysBack.{later, over_link, found_at, found_before, ways_back, onto, finds_stop, finds_part}

-- a find at port p by the entries q that holds h
abbrev pub holds_by : ℕ → ℕ → List ℕ → Header → Find → Bool
holds_by n p q h d = eqb p d.port && (same d.path q && contains n d.set h)

-- a find holds its own headers so
pub holds_own : (n : ℕ) (h : Header) (d : Find) → contains n d.set h ≡ true → holds_by n d.port d.path h d ≡ true
holds_own n h d e = ap₂ ◌&&◌ (eq-eqb d.port d.port refl) (ap₂ ◌&&◌ (same_refl d.path) e)

-- how many finds do, as a sum
pub finds_by_total : (n p : ℕ) (q : List ℕ) (h : Header) (l : List Find)
    → finds_by n p q h l ≡ total (λ d. one (holds_by n p q h d)) l
unfolding finds_by total
finds_by_total n p q h [] = refl
finds_by_total n p q h (d ∷ l) = ap (λ (m : ℕ). one (holds_by n p q h d) + m) (finds_by_total n p q h l)

-- the finds of several lists are those of each together
pub finds_by_each : {A : Type 0} (n p : ℕ) (q : List ℕ) (h : Header) (g : A → List Find) (l : List A)
    → finds_by n p q h (flat_map g l) ≡ total (λ a. finds_by n p q h (g a)) l
finds_by_each n p q h g l =
    finds_by_total n p q h (flat_map g l)
    ∙ total_flat_map (λ d. one (holds_by n p q h d)) g l
    ∙ sym (λ i. total (λ a. finds_by_total n p q h (g a) i) l)

-- a header in one of the parts that are left, and where it stands
pub factor : (a b c : Bool) → one (a && (b && c)) ≡ one c * one (a && b)
factor a b c =
    ap one (same_true (a && (b && c)) (c && (a && b)) (always (λ a b c i j. (a && (b && c)) == (c && (a && b))) tt a b c true true))
    ∙ one_and c (a && b)

module _ (f : Fabric) (sound : Sound f) (p : ℕ) (h : Header) (edge : f.is_edge p ≡ true) (w : Words f.words h) where
  -- how many finds at port p by the entries r hold h
  abbrev found : List ℕ → List Find → ℕ
  found r l = total (λ d. one (holds_by f.words p r h d)) l

  -- the finds of the stop with k hops left, latest entries first
  Exactly : ℕ → Type 0
  Exactly k = (r : List ℕ) (o : ℕ) (t : Set) → WellFormed f.words t
      → found r (ways_back f k o t) ≡ one (leb (length r) k && goes f p h r o t)

  -- ---- a part at an in-port

  -- at an edge port a packet stands only where it started
  at_edge : (x : ℕ) (s : Set) → f.is_edge x ≡ true → (r : List ℕ)
      → is_at f (stands f p h r) x s ≡ (eqb p x && (same [] r && contains f.words s h))
  unfolding same stands is_at
  at_edge x s i [] = refl
  at_edge x s i (e ∷ r) = across_link f sound (departs f e (stands f p h r)) x s ∙ rw (sound.edge_ends_none x i, and-false)

  -- and elsewhere only after a link
  after_link : (x : ℕ) (s : Set) → f.is_edge x ≡ false → (r : List ℕ)
      → is_at f (stands f p h r) x s ≡ (not (eqb (f.link_from x) 0) && goes f p h r (f.link_from x) s)
  unfolding stands sent is_at
  after_link x s i [] = rw (ne_eqb p x (λ d. true≢false (sym edge ∙ ap f.is_edge d ∙ i)))
      (sym (and-false (not (eqb (f.link_from x) 0))))
  after_link x s i (e ∷ r) = across_link f sound (departs f e (stands f p h r)) x s

  -- the finds of a part s at in-port x: the packets that come to stand there with a header in s
  part_exact : (k : ℕ) → Exactly k → (r : List ℕ) (x : ℕ) (s : Set) → WellFormed f.words s
      → found r (found_at f (ways_back f k) x s) ≡ one (leb (length r) k && is_at f (stands f p h r) x s)
  unfolding Exactly found_at total same
  part_exact k ih r x s ws = go (f.is_edge x) (f.link_from x) refl refl
    where
      started : List ℕ → Bool
      started r = eqb p x && (same [] r && contains f.words s h)

      short : (r : List ℕ) → started r ≡ (leb (length r) k && started r)
      short [] = rw (leb-zero k)
      short (e ∷ r) = rw (and-false, and-false)

      go : (b : Bool) (y : ℕ) → f.is_edge x ≡ b → f.link_from x ≡ y
          → found r (cond b (record { port = x; path = []; set = s } ∷ []) (over_link f (ways_back f k) y s))
          ≡ one (leb (length r) k && is_at f (stands f p h r) x s)
      go true y i d = rw (at_edge x s i r, ← short r) (omega arith)
      go false zero i d = rw (after_link x s i r, d, and-false)
      go false (suc y) i d = rw (after_link x s i r, d, eqb-suc-zero y) (ih r (suc y) s ws)

  -- ---- one entry

  -- what entry e adds to a stop at o: the packets that it takes where they stand and sends out at o into t
  entry_exact : (k : ℕ) → Exactly k → (r : List ℕ) (e o : ℕ) (t : Set) → WellFormed f.words t
      → one (ltb e f.entries) * (one (eqb (out_port_of f e) o) * found r (found_before f (ways_back f k) t e))
      ≡ one (leb (length r) k && is_at f (departs f e (stands f p h r)) o t)
  unfolding departs is_at takes
  entry_exact k ih r e o t wt =
      ap (λ (m : ℕ). one (ltb e f.entries) * (one (eqb (out_port_of f e) o) * m)) (total_flat_map _ _ (back_traced f e t))
      ∙ go (stands f p h r) (stands_fits f sound p h w r) (λ s m. part_exact k ih r x s (back_traced_well_formed f sound e t wt s m))
    where
      x : ℕ
      x = in_port_of f e

      short : Bool
      short = leb (length r) k

      part_finds : Set → ℕ
      part_finds s = found r (found_at f (ways_back f k) x s)

      reorder : (a b c d i j : Bool) → (a && (b && ((c && d) && (i && j)))) ≡ (i && ((a && (j && c)) && (b && d)))
      reorder true b c d i j =
          same_true _ _ (always (λ b c d i j. (b && ((c && d) && (i && j))) == (i && ((j && c) && (b && d)))) tt b c d i j)
      reorder false b c d i j = sym (and-false i)

      -- by where the packet stands after r
      go : (a : Place) → FitsAt f a → ((s : Set) → Memᴰ s (back_traced f e t) → part_finds s ≡ one (short && is_at f a x s))
          → one (ltb e f.entries) * (one (eqb (out_port_of f e) o) * total part_finds (back_traced f e t)) ≡ one
          (short && is_at f (departs f e a) o t)
      go nowhere v each =
          rw (
            total_times part_finds (λ s. 0) 0 (back_traced f e t) (λ s m. each s m ∙ rw and-false),
            mul-zero,
            mul-zero,
            mul-zero,
            and-false,
          )
      go (at y g) v each =
          ap (λ (m : ℕ). one (ltb e f.entries) * (one (eqb (out_port_of f e) o) * m)) parts_that_hold
          ∙ rw (← one_and, ← one_and, ← one_and, departs_at)
          (ap one (reorder (ltb e f.entries) (eqb (out_port_of f e) o) (holds f e g && unbeaten f e g) (contains f.words t (applied f e g))
          short (eqb y x)))
        where
          parts_that_hold : total part_finds (back_traced f e t)
              ≡ one ((holds f e g && unbeaten f e g) && contains f.words t (applied f e g)) * one (short && eqb y x)
          parts_that_hold =
              total_times part_finds (λ s. one (contains f.words s g)) (one (short && eqb y x)) (back_traced f e t)
              (λ s m. each s m ∙ factor short (eqb y x) (contains f.words s g))
              ∙ ap (λ (m : ℕ). m * one (short && eqb y x)) (sym (holders_total f.words (back_traced f e t) g)
              ∙ back_traced_holders f sound e t wt g v)

  -- the latest entry of a find's path is the one through which it was found
  later_exact : (e c : ℕ) (r : List ℕ) (l : List Find) → found (e ∷ r) (map (later f c) l) ≡ found r l * one (eqb c e)
  unfolding same
  later_exact e c r l = total_map _ (later f c) l ∙ total_times _ _ (one (eqb c e)) l (λ d m.
      ap one (reorder (eqb p d.port) (eqb c e) (same d.path r) (contains f.words d.set h))
      ∙ one_and (holds_by f.words p r h d) (eqb c e))
    where
      reorder : (a b c d : Bool) → (a && ((b && c) && d)) ≡ ((a && (c && d)) && b)
      reorder a b c d = same_true _ _ (always (λ a b c d x. (a && ((b && c) && d)) == ((a && (c && d)) && b)) tt a b c d true)

  -- ---- all entries

  exact : (k : ℕ) → Exactly k
  unfolding Exactly ways_back total sent is_at same
  exact zero [] o t wt = refl
  exact zero (e ∷ r) o t wt = rw (leb-suc-zero (length r))
  exact (suc k) [] o t wt =
      total_flat_map _ _ (entries_where f (λ c. eqb (out_port_of f c) o))
      ∙ total_zero _ (entries_where f (λ c. eqb (out_port_of f c) o)) (λ c. total_map _ (later f c) (before c)
      ∙ total_zero _ (before c) (λ d. rw and-false))
      ∙ rw (leb-zero (suc k))
    where
      before : ℕ → List Find
      before = found_before f (ways_back f k) t
  exact (suc k) (e ∷ r) o t wt =
      total_flat_map _ _ (entries_where f (λ c. eqb (out_port_of f c) o))
      ∙ total_only (λ c. found (e ∷ r) (map (later f c) (before c))) (λ c. eqb (out_port_of f c) o) f.entries e
      (λ c d. later_exact e c r (before c) ∙ rw (ne_eqb c e (λ q. d (sym q))) (mul-zero (found r (before c))))
      ∙ ap (λ (m : ℕ). one (ltb e f.entries) * (one (eqb (out_port_of f e) o) * m))
      (later_exact e e r (before e) ∙ rw (eq-eqb e e refl) (mul-one (found r (before e))))
      ∙ entry_exact k (exact k) r e o t wt
      ∙ rw (leb-suc-suc (length r) k)
    where
      before : ℕ → List Find
      before = found_before f (ways_back f k) t

  -- a list of finds with paths turned round, by the entries q in travelling order
  turned : (l : List Find) (q : List ℕ) → finds_by f.words p q h (map (onto []) l) ≡ found (reverse q) l
  turned l q =
      finds_by_total f.words p q h (map (onto []) l)
      ∙ total_map _ (onto []) l
      ∙ (λ i. total (λ d. one (eqb p d.port && (same_reverse d.path q i && contains f.words d.set h))) l)

  -- the finds of a part at an in-port by the entries q: one if the packet can come to stand there that way with a header in the part, and
  -- else none
  pub part_by_way : (k x : ℕ) (s : Set) → WellFormed f.words s → (q : List ℕ)
      → finds_by f.words p q h (finds (at_in_port f (stop f k) x [] s))
      ≡ one (leb (length q) k && is_at f (stands f p h (reverse q)) x s)
  part_by_way k x s ws q =
      ap (finds_by f.words p q h) (finds_part f k x [] s)
      ∙ turned (found_at f (ways_back f k) x s) q
      ∙ part_exact k (exact k) (reverse q) x s ws
      ∙ rw length-reverse

  -- the finds of the trace by the entries q, in travelling order: one if the packet can go that way within the limit, and else none
  pub finds_by_way : (limit target : ℕ) (asked : Set) → WellFormed f.words asked → (q : List ℕ)
      → finds_by f.words p q h (finds (trace f limit target asked)) ≡ one (leb (length q) limit && goes f p h (reverse q) target asked)
  unfolding Exactly
  finds_by_way limit target asked wa q =
      ap (finds_by f.words p q h) (finds_stop f limit target asked [])
      ∙ turned (ways_back f limit target asked) q
      ∙ exact limit (reverse q) target asked wa
      ∙ rw length-reverse
