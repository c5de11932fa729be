-- Demand 3 of the verdict: 'isolated' exactly if no foreign packet arrives, and 'reached' names one that does, with its entries.
-- Assumes nothing.
use mathlib.Core.Bool.{true, false, true≢false, false≢true}
use mathlib.Core.List.Memᴰ
use mathlib.Core.List.{List, ◌∷◌, Memᴰ}
use mathlib.Core.Logic.{◌↔◌}
use mathlib.Core.Path.{◌≡◌, refl, sym, ap, ◌∙◌, subst, subst₂}
use Prim.Native.Nat.{ℕ}
use Rattle.headers.specs.Bits.{Words}
use Rattle.headers.specs.Sets.{Header, Set, WellFormed}
use Rattle.forwarding.specs.Fabric.{Fabric, Sound}
use Rattle.forwarding.specs.Trace.{find, trace, finds}
use Rattle.forwarding.specs.Verdict.{Verdict, isolated, reached, is_isolated, foreign, verdict_on, Leak, NoLeak}
use Rattle.forwarding.proofs.Stops.{isolated_events, reached_events}
use Rattle.forwarding.proofs.WaysBack.{finds_append}
use Rattle.forwarding.proofs.Foreign.{foreign_some, foreign_none}
use Rattle.forwarding.proofs.Finds.{edge_set, find_sound, find_complete}
use Rattle.forwarding.proofs.Ways.{CanGo}
use Rattle.forwarding.proofs.RunWays.{arrives_way, way_arrives}

-- ---- way by way: nothing here asks that one entry alone takes a header

-- a foreign packet that can go by the entries q
pub record WayIn (f : Fabric) (limit target : ℕ) (asked : Set) (p : ℕ) (q : List ℕ) (h : Header) : Type 0 where
  pub edge_port_lem : f.is_edge p ≡ true
  pub fits : Words f.words h
  pub is_foreign : foreign f target p h ≡ true
  pub can_go : CanGo f limit target asked p q h

module _ (f : Fabric) (sound : Sound f) (limit target : ℕ) (asked : Set) (wa : WellFormed f.words asked) where
  -- 'reached' names a foreign packet that can go to the target by the entries named
  pub reached_way : (u p : ℕ) (q : List ℕ) (h : Header) → verdict_on f target limit asked ≡ reached u p q h
      → WayIn f limit target asked p q h
  unfolding finds
  reached_way u p q h e =
      let r = reached_events f target (trace f limit target asked) 0 u p q h e in
      let split = ap finds r.events ∙ finds_append r.before (find r.at ∷ r.after) in
      let m = subst (Memᴰ r.at) (sym split) (Memᴰ.append_right (finds r.before) (Memᴰ.head refl)) in
      let s = edge_set f sound limit target asked wa r.at m in
      let c = foreign_some f sound target r.at s.well_formed h r.packet in
      let g = find_sound f sound limit target asked wa r.at m h c.fits c.held in
      record {
        edge_port_lem = rw r.port at s.edge;
        fits = c.fits;
        is_foreign = rw r.port at c.is_foreign;
        can_go = subst₂ (λ (p : ℕ) (q : List ℕ). CanGo f limit target asked p q h) r.port r.path g;
      }

  -- and after 'isolated' no foreign packet can go to the target at all
  pub isolated_ways : (u : ℕ) → verdict_on f target limit asked ≡ isolated u
      → (p : ℕ) (q : List ℕ) (h : Header) → f.is_edge p ≡ true → Words f.words h → CanGo f limit target asked p q h
      → foreign f target p h ≡ false
  isolated_ways u e p q h pe w g =
      let d = find_complete f sound limit target asked wa p q h pe w g in
      let s = edge_set f sound limit target asked wa d.in_find d.member in
      let n = (isolated_events f target (trace f limit target asked) 0 u e).none_foreign d.in_find d.member in
      rw d.port (foreign_none f sound target d.in_find s.well_formed n h d.holds_it)

-- ---- by what a packet can become

module _ (f : Fabric) (sound : Sound f) (limit target : ℕ) (asked : Set) (edge : f.is_edge target ≡ true)
    (wa : WellFormed f.words asked) where
  -- the packet that 'reached' names is foreign and arrives, by the entries named
  pub reached_leak : (u p : ℕ) (q : List ℕ) (h : Header) → verdict_on f target limit asked ≡ reached u p q h
      → Leak f limit target asked p q h
  reached_leak u p q h e =
      let g = reached_way f sound limit target asked wa u p q h e in
      record {
        edge_port_lem = g.edge_port_lem;
        fits = g.fits;
        is_foreign = g.is_foreign;
        arriving = way_arrives f sound p h limit target asked q edge g.can_go;
      }

  -- 'isolated' exactly if no foreign packet arrives, under any choice
  pub isolated_exactly : is_isolated (verdict_on f target limit asked) ≡ true ↔ NoLeak f limit target asked
  unfolding is_isolated
  isolated_exactly = (safe (verdict_on f target limit asked) refl, clear (verdict_on f target limit asked) refl)
    where
      safe : (v : Verdict) → verdict_on f target limit asked ≡ v → is_isolated v ≡ true → NoLeak f limit target asked
      safe (isolated u) e i = λ p q h pe w a.
          isolated_ways f sound limit target asked wa u e p q h pe w (arrives_way f sound p h limit target asked q a)
      safe (reached u p q h) e i = absurd (false≢true i)

      clear : (v : Verdict) → verdict_on f target limit asked ≡ v → NoLeak f limit target asked → is_isolated v ≡ true
      clear (isolated u) e safe = refl
      clear (reached u p q h) e safe =
          let l = reached_leak u p q h e in
          absurd (true≢false (sym l.is_foreign ∙ safe p q h l.edge_port_lem l.fits l.arriving))
