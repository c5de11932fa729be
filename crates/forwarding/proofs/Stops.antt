-- Where the verdict stops along the events, and the units made by then. Assumes nothing.
use mathlib.Core.Bool.{Bool, true, false, cond}
use mathlib.Core.List.Memᴰ
use mathlib.Core.List.{List, [], ◌∷◌, ◌++◌, head?, Memᴰ}
use mathlib.Core.Logic.{◌⊎◌, inl, inr}
use mathlib.Core.Option.{Option, some, none, map, get_or}
use mathlib.Core.Path.{◌≡◌, refl, sym, ap, ◌∙◌}
use Prim.Native.Nat.{ℕ, suc, ◌+◌}
use native.Mathlib.Omega.{arith}
use lib.Dec.{eqb}
use lib.ListN.{length}
use Rattle.headers.specs.Sets.{Header, Set, lowest}
use Rattle.headers.specs.Carving.{carve}
use Rattle.headers.proofs.Positions.{words_long}
use Rattle.forwarding.specs.Fabric.{Fabric}
use Rattle.forwarding.specs.Trace.{Find, Event, unit, find, units, finds}
use Rattle.forwarding.specs.Verdict.{Verdict, isolated, reached, foreign_packet, verdict}

module _ (f : Fabric) (target : ℕ) where
  -- no find among the events has a foreign packet
  abbrev pub NoneForeign : List Event → Type 0
  NoneForeign es = (d : Find) → Memᴰ d (finds es) → foreign_packet f target d ≡ none

  none_foreign_find : (d : Find) (es : List Event) → foreign_packet f target d ≡ none → NoneForeign es → NoneForeign (find d ∷ es)
  unfolding finds
  none_foreign_find d es e n c m = go (Memᴰ.cases_cons m)
    where
      go : (c ≡ d) ⊎ Memᴰ c (finds es) → foreign_packet f target c ≡ none
      go (inl q) = ap (foreign_packet f target) q ∙ e
      go (inr m) = n c m

  -- what the verdict answers at find d, or else v
  abbrev stopped_or : Option Header → ℕ → Find → Verdict → Verdict
  stopped_or o u d v = get_or (map (reached u d.port d.path) o) v

  -- ---- 'isolated': every unit is made, and no find has a foreign packet

  pub record Isolated (u : ℕ) (es : List Event) (v : ℕ) : Type 0 where
    pub made : v ≡ u + units es
    pub none_foreign : NoneForeign es

  pub isolated_events : (es : List Event) (u v : ℕ) → verdict f target u es ≡ isolated v → Isolated u es v
  unfolding verdict units finds
  isolated_events [] u v e = record { made = (let z : u ≡ v = cc in omega arith); none_foreign = λ d m. absurd (Memᴰ.not-nil m) }
  isolated_events (unit ∷ es) u v e =
      let r = isolated_events es (suc u) v e in record { made = omega (arith, r.made); none_foreign = r.none_foreign }
  isolated_events (find d ∷ es) u v e = go (foreign_packet f target d) refl e (isolated_events es u v)
    where
      go : (o : Option Header) → foreign_packet f target d ≡ o → stopped_or o u d (verdict f target u es) ≡ isolated v
          → (verdict f target u es ≡ isolated v → Isolated u es v) → Isolated u (find d ∷ es) v
      go none q e ih = let r = ih e in record { made = r.made; none_foreign = none_foreign_find d es q r.none_foreign }
      go (some h) q e ih = let z : ◌≡◌ {A = ℕ} 0 1 = cc in absurd (omega arith)

  -- so the units in its answer are those of all events
  pub isolated_units : (es : List Event) (v : ℕ) → verdict f target 0 es ≡ isolated v → v ≡ units es
  isolated_units es v e = omega (arith, (isolated_events es 0 v e).made)

  -- ---- 'reached': the verdict stops at the first find with a foreign packet and reports that, with the units made before it

  pub record Reached (u : ℕ) (es : List Event) (v p : ℕ) (q : List ℕ) (h : Header) : Type 0 where
    pub before : List Event
    pub at : Find
    pub after : List Event
    pub events : es ≡ before ++ find at ∷ after
    pub made : v ≡ u + units before
    pub none_foreign : NoneForeign before
    pub port : at.port ≡ p
    pub path : at.path ≡ q
    pub packet : foreign_packet f target at ≡ some h

  -- with one event more before
  one_before : (c : Event) (w u : ℕ) (es : List Event) (v p : ℕ) (q : List ℕ) (h : Header) (r : Reached w es v p q h)
      → v ≡ u + units (c ∷ r.before) → NoneForeign (c ∷ r.before) → Reached u (c ∷ es) v p q h
  one_before c w u es v p q h r m n = record {
    before = c ∷ r.before;
    at = r.at;
    after = r.after;
    events = ap (λ (l : List Event). c ∷ l) r.events;
    made = m;
    none_foreign = n;
    port = r.port;
    path = r.path;
    packet = r.packet;
  }

  pub reached_events : (es : List Event) (u v p : ℕ) (q : List ℕ) (h : Header) → verdict f target u es ≡ reached v p q h
      → Reached u es v p q h
  unfolding verdict units finds
  reached_events [] u v p q h e = let z : ◌≡◌ {A = ℕ} 0 1 = cc in absurd (omega arith)
  reached_events (unit ∷ es) u v p q h e =
      let r = reached_events es (suc u) v p q h e in one_before unit (suc u) u es v p q h r (omega (arith, r.made)) r.none_foreign
  reached_events (find d ∷ es) u v p q h e = go (foreign_packet f target d) refl e (reached_events es u v p q h)
    where
      go : (o : Option Header) → foreign_packet f target d ≡ o → stopped_or o u d (verdict f target u es) ≡ reached v p q h
          → (verdict f target u es ≡ reached v p q h → Reached u es v p q h) → Reached u (find d ∷ es) v p q h
      go none c e ih =
          let r = ih e in one_before (find d) u u es v p q h r r.made (none_foreign_find d r.before c r.none_foreign)
      go (some k) c e ih = record {
        before = [];
        at = d;
        after = es;
        events = refl;
        made = (let y : u ≡ v = cc in omega arith);
        none_foreign = λ c m. absurd (Memᴰ.not-nil m);
        port = cc;
        path = cc;
        packet = c ∙ ap some (let z : k ≡ h = cc in z);
      }

  -- the packet has as many words as a header of the fabric
  pub packet_long : (d : Find) (h : Header) → foreign_packet f target d ≡ some h → length h ≡ f.words
  unfolding foreign_packet
  packet_long d h e = go (eqb (f.group d.port) (f.group target)) (head? (carve f.words d.set (f.admitted d.port))) e
    where
      lowest_long : (s : Set) → lowest f.words s ≡ h → length h ≡ f.words
      lowest_long s q = ap length (sym q) ∙ words_long f.words _

      go : (b : Bool) (o : Option Set) → cond b (map (lowest f.words) o) (some (lowest f.words d.set)) ≡ some h → length h ≡ f.words
      go true none e = let z : ◌≡◌ {A = ℕ} 0 1 = cc in absurd (omega arith)
      go true (some s) e = lowest_long s cc
      go false o e = lowest_long d.set cc

  pub reached_long : (es : List Event) (v p : ℕ) (q : List ℕ) (h : Header) → verdict f target 0 es ≡ reached v p q h
      → length h ≡ f.words
  reached_long es v p q h e = let r = reached_events es 0 v p q h e in packet_long r.at h r.packet
