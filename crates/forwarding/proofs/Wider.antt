-- A fabric with k more words: its traces are those of the fabric, the same units and finds in the same order, with k more wild words in
-- each find; and its verdict is the fabric's.
use mathlib.Core.Bool.{Bool, true, false, ◌&&◌, cond}
use mathlib.Core.List.{List, [], ◌∷◌, ◌++◌, map, flat_map, map-append, head?, Memᴰ}
use mathlib.Core.Option
use mathlib.Core.Option.{Option, some, none, Option-elim, get_or}
use mathlib.Core.Path.{◌≡◌, refl, sym, ap, ap₂, ◌∙◌, subst}
use Prim.Native.Nat.{ℕ, zero, suc, ◌+◌, ◌-◌, ◌≤◌}
use native.Mathlib.Omega.{arith}
use lib.Dec.{eqb, ltb}
use Rattle.headers.specs.Sets.{Header, Set, lowest, WellFormed, padded}
use Rattle.headers.specs.Carving.{carve, Each}
use Rattle.headers.proofs.Parts.{carve_well_formed}
use Rattle.headers.proofs.Beside.{well_formed_long}
use Rattle.headers.proofs.Padded.{padded_none, lowest_padded, carve_padded, well_formed_padded, written_padded}
use Rattle.headers.proofs.ActsBeside.{padded_act_none}
use Rattle.forwarding.specs.Fabric.{Fabric, Sound, in_port_of, entries_where, beats}
use Rattle.forwarding.specs.BackTrace.{back, beaters}
use Rattle.forwarding.specs.Trace.{Find, Event, unit, find, carved, from_port, at_in_port, taken_up, stop, trace, in_ports, entries_in}
use Rattle.forwarding.specs.Trace.{lost_at, lost_trace, list_trace, units, finds}
use Rattle.forwarding.specs.Verdict.{Verdict, isolated, reached, units_in, foreign_packet, verdict, verdict_on, ends_within}
use Rattle.forwarding.specs.Wider.{with_words, wider, wider_to, wider_find, wider_event, longer, wider_verdict}
use Rattle.forwarding.proofs.Lists.{flat_map_same, map_flat_map}
use Rattle.forwarding.proofs.OneHop.{back_wider}
use Rattle.forwarding.proofs.BackTraced.{back_well_formed}
use Rattle.forwarding.proofs.Finds.{edge_set}

-- ---- n words in all

pub wider_to_lem : (n : ℕ) (f : Fabric) → f.words ≤ n → wider_to n f ≡ wider (n - f.words) f
wider_to_lem n f l = ap (λ (m : ℕ). with_words m (n - f.words) f) (let e : n ≡ f.words + (n - f.words) = omega arith in e)

-- a fabric of n words is itself
pub wider_to_own : (n : ℕ) (f : Fabric) → f.words ≡ n → wider_to n f ≡ f
wider_to_own n f e =
    ap₂ (λ (m k : ℕ). with_words m k f) (sym e) (let z : n - f.words ≡ 0 = omega arith in z)
    ∙ λ i. record {
      words = f.words;
      entries = f.entries;
      entry = λ x. record {
        priority = (f.entry x).priority;
        in_port = (f.entry x).in_port;
        out_port = (f.entry x).out_port;
        matches = padded_none (f.entry x).matches i;
        action = padded_act_none (f.entry x).action i;
      };
      is_edge = f.is_edge;
      group = f.group;
      admitted = λ x. padded_none (f.admitted x) i;
      link_to = f.link_to;
      link_from = f.link_from;
      ports = f.ports;
      miss_drops = f.miss_drops;
    }

pub wider_sound : (k : ℕ) (f : Fabric) → Sound f → Sound (wider k f)
wider_sound k f s = record {
  two_words = omega (arith, s.two_words);
  zero_no_edge = s.zero_no_edge;
  zero_begins_none = s.zero_begins_none;
  zero_ends_none = s.zero_ends_none;
  begins_once = s.begins_once;
  ends_once = s.ends_once;
  edge_begins_none = s.edge_begins_none;
  edge_ends_none = s.edge_ends_none;
  edge_below = s.edge_below;
  end_below = s.end_below;
  match_well_formed = λ e. well_formed_padded f.words k (f.entry e).matches (s.match_well_formed e);
  admitted_well_formed = λ x. well_formed_padded f.words k (f.admitted x) (s.admitted_well_formed x);
  rewrite_written = λ e. written_padded f.words k (f.entry e).action.rewrite (s.rewrite_written e);
}

pub wider_to_sound : (n : ℕ) (f : Fabric) → f.words ≤ n → Sound f → Sound (wider_to n f)
wider_to_sound n f l s = subst Sound (sym (wider_to_lem n f l)) (wider_sound (n - f.words) f s)

-- ---- events with k more words

pub find_none : (d : Find) → wider_find 0 d ≡ d
find_none d = λ i. record { port = d.port; path = d.path; set = padded_none d.set i }

pub events_none : (es : List Event) → map (wider_event 0) es ≡ es
events_none [] = refl
events_none (unit ∷ es) = ap (λ (l : List Event). unit ∷ l) (events_none es)
events_none (find d ∷ es) = ap₂ (λ (c : Find) (l : List Event). find c ∷ l) (find_none d) (events_none es)

module _ (k : ℕ) where
  pub units_wider : (es : List Event) → units (map (wider_event k) es) ≡ units es
  unfolding units
  units_wider [] = refl
  units_wider (unit ∷ es) = ap suc (units_wider es)
  units_wider (find d ∷ es) = units_wider es

  pub finds_wider : (es : List Event) → finds (map (wider_event k) es) ≡ map (wider_find k) (finds es)
  unfolding finds
  finds_wider [] = refl
  finds_wider (unit ∷ es) = finds_wider es
  finds_wider (find d ∷ es) = ap (λ (l : List Find). wider_find k d ∷ l) (finds_wider es)

  pub ends_within_wider : (budget u : ℕ) (es : List Event) → ends_within budget u (map (wider_event k) es) ≡ ends_within budget u es
  unfolding ends_within
  ends_within_wider budget u [] = refl
  ends_within_wider budget u (unit ∷ es) = ap (λ (b : Bool). ltb u budget && b) (ends_within_wider budget (suc u) es)
  ends_within_wider budget u (find d ∷ es) = ends_within_wider budget u es

  pub units_in_wider : (v : Verdict) → units_in (wider_verdict k v) ≡ units_in v
  unfolding units_in
  units_in_wider (isolated u) = refl
  units_in_wider (reached u p q h) = refl

-- ---- the traces

module _ (k : ℕ) (f : Fabric) (sound : Sound f) where
  -- of a set with k more wild words, the same events with k more wild words
  abbrev Same : (Set → List Event) → (Set → List Event) → Type 0
  Same next wide = (s : Set) → WellFormed f.words s → wide (padded k s) ≡ map (wider_event k) (next s)

  abbrev SameStop : (ℕ → Set → List ℕ → List Event) → (ℕ → Set → List ℕ → List Event) → Type 0
  SameStop next wide = (y : ℕ) (path : List ℕ) → Same (λ p. next y p path) (λ p. wide y p path)

  pub carved_wider : (next wide : Set → List Event) → Same next wide → (bs : List ℕ)
      → Same (carved f next bs) (carved (wider k f) wide bs)
  unfolding carved flat_map Each
  carved_wider next wide same [] p wp = same p wp
  carved_wider next wide same (b ∷ bs) p wp =
      ap (λ (l : List Event). unit ∷ l)
      (ap (flat_map (carved (wider k f) wide bs))
      (carve_padded f.words k (f.entry b).matches (well_formed_long (sound.match_well_formed b)) p (well_formed_long wp))
      ∙ parts (carve f.words p (f.entry b).matches)
      (carve_well_formed f.words p (f.entry b).matches wp (sound.match_well_formed b)) (carved_wider next wide same bs))
    where
      parts : (l : List Set) → Each (WellFormed f.words) l → Same (carved f next bs) (carved (wider k f) wide bs)
          → flat_map (carved (wider k f) wide bs) (map (padded k) l) ≡ map (wider_event k) (flat_map (carved f next bs) l)
      parts [] w ih = refl
      parts (s ∷ l) w ih =
          ap₂ ◌++◌ (ih s w.0) (parts l w.1 ih)
          ∙ sym (map-append (wider_event k) (carved f next bs s) (flat_map (carved f next bs) l))

  pub at_in_port_wider : (next wide : ℕ → Set → List ℕ → List Event) → SameStop next wide → (x : ℕ) (path : List ℕ)
      → Same (at_in_port f next x path) (at_in_port (wider k f) wide x path)
  unfolding at_in_port
  at_in_port_wider next wide same x path p wp = go (f.is_edge x) (f.link_from x)
    where
      go : (b : Bool) (y : ℕ)
          → cond b (find (record { port = x; path = path; set = padded k p }) ∷ []) (from_port (wider k f) wide y path (padded k p))
          ≡ map (wider_event k) (cond b (find (record { port = x; path = path; set = p }) ∷ []) (from_port f next y path p))
      go true y = refl
      go false zero = refl
      go false (suc y) = same (suc y) path p wp

  pub taken_up_wider : (next wide : ℕ → Set → List ℕ → List Event) → SameStop next wide → (path : List ℕ) (e : ℕ)
      → Same (λ t. taken_up f next t path e) (λ t. taken_up (wider k f) wide t path e)
  unfolding taken_up beaters beats Option-elim
  taken_up_wider next wide same path e t wt =
      ap (λ (o : Option Set). unit ∷ Option-elim o [] (carved (wider k f) wide_port (beaters f e))) (back_wider f sound e k t wt)
      ∙ go (back f e t) (back_well_formed f sound e t wt)
    where
      port : Set → List Event
      port = at_in_port f next (in_port_of f e) (e ∷ path)

      wide_port : Set → List Event
      wide_port = at_in_port (wider k f) wide (in_port_of f e) (e ∷ path)

      go : (o : Option Set) → ((s : Set) → o ≡ some s → WellFormed f.words s)
          → unit ∷ Option-elim (Option.map (padded k) o) [] (carved (wider k f) wide_port (beaters f e))
          ≡ map (wider_event k) (unit ∷ Option-elim o [] (carved f port (beaters f e)))
      go none w = refl
      go (some s) w =
          ap (λ (l : List Event). unit ∷ l)
          (carved_wider port wide_port (at_in_port_wider next wide same (in_port_of f e) (e ∷ path)) (beaters f e) s (w s refl))

  -- one list after the other
  each_wider : (g h : ℕ → List Event) → ((a : ℕ) → h a ≡ map (wider_event k) (g a)) → (l : List ℕ)
      → flat_map h l ≡ map (wider_event k) (flat_map g l)
  each_wider g h e l = flat_map_same h _ e l ∙ sym (map_flat_map (wider_event k) g l)

  pub stop_wider : (hops : ℕ) → SameStop (stop f hops) (stop (wider k f) hops)
  unfolding stop
  stop_wider zero o path t wt = refl
  stop_wider (suc hops) o path t wt = each_wider _ _
      (λ e. taken_up_wider (stop f hops) (stop (wider k f) hops) (stop_wider hops) path e t wt) (entries_where f _)

  pub trace_wider : (limit target : ℕ) (t : Set) → WellFormed f.words t
      → trace (wider k f) limit target (padded k t) ≡ map (wider_event k) (trace f limit target t)
  trace_wider limit target t wt = stop_wider limit target [] t wt

  pub lost_trace_wider : (limit : ℕ) (t : Set) → WellFormed f.words t
      → lost_trace (wider k f) limit (padded k t) ≡ map (wider_event k) (lost_trace f limit t)
  unfolding lost_trace lost_at
  lost_trace_wider zero t wt = refl
  lost_trace_wider (suc hops) t wt = each_wider _ _
      (λ x. carved_wider _ _ (at_in_port_wider (stop f hops) (stop (wider k f) hops) (stop_wider hops) x []) (entries_in f x) t wt)
      (in_ports f)

  pub list_trace_wider : (limit target : ℕ) (t : Set) → WellFormed f.words t
      → list_trace (wider k f) limit target (padded k t) ≡ map (wider_event k) (list_trace f limit target t)
  list_trace_wider limit zero t wt = lost_trace_wider limit t wt
  list_trace_wider limit (suc target) t wt = trace_wider limit (suc target) t wt

  -- ---- the verdict

  -- the foreign packet of a find, with k more words that are 0
  pub foreign_packet_wider : (target : ℕ) (d : Find) → WellFormed f.words d.set
      → foreign_packet (wider k f) target (wider_find k d) ≡ Option.map (longer k) (foreign_packet f target d)
  unfolding foreign_packet Each
  foreign_packet_wider target d wd =
      ap₂ (λ (l : List Set) (h : Header). cond own (Option.map (lowest (f.words + k)) (head? l)) (some h))
      (carve_padded f.words k admitted (well_formed_long wa) d.set (well_formed_long wd))
      (lowest_padded f.words k d.set (well_formed_long wd))
      ∙ go own (carve f.words d.set admitted) (carve_well_formed f.words d.set admitted wd wa)
    where
      own : Bool
      own = eqb (f.group d.port) (f.group target)

      admitted : Set
      admitted = f.admitted d.port

      wa : WellFormed f.words admitted
      wa = sound.admitted_well_formed d.port

      go : (b : Bool) (l : List Set) → Each (WellFormed f.words) l
          → cond b (Option.map (lowest (f.words + k)) (head? (map (padded k) l))) (some (longer k (lowest f.words d.set)))
          ≡ Option.map (longer k) (cond b (Option.map (lowest f.words) (head? l)) (some (lowest f.words d.set)))
      go true [] w = refl
      go true (s ∷ l) w = ap some (lowest_padded f.words k s (well_formed_long w.0))
      go false l w = refl

  -- the same verdict, with the same units, port and entries
  pub verdict_wider : (target : ℕ) (es : List Event) → ((d : Find) → Memᴰ d (finds es) → WellFormed f.words d.set) → (u : ℕ)
      → verdict (wider k f) target u (map (wider_event k) es) ≡ wider_verdict k (verdict f target u es)
  unfolding verdict finds
  verdict_wider target [] formed u = refl
  verdict_wider target (unit ∷ es) formed u = verdict_wider target es formed (suc u)
  verdict_wider target (find d ∷ es) formed u =
      ap₂ (λ (o : Option Header) (v : Verdict). get_or (Option.map (reached u d.port d.path) o) v)
      (foreign_packet_wider target d (formed d (Memᴰ.head refl)))
      (verdict_wider target es (λ e m. formed e (Memᴰ.tail m)) u)
      ∙ go (foreign_packet f target d)
    where
      go : (o : Option Header)
          → get_or (Option.map (reached u d.port d.path) (Option.map (longer k) o)) (wider_verdict k (verdict f target u es))
          ≡ wider_verdict k (get_or (Option.map (reached u d.port d.path) o) (verdict f target u es))
      go none = refl
      go (some h) = refl

  pub verdict_on_wider : (target limit : ℕ) (t : Set) → WellFormed f.words t
      → verdict_on (wider k f) target limit (padded k t) ≡ wider_verdict k (verdict_on f target limit t)
  verdict_on_wider target limit t wt =
      ap (verdict (wider k f) target 0) (trace_wider limit target t wt)
      ∙ verdict_wider target (trace f limit target t) (λ d m. (edge_set f sound limit target t wt d m).well_formed) 0
