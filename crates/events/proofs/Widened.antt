-- The events of a fabric with wild words up to n are played as those of the fabric: the same units, words of finds and verdict. So the code
-- goes by eight words, and what it leaves is what the file's own width asks for.
use mathlib.Core.List.{List, [], ◌∷◌, map, Memᴰ}
use mathlib.Core.Option
use mathlib.Core.Option.{Option, some, none}
use mathlib.Core.Path.{◌≡◌, refl, sym, ap, ap₂, ◌∙◌}
use Prim.Native.Nat.{ℕ, zero, suc, ◌-◌, ◌≤◌}
use native.Mathlib.Omega.{arith}
use lib.Seq.{take_at, take_all}
use Rattle.headers.specs.Bits.{words}
use Rattle.headers.specs.Sets.{Header, Set, WellFormed, padded}
use Rattle.forwarding.specs.Fabric.{Fabric, Sound}
use Rattle.forwarding.specs.Trace.{Find, Event, unit, find, finds, trace, list_trace}
use Rattle.forwarding.specs.Verdict.{foreign_packet}
use Rattle.forwarding.specs.Wider.{wider_to, wider_find, wider_event, longer}
use Rattle.forwarding.proofs.Finds.{edge_set}
use Rattle.forwarding.proofs.Losses.{lost_edge_set}
use Rattle.forwarding.proofs.Stops.{packet_long}
use Rattle.forwarding.proofs.Wider.{wider_to_lem, foreign_packet_wider, trace_wider, list_trace_wider}
use Rattle.wide.specs.Forms.{narrowed}
use Rattle.events.specs.Play.{World, Played, and_then, make_unit, step, play, narrow_find, listed, judged, judged_by}
use Rattle.events.proofs.ListPlayed.{finds_in}

-- the first m words of m words, and of these with k more
narrow_own : (m : ℕ) (s : Set) → WellFormed m s → narrowed m s ≡ s
narrow_own m s w = λ i. record {
  care = take_all m s.care (let e = w.care.long in omega arith) i;
  value = take_all m s.value (let e = w.value.long in omega arith) i;
}

narrow_padded : (m k : ℕ) (s : Set) → WellFormed m s → narrowed m (padded k s) ≡ s
narrow_padded m k s w = λ i. record {
  care = take_at s.care (words k (λ j. 0)) m w.care.long i;
  value = take_at s.value (words k (λ j. 0)) m w.value.long i;
}

-- events whose finds are played alike, with k more words or without
play_same : (k budget : ℕ) (found found' : Find → World → Played) (es : List Event)
    → ((d : Find) → Memᴰ d (finds es) → (v : World) → found' (wider_find k d) v ≡ found d v)
    → (v : World) → play budget found' (map (wider_event k) es) v ≡ play budget found es v
unfolding play step finds
play_same k budget found found' [] same v = refl
play_same k budget found found' (unit ∷ es) same v =
    ap (and_then (make_unit budget v)) (λ i x. play_same k budget found found' es same x i)
play_same k budget found found' (find d ∷ es) same v =
    ap₂ and_then (same d (Memᴰ.head refl) v) (λ i x. play_same k budget found found' es (λ c m. same c (Memᴰ.tail m)) x i)

module _ (n : ℕ) (F : Fabric) (sound : Sound F) (l : F.words ≤ n) where
  abbrev more : ℕ
  more = n - F.words

  abbrev G : Fabric
  G = wider_to n F

  listed_same : (d : Find) → WellFormed F.words d.set → (v : World)
      → listed F.words (wider_find more d) v ≡ listed F.words d v
  unfolding listed
  listed_same d w v =
      let same : narrowed F.words (padded more d.set) ≡ narrowed F.words d.set =
      narrow_padded F.words more d.set w ∙ sym (narrow_own F.words d.set w) in
      rw same

  judged_same : (target : ℕ) (d : Find) → WellFormed F.words d.set → (v : World)
      → judged G F.words target (wider_find more d) v ≡ judged F F.words target d v
  unfolding judged
  judged_same target d w v =
      ap (λ (o : Option Header). judged_by G F.words target o (wider_find more d) v) packet ∙ go (foreign_packet F target d) refl
    where
      packet : foreign_packet G target (wider_find more d) ≡ Option.map (longer more) (foreign_packet F target d)
      packet =
          ap (λ (g : Fabric). foreign_packet g target (wider_find more d)) (wider_to_lem n F l)
          ∙ foreign_packet_wider more F sound target d w

      go : (o : Option Header) → foreign_packet F target d ≡ o
          → judged_by G F.words target (Option.map (longer more) o) (wider_find more d) v ≡ judged_by F F.words target o d v
      go none e = refl
      go (some h) e =
          let long = packet_long F target d h e in
          rw (take_at h (words more (λ w. 0)) F.words long, take_all F.words h (omega arith))

  module _ (limit target : ℕ) (t : Set) (wt : WellFormed F.words t) where
    finds_formed : (d : Find) → Memᴰ d (finds (list_trace F limit target t)) → WellFormed F.words d.set
    finds_formed = go target
      where
        go : (target : ℕ) (d : Find) → Memᴰ d (finds (list_trace F limit target t)) → WellFormed F.words d.set
        go zero d m = (lost_edge_set F sound limit t wt d m).well_formed
        go (suc target) d m = (edge_set F sound limit (suc target) t wt d m).well_formed

    pub verdict_pass_same : (budget : ℕ) (v : World)
        → play budget (judged G F.words target) (trace G limit target (padded more t)) v
        ≡ play budget (judged F F.words target) (trace F limit target t) v
    verdict_pass_same budget v =
        ap (λ (es : List Event). play budget (judged G F.words target) es v)
        (ap (λ (g : Fabric). trace g limit target (padded more t)) (wider_to_lem n F l) ∙ trace_wider more F sound limit target t wt)
        ∙ play_same more budget (judged F F.words target) (judged G F.words target) (trace F limit target t)
        (λ d m. judged_same target d (edge_set F sound limit target t wt d m).well_formed) v

    pub list_pass_same : (budget : ℕ) (v : World)
        → play budget (listed F.words) (list_trace G limit target (padded more t)) v
        ≡ play budget (listed F.words) (list_trace F limit target t) v
    list_pass_same budget v =
        ap (λ (es : List Event). play budget (listed F.words) es v)
        (ap (λ (g : Fabric). list_trace g limit target (padded more t)) (wider_to_lem n F l)
        ∙ list_trace_wider more F sound limit target t wt)
        ∙ play_same more budget (listed F.words) (listed F.words) (list_trace F limit target t)
        (λ d m. listed_same d (finds_formed d m)) v

    -- the finds are those of the fabric
    pub finds_own : finds_in F.words (list_trace F limit target t) ≡ finds (list_trace F limit target t)
    finds_own = go (finds (list_trace F limit target t)) finds_formed
      where
        go : (ds : List Find) → ((d : Find) → Memᴰ d ds → WellFormed F.words d.set) → map (narrow_find F.words) ds ≡ ds
        go [] w = refl
        go (d ∷ ds) w =
            ap₂ (λ (c : Find) (cs : List Find). c ∷ cs)
            (λ i. record { port = d.port; path = d.path; set = narrow_own F.words d.set (w d (Memᴰ.head refl)) i })
            (go ds (λ c m. w c (Memᴰ.tail m)))
