-- The ways through `carve`: the loop over the parts that an entry leaves of a part that meets it.
use mathlib.Core.Bool.{Bool, true, false, cond}
use mathlib.Core.List.{List, [], ◌∷◌, ◌++◌, flat_map, append-nil}
use mathlib.Core.Path.{◌≡◌, refl, sym, ap, ap₂, ◌∙◌}
use Prim.Native.Nat.{ℕ, suc, ◌+◌, ◌-◌, ◌<◌}
use native.Mathlib.Omega.{arith}
use Rattle.std.specs.Prelude.{Result, Ok, Err}
use lib.ListN.{length, get_or, drop}
use Rattle.headers.specs.Bits.{Words, first_bit, no_bit}
use Rattle.headers.specs.Sets.{Set, WellFormed, outside}
use Rattle.headers.specs.Carving.{free, turned, taking, parts, carve}
use Rattle.headers.proofs.SetBits.{first_bit_fits}
use Rattle.headers.proofs.Carved.{parts_none, parts_first, like_cares, free_later}
use Rattle.headers.proofs.Beside.{fits_beside}
use Rattle.layout.specs.Records.{half, match_at}
use Rattle.layout.specs.Versions.{header_words}
use Rattle.layout.specs.declared.Version.{Version}
use Rattle.wide.specs.Forms.{wide_words, wide_of, stored_at}
use Rattle.stored.specs.Forms.{set_there}
use Rattle.stored.specs.declared.StoredSet.{StoredSet}
use Rattle.carving.specs.Cuts.{IsCut}
use Rattle.carving.specs.declared.Cut.{Cut}
use Rattle.wide.specs.declared.WideSet.{WideSet}
use Rattle.wide.proofs.Halves.{Fours}
use Rattle.forwarding.specs.Fabric.{in_port_of}
use Rattle.forwarding.specs.Trace.{Event}
use Rattle.model.specs.Model.{AFabric, fabric_in, wide_in}
use Rattle.index.specs.Index.{Index, next_in}
use Rattle.index.proofs.Chained.{Next}
use Rattle.entries.specs.Entries.{IsEntry}
use Rattle.entries.specs.declared.Entry.{Entry}
use Rattle.entries.proofs.Entries.{match_is, wide_match_well_formed}
use Rattle.entries.proofs.Ranked.{next_with_lem}
use Rattle.events.specs.Play.{play}
use Rattle.events.specs.Asked.{Asked, budget_of, floor_of, world_of, played_of, found_by}
use Rattle.events.specs.declared.Ask.{Ask}
use Rattle.events.specs.declared.Counters.{Counters}
use Rattle.events.specs.declared.Halt.{Halt}
use Rattle.trials.specs.Trials.{Met}
use Rattle.backtrace.specs.Cycle.{Traced, Kept, events_from, events_cut}
use Rattle.backtrace.proofs.Steps.{run, play_on, play_ended}
use Rattle.backtrace.proofs.Paths.{kept_same, kept_on}
use Rattle.backtrace.proofs.Tracings.{InHand, after_call}
use Rattle.backtrace.proofs.Descents.{traced_same}

-- the entry after b in the chain of their in-port
pub next_along : {f cells : List ℕ} → AFabric f → Index f cells → {x b : ℕ} {p : Set} → Met (wide_in f) x p b
    → (r : ℕ) → r ≡ get_or cells (next_in + b) 0
    → Next (in_port_of (fabric_in f)) (fabric_in f).entries x (suc b) r
next_along a i {x} {b} m r h = rw m.in_port_lem at (next_with_lem a i b r m.is_entry h)

-- ---- the loop over the parts

-- `rest` is carved on over its free bits: what is left to be played now is what was to be played at first, of the part p₀
pub record AtPart (f : List ℕ) (ask : Ask) (index : List ℕ) (x q b : ℕ) (m : Set) (d : ℕ) (path₀ : List ℕ)
    (counters₀ : Counters) (area₀ : List ℕ) (p₀ : Set) (path : List ℕ) (counters : Counters) (area : List ℕ) (rest : Set)
    : Type 0 where
  pub in_hand : InHand f ask index d path counters area
  pub area_long : length area ≡ length area₀
  pub kept : Kept d path₀ path
  pub m_care : Words wide_words m.care
  pub m_value : Words wide_words m.value
  pub rest_care : Words wide_words rest.care
  pub left :
      run f ask (flat_map (events_from f x q (suc b) (d - floor_of ask) (drop d path₀)) (parts wide_words rest m)) counters area
      ≡ run f ask (events_cut f x q b (d - floor_of ask) (drop d path₀) p₀) counters₀ area₀

pub first_part : {f : List ℕ} {ask : Ask} {index : List ℕ} {d : ℕ} {path : List ℕ} {counters : Counters} {area : List ℕ}
    → InHand f ask index d path counters area
    → {x b : ℕ} {p : Set}
    → Met (wide_in f) x p b → (q : ℕ) {m : Set} → m ≡ ((wide_in f).entry b).matches → Words wide_words p.care
    → AtPart f ask index x q b m d path counters area p path counters area p
unfolding events_cut carve
first_part {f} {ask} {d = d} {path} {counters} {area} t {x} {b} {p} i q {m} h c =
    let w : WellFormed wide_words m = rw h (wide_match_well_formed t.asked.fabric i.is_entry) in
    record {
      in_hand = t;
      area_long = refl;
      kept = kept_same path t.tracing.on_path.long;
      m_care = w.care;
      m_value = w.value;
      rest_care = c;
      left = ap (λ (ps : List Set). run f ask (flat_map (events_from f x q (suc b) (d - floor_of ask) (drop d path)) ps) counters area)
          (sym (ap (λ (o : Bool). cond o (parts wide_words p ((wide_in f).entry b).matches) (p ∷ [])) i.is_met
          ∙ ap (parts wide_words p) (sym h)));
    }

module _ {f : List ℕ} {ask : Ask} {index : List ℕ} {x q b : ℕ} {m : Set} {d : ℕ} {path₀ : List ℕ} {counters₀ : Counters}
    {area₀ : List ℕ} {p₀ : Set} {path : List ℕ} {counters : Counters} {area : List ℕ} {rest : Set}
    (at : AtPart f ask index x q b m d path₀ counters₀ area₀ p₀ path counters area rest) where
  -- the events of one part, and of all
  abbrev of_part : Set → List Event
  of_part p = events_from f x q (suc b) (d - floor_of ask) (drop d path₀) p

  abbrev of_all : List Event
  of_all = events_cut f x q b (d - floor_of ask) (drop d path₀) p₀

  -- its free bits, and the first of them
  abbrev bits : List ℕ
  bits = free wide_words rest m

  abbrev bit : List ℕ
  bit = first_bit wide_words bits

  -- no bit is free, and no part is left
  pub parts_done : no_bit wide_words bits ≡ true → (v : Unit {0}) → Traced f ask of_all counters₀ area₀ (Ok v) counters area
  unfolding play flat_map
  parts_done h v = record {
    played =
        ap (λ (ps : List Set). run f ask (flat_map of_part ps) counters area)
        (sym (parts_none wide_words m at.m_care at.m_value rest h))
        ∙ at.left;
  }

  -- a turn of the loop, at the first free bit
  module _ (some : no_bit wide_words bits ≡ false) where
    -- the part, and the set that is carved on
    abbrev opposite : Set
    opposite = taking wide_words bit (turned wide_words m) rest

    abbrev rest' : Set
    rest' = taking wide_words bit m rest

    parts_are : parts wide_words rest m ≡ opposite ∷ parts wide_words rest' m
    parts_are = parts_first wide_words m at.m_care at.m_value rest at.rest_care some

    pub fewer_parts : {r : Set} → r ≡ rest' → length (parts wide_words r m) < length (parts wide_words rest m)
    fewer_parts e = rw (e, parts_are) (omega arith)

    free_is : free wide_words rest' m ≡ outside wide_words bit bits
    free_is = free_later wide_words m at.m_care at.m_value rest at.rest_care bit (first_bit_fits wide_words bits)

    module _ {part : Set} (is-part : part ≡ opposite) {r : Result (Unit {0}) Halt} {counters' : Counters} {area' : List ℕ}
        (w : Traced f ask (events_from f x q (suc b) (d - floor_of ask) (drop d path) part) counters area r counters' area') where
      played : played_of r counters' area' ≡ run f ask (of_part opposite) counters area
      played =
          w.played
          ∙ ap₂ (λ (way : List ℕ) (s : Set). run f ask
          (events_from f x q (suc b) (d - floor_of ask) way s) counters area)
          at.kept.later is-part

      -- with the later ones it is all that was left
      with_later : run f ask (of_part opposite ++ flat_map of_part (parts wide_words rest' m)) counters area
          ≡ run f ask of_all counters₀ area₀
      unfolding flat_map
      with_later = ap (λ (ps : List Set). run f ask (flat_map of_part ps) counters area) (sym parts_are) ∙ at.left

      -- it was the last part
      pub part_last : no_bit wide_words (outside wide_words bit bits) ≡ true → Traced f ask of_all counters₀ area₀ r counters' area'
      unfolding flat_map
      part_last l = record {
        played =
            played
            ∙ ap (λ (es : List Event). run f ask es counters area) (sym (append-nil (of_part opposite)))
            ∙ ap (λ (ps : List Set). run f ask (of_part opposite ++ flat_map of_part ps) counters area)
            (sym (parts_none wide_words m at.m_care at.m_value rest' (ap (no_bit wide_words) free_is ∙ l)))
            ∙ with_later;
      }

      pub part_through : {v : Unit {0}} → r ≡ Ok v → {path' : List ℕ} → Kept d path path' → length area' ≡ length area
          → {s : Set} → s ≡ rest'
          → AtPart f ask index x q b m d path₀ counters₀ area₀ p₀ path' counters' area' s
      part_through {v} z k a e = rw e (record {
        in_hand = after_call at.in_hand w k a;
        area_long = a ∙ at.area_long;
        kept = kept_on at.kept k;
        m_care = at.m_care;
        m_value = at.m_value;
        rest_care = like_cares wide_words m at.m_care at.m_value rest bit;
        left =
            play_on (budget_of ask) (found_by f ask) (of_part opposite) (flat_map of_part (parts wide_words rest' m))
            (world_of counters area) v
            (ap (λ (r : Result (Unit {0}) Halt). played_of r counters' area') (sym z) ∙ played)
            ∙ with_later;
      })

      -- the trace ends with it
      pub part_stops : {h : Halt} → r ≡ Err h → Traced f ask of_all counters₀ area₀ r counters' area'
      part_stops {h} z = rw z (record {
        played =
            play_ended (budget_of ask) (found_by f ask) (of_part opposite) (flat_map of_part (parts wide_words rest' m))
            (world_of counters area) h
            (ap (λ (r : Result (Unit {0}) Halt). played_of r counters' area') (sym z) ∙ played)
            ∙ with_later;
      })

-- ---- as the code has it

-- the loop at a cut, by the match of entry b; the first cut was c₀
pub record AtCut (f : List ℕ) (ask : Ask) (index : List ℕ) (x q b d : ℕ) (path₀ : List ℕ)
    (counters₀ : Counters) (area₀ : List ℕ) (matches : StoredSet) (c₀ : Cut)
    (path : List ℕ) (counters : Counters) (area : List ℕ) (c : Cut) : Type 0 where
  pub at_part :
      AtPart f ask index x q b (set_there matches) d path₀ counters₀ area₀ (wide_of c₀.set) path counters area (wide_of c.set)
  pub is_cut : IsCut (header_words matches.version) matches.bytes.now matches.at c
  pub fours : Fours c.set

-- what an entry's match is
pub match_there : {f : List ℕ} {ask : Ask} → Asked f ask → {e : ℕ} (entry : Entry) (s : StoredSet) → IsEntry f e entry.bytes.now
    → entry.version ≡ ask.version → s.bytes.now ≡ entry.bytes.now → s.at ≡ match_at → s.version ≡ entry.version
    → set_there s ≡ ((wide_in f).entry e).matches
match_there a entry s i own bytes at version =
    ap₂ (λ (x : List ℕ) (k : ℕ). stored_at (header_words s.version) x k) bytes at
    ∙ ap (λ (v : Version). stored_at (header_words v) entry.bytes.now match_at) (version ∙ own)
    ∙ ap (λ (w : ℕ). stored_at w entry.bytes.now match_at) a.width_is
    ∙ sym (match_is a.fabric i)

pub cares : (s : WideSet) → Fours s → Words wide_words (wide_of s).care
cares s f = fits_beside half half s.low.care s.high.care f.low.care f.high.care

-- the first cut is of the part itself
pub cut_traced : {f : List ℕ} {ask : Ask} (x q b hops : ℕ) (way : List ℕ) {s p : Set} → s ≡ p
    → {counters₀ : Counters} {area₀ : List ℕ} {r : Result (Unit {0}) Halt} {counters : Counters} {area : List ℕ}
    → Traced f ask (events_cut f x q b hops way s) counters₀ area₀ r counters area
    → Traced f ask (events_cut f x q b hops way p) counters₀ area₀ r counters area
cut_traced {f} x q b hops way e = traced_same (ap (λ (s : Set). events_cut f x q b hops way s) e)
