-- The three demands hold: the first of each call by its definition, the others by forwarding's theorems, as an accepted file's fabric is
-- sound, and the words of an answer are read back as they were written. Assumes nothing.
use mathlib.Core.Bool.{true, false, false≢true}
use mathlib.Core.List.{List, ◌++◌}
use mathlib.Core.Logic.{◌↔◌}
use mathlib.Core.Option.{some}
use mathlib.Core.Path.{◌≡◌, refl, sym, ap, ap₂, ◌∙◌, subst}
use Prim.Native.Nat.{ℕ, zero, suc, ◌*◌, ◌/◌, ◌^◌, ◌≤◌, ◌<◌}
use native.Mathlib.Omega.{arith}
use borrow.Author.Tests.{ne_eqb, leb-true}
use lib.ListN.{length, drop}
use Rattle.headers.specs.Bits.{Words}
use Rattle.headers.specs.Sets.{Header, contains, WellFormed, lowest}
use Rattle.headers.proofs.Booleans.{and_fst}
use Rattle.headers.proofs.Members.{lowest_member, lowest_fits}
use Rattle.answer.specs.Answer.{Outcome, refused, answered, bytes_of}
use Rattle.layout.specs.Words.{words_from}
use Rattle.layout.specs.Shape.{Shape}
use Rattle.questions.specs.Questions.{clean, accepted}
use Rattle.questions.specs.Read.{Read}
use Rattle.questions.specs.Read as Reads
use Rattle.file.specs.Accepted.{Accepted}
use Rattle.file.proofs.Accepted.{accepted_own}
use Rattle.file.proofs.Sound.{accepted_width}
use Rattle.forwarding.specs.Fabric.{Fabric, Sound}
use Rattle.forwarding.specs.Choices.{IsListed}
use Rattle.forwarding.specs.Trace.{Find, list_trace, units, finds}
use Rattle.forwarding.specs.Verdict.{Verdict, isolated, reached, units_in, is_isolated, NoLeak}
use Rattle.forwarding.proofs.Lists.{All}
use Rattle.forwarding.proofs.Ways.{CanGo, way_entries}
use Rattle.forwarding.proofs.BackTraced.{back_traced_exactly}
use Rattle.forwarding.proofs.WaysBack.{EdgeSet}
use Rattle.forwarding.proofs.Finds.{edge_set, find_sound}
use Rattle.forwarding.proofs.Arrivals as arrivals
use Rattle.forwarding.proofs.Losses as losses
use Rattle.forwarding.proofs.Stops as stops
use Rattle.forwarding.proofs.Verdicts as verdicts
use Rattle.model.specs.Model.{fabric_in}
use Rattle.model.proofs.EntryRead.{words_are}
use Rattle.model.proofs.Soundness.{fabric_sound}
use Rattle.events.specs.Play.{reached_words}
use Rattle.queries.specs.Queries.{list_target}
use Rattle.calls.specs.Questions.{Query, or_refused}
use Rattle.calls.specs.Verdict.{trace_asked, verdict_asked, verdict_words}
use Rattle.calls.specs.List.{list_asked, words_asked}
use Rattle.calls.proofs.Asking.{limit_range}
use Rattle.queries.proofs.Targets.{lost_asked, edge_asked}
use Rattle.fabric.specs.Calls.{answer_of, call_of}
use Rattle.fabric.specs.Demands.{Demand1, Demand2, VerdictSays, HoldJust, ListSays, RunSays, OfWords, Demand3}
use Rattle.fabric.specs.Demands.{said, finds_read}
use Rattle.fabric.specs.declared.Call.{Call}
use Rattle.fabric.specs.declared.Call.TheVariants as Calls
use Rattle.fabric.proofs.Calls.{call_answers, succeeded}
use Rattle.fabric.proofs.Said.{words_back}
use Rattle.fabric.proofs.FindsSaid.{Sayable, AllSayable, finds_back, fit_finds}
use Rattle.fabric.proofs.Bounds.{all_below, fit_entries, edge_port_lem, entries_few}
use Rattle.fabric.proofs.AnswerSaid.{answer_says}
use Rattle.fabric.proofs.RunSaid.{run_said}
use Rattle.fabric.proofs.IsolatedSaid as Isolated

-- ---- demand 1

no_said : (number : ℕ) (area : List ℕ) (done : Outcome) → (number ≡ 0 → ⊥)
    → or_refused number area done ≡ refused number 0 area
no_said number area done d = rw (ne_eqb number 0 d)

done_then : (number : ℕ) (area : List ℕ) (done : Outcome) → number ≡ 0 → or_refused number area done ≡ done
done_then number area done e = rw e

pub demand_1 : (c : Call) (w : ℕ) (f : List ℕ) (q : Query) (area : List ℕ) → Demand1 c w f q area
demand_1 c w f q area = record {
  file_refused = λ number place e. read e;
  query_refused = λ s ok d. read ok ∙ no_said _ area _ d;
  all_answered = λ s ok e. read ok ∙ done_then _ area _ e;
}
  where
    read : {r : Read} → accepted w f ≡ r → call_of c w f q area ≡ answer_of c f q r area
    read e = sym (call_answers c w f q area) ∙ ap (λ (r : Read). answer_of c f q r area) e

-- ---- demand 2

pub demand_2 : (f : List ℕ) (s : Shape) → Accepted f s → Demand2 (fabric_in f)
demand_2 f s ok e t h l wt w = back_traced_exactly (fabric_in f) (fabric_sound f s ok) e t wt l h w

-- ---- demand 3: what the questions give, and what the words have room for

module _ (f : List ℕ) (s : Shape) (ok : Accepted f s) (q : Query) where
  abbrev F : Fabric
  F = fabric_in f

  sound : Sound F
  sound = fabric_sound f s ok

  -- the entries of a way that a packet can go
  entries_low : {p : ℕ} {path : List ℕ} {h : Header} (n : ℕ) → 512 ≤ n → CanGo F q.limit q.port q.asked p path h
      → All (λ e. e < n) path
  entries_low {p} {path} {h} n l c = all_below F.entries n (omega (arith, entries_few f s ok)) path (way_entries F p h c)

  module _ (edge : F.is_edge q.port ≡ true) (wa : WellFormed F.words q.asked) (limit : q.limit ≤ 16)
      (budget : q.budget < 2 ^ 32) where
    -- ---- the verdict

    module _ (area : List ℕ) where
      abbrev told : Verdict → Outcome
      told v = answered (verdict_words F.words v) area

      exactly : is_isolated (verdict_asked F q) ≡ true ↔ NoLeak F q.limit q.port q.asked
      exactly = verdicts.isolated_exactly F sound q.limit q.port q.asked edge wa

      says_isolated : (u : ℕ) → verdict_asked F q ≡ isolated u → u ≤ q.budget → VerdictSays F q (told (isolated u))
      unfolding is_isolated answered
      says_isolated u e l =
          let low : u < 2 ^ 32 = omega arith in
          let zero = Isolated.isolated_word_0 F.words u area low in
          let units_are = Isolated.isolated_units_said F.words u area low in
          let never : said (told (isolated u)) 0 ≡ 1 → ⊥ = λ d. omega (arith, zero) in
          record {
            fills = omega (arith, Isolated.isolated_long F.words u area low);
            one_or_other = λ d. absurd (d zero);
            isolated_exactly = ((λ d. exactly.0 (ap is_isolated e)), λ safe. zero);
            isolated_rest = λ d. Isolated.isolated_rest_said F.words u area low;
            reached_first = λ d. absurd (never d);
            reached_leak = λ d. absurd (never d);
            reached_run = λ d. absurd (never d);
            reached_rest = λ d. absurd (never d);
            isolated_units = λ d. units_are ∙ stops.isolated_units F q.port (trace_asked F q) u e;
            within_budget_lem = omega (arith, units_are);
          }

      says_reached : (u p : ℕ) (path : List ℕ) (h : Header) → verdict_asked F q ≡ reached u p path h → u ≤ q.budget
          → VerdictSays F q (told (reached u p path h))
      unfolding is_isolated answered verdict_words reached_words
      says_reached u p path h e l =
          let way = verdicts.reached_way F sound q.limit q.port q.asked wa u p path h e in
          let leak = verdicts.reached_leak F sound q.limit q.port q.asked edge wa u p path h e in
          let r = stops.reached_events F q.port (trace_asked F q) 0 u p path h e in
          let low : u < 2 ^ 32 = omega arith in
          let port : p < 2 ^ 32 = omega (arith, edge_port_lem f s ok p way.edge_port_lem) in
          let short : length path ≤ 16 = omega (arith, way.can_go.short) in
          let entries = fit_entries path (entries_low (2 ^ 32) (omega arith) way.can_go) in
          let says = answer_says F.words 1 u p path h area (omega arith) low port short entries way.fits in
          let never : said (told (reached u p path h)) 0 ≡ 0 → ⊥ = λ d. omega (arith, says.first) in
          record {
            fills = says.fills;
            one_or_other = λ d. says.first;
            isolated_exactly = ((λ d. absurd (never d)), λ safe. absurd (false≢true (ap is_isolated (sym e) ∙ exactly.1 safe)));
            isolated_rest = λ d. absurd (never d);
            reached_first = λ d. record {
              before = r.before;
              at = r.at;
              after = r.after;
              events = r.events;
              made = says.second ∙ omega (arith, r.made);
              none_before = r.none_foreign;
              packet = r.packet ∙ ap some (sym says.header);
              port_is = r.port ∙ sym says.port;
              path_is = r.path ∙ sym says.entries;
            };
            reached_leak = λ d. rw (says.port, says.entries, says.header) leak;
            reached_run = λ d. rw (says.port, says.entries, says.header)
                (arrivals.arrival_run F q.limit q.port q.asked p path h leak.arriving);
            reached_rest = λ d k m. says.rest k (omega (arith, says.hops));
            isolated_units = λ d. absurd (never d);
            within_budget_lem = omega (arith, says.second);
          }

      verdict_said : units_in (verdict_asked F q) ≤ q.budget → VerdictSays F q (told (verdict_asked F q))
      unfolding units_in
      verdict_said = by_verdict (verdict_asked F q) refl
        where
          by_verdict : (v : Verdict) → verdict_asked F q ≡ v → units_in v ≤ q.budget → VerdictSays F q (told v)
          by_verdict (isolated u) e l = says_isolated u e l
          by_verdict (reached u p path h) e l = says_reached u p path h e l

  -- ---- the list

  module _ (wa : WellFormed F.words q.asked) (limit : q.limit ≤ 16) where
    -- what a way's find has room for in its words
    room_for : {d : Find} → EdgeSet F d → length d.path ≤ 16 → All (λ e. e < F.entries) d.path → Sayable F.words d
    room_for {d} is short low = record {
      port = edge_port_lem f s ok d.port is.edge;
      hops = omega arith;
      entries = all_below F.entries (2 ^ 28) (omega (arith, entries_few f s ok)) d.path low;
      care = is.well_formed.care;
      value = is.well_formed.value;
    }

    -- the lowest header of a find, by which its way is known
    low_of : {d : Find} → EdgeSet F d
        → (Words F.words (lowest F.words d.set)) × (contains F.words d.set (lowest F.words d.set) ≡ true)
    low_of {d} is = (lowest_fits F.words d.set is.well_formed.care, lowest_member F.words d.set is.well_formed.care)

    -- the finds of a list, and what they hold
    record Held (target : ℕ) : Type 0 where
      hold_just : HoldJust F (finds (list_trace F q.limit target q.asked)) (IsListed F q.limit target q.asked)
      sayable : AllSayable F.words (finds (list_trace F q.limit target q.asked))

    -- of packets that arrive
    held_edge : (target : ℕ) → F.is_edge (suc target) ≡ true → Held (suc target)
    held_edge target edge =
        let t : ℕ = suc target in
        record {
          hold_just = record {
            once = arrivals.arrival_found F sound q.limit t q.asked edge wa;
            else_none = arrivals.else_none F sound q.limit t q.asked edge wa;
            edge_port_lem = λ d m. (edge_set F sound q.limit t q.asked wa d m).edge;
            well_formed = λ d m. (edge_set F sound q.limit t q.asked wa d m).well_formed;
            only = arrivals.find_arrives F sound q.limit t q.asked edge wa;
          };
          sayable = λ d m.
              let is = edge_set F sound q.limit t q.asked wa d m in
              let low = low_of is in
              let c = find_sound F sound q.limit t q.asked wa d m _ low.0 low.1 in
              room_for is (omega (arith, c.short)) (way_entries F d.port _ c);
        }

    -- of packets that are lost
    held_lost : F.miss_drops ≡ false → Held 0
    held_lost old = record {
      hold_just = record {
        once = losses.loss_found F sound old q.limit q.asked wa;
        else_none = losses.else_none F sound old q.limit q.asked wa;
        edge_port_lem = λ d m. (losses.lost_edge_set F sound q.limit q.asked wa d m).edge;
        well_formed = λ d m. (losses.lost_edge_set F sound q.limit q.asked wa d m).well_formed;
        only = losses.find_loses F sound old q.limit q.asked wa;
      };
      sayable = λ d m.
          let is = losses.lost_edge_set F sound q.limit q.asked wa d m in
          let low = low_of is in
          let l = losses.find_loses F sound old q.limit q.asked wa d m _ low.0 low.1 in
          room_for is (omega (arith, l.within)) (losses.loss_entries F sound old q.limit q.asked d.port d.path _ l);
    }

    -- by the target that question 8 let through
    held : (target : ℕ) → list_target F target ≡ true → Held target
    held zero e = held_lost (lost_asked F sound e)
    held (suc target) e = held_edge target (edge_asked F (suc target) (λ z. let y : ⊥ = omega arith in y) e)

    list_said : (area : List ℕ) → list_target F q.port ≡ true → units (list_asked F q) ≤ q.budget
        → ListSays F q (answered (words_asked F q) area)
    unfolding answered
    list_said area e l =
        let ws : List ℕ = words_asked F q in
        let n : length ws * 256 / 256 ≡ length ws = omega arith in
        let h = held q.port e in
        record {
          listed =
              ap₂ (λ (k m : ℕ). finds_read F.words k (words_from m (bytes_of ws ++ drop (4 * length ws) area) 0)) n n
              ∙ ap (finds_read F.words (length ws))
              (words_back ws (drop (4 * length ws) area) (fit_finds F.words (finds (list_asked F q)) h.sayable))
              ∙ finds_back F.words (finds (list_asked F q)) h.sayable (length ws) (omega arith);
          hold_just = h.hold_just;
          within_budget_lem = l;
        }

-- ---- demand 3: of every call that succeeds, for then every question got a yes

pub demand_3 : (w : ℕ) (f : List ℕ) (q : Query) (area : List ℕ) → OfWords w q → Demand3 w f q area
demand_3 w f q area of = record {
  verdict_says = λ e.
      let yes = succeeded Calls.Verdict w of.width f q area e in
      let y = yes.yeses in
      let ok = accepted_own w of.width f yes.shape yes.is_read in
      let n = own yes.shape yes.is_read in
      subst (VerdictSays (fabric_in f) q) (sym ((demand_1 Calls.Verdict w f q area).all_answered yes.shape yes.is_read yes.no_no))
      (verdict_said f yes.shape ok q y.0 (tidied n y.1.1.0) (limit_range q.limit y.1.0).1 of.budget area
      (leb-true _ _ y.1.1.1.1.0));
  list_says = λ e.
      let yes = succeeded Calls.List w of.width f q area e in
      let y = yes.yeses in
      let ok = accepted_own w of.width f yes.shape yes.is_read in
      let n = own yes.shape yes.is_read in
      subst (ListSays (fabric_in f) q) (sym ((demand_1 Calls.List w f q area).all_answered yes.shape yes.is_read yes.no_no))
      (list_said f yes.shape ok q (tidied n y.1.1.0) (limit_range q.limit y.1.0).1 area y.0
      (leb-true _ _ y.1.1.1.0));
  run_says = λ e.
      let yes = succeeded Calls.Run w of.width f q area e in
      let y = yes.yeses in
      let ok = accepted_own w of.width f yes.shape yes.is_read in
      let n = own yes.shape yes.is_read in
      subst (RunSays (fabric_in f) q) (sym ((demand_1 Calls.Run w f q area).all_answered yes.shape yes.is_read yes.no_no))
      (run_said f yes.shape ok q y.1.1.0 (subst (λ (m : ℕ). Words m q.asked.value) n of.value)
      (limit_range q.limit y.0).1 area);
}
  where
    -- a file that the call accepts has headers of its words
    own : (s : Shape) → accepted w f ≡ Reads.Fabric s → w ≡ (fabric_in f).words
    own s e =
        let ok = accepted_own w of.width f s e in
        accepted_width f w of.width s e ∙ sym (words_are f s ok)

    tidied : w ≡ (fabric_in f).words → clean (fabric_in f).words q.asked ≡ true → WellFormed (fabric_in f).words q.asked
    tidied n e = record {
      care = subst (λ (m : ℕ). Words m q.asked.care) n of.care;
      value = subst (λ (m : ℕ). Words m q.asked.value) n of.value;
      is_tidy = and_fst _ _ e;
    }
