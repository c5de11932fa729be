-- The list: its passes, which have at most 8,481 words for each unit made and 33 for each port, and what is answered by them.
use mathlib.Core.Bool.{Bool, true, false, cond}
use mathlib.Core.List.{List, [], ◌∷◌, ◌++◌, map, flat_map}
use mathlib.Core.Option.{Option, some, none, bind, Option-elim}
use mathlib.Core.Path.{◌≡◌, refl, sym, ap, ap₂, ◌∙◌, subst}
use Prim.Native.Nat.{ℕ, zero, suc, ◌+◌, ◌*◌, ◌/◌, ◌^◌, ◌≤◌, ◌<◌}
use native.Mathlib.Omega.{arith}
use borrow.Author.Tests.{leb-true, le-leb, lt-leb}
use lib.Dec.{eqb, leb}
use lib.ListN.{length, length-append, length-map}
use Rattle.headers.specs.Bits.{bit_at, positions, keep_if, those, set_bits}
use Rattle.headers.specs.Sets.{Set, WellFormed, overlaps, joined, intersection}
use Rattle.headers.specs.Carving.{free, like, parts_at, parts, carve, Each}
use Rattle.headers.proofs.Positions.{words_long}
use Rattle.answer.specs.Answer.{Outcome, outcome, answered, written_at}
use Rattle.questions.specs.Questions.{pick, Question, ◌asks◌, first_no}
use Rattle.forwarding.specs.Fabric.{Fabric, in_port_of, out_port_of, entries_where, undoes}
use Rattle.forwarding.specs.BackTrace.{back, beaters}
use Rattle.forwarding.specs.Trace.{Find, Event, unit, find, carved, from_port, at_in_port, taken_up, stop}
use Rattle.forwarding.specs.Trace.{is_in_port, in_ports, entries_in, lost_at, lost_trace, list_trace, units, finds}
use Rattle.forwarding.proofs.Budget.{ends_within_lem}
use Rattle.layout.specs.Shape.{Shape}
use Rattle.layout.proofs.Widths.{width_is}
use Rattle.file.specs.Accepted.{Accepted}
use Rattle.model.specs.Model.{fabric_in}
use Rattle.model.proofs.EntryRead.{words_are}
use Rattle.model.proofs.Shapes.{ports_are}
use Rattle.model.proofs.Soundness.{fabric_sound}
use Rattle.events.specs.Play.{Played, find_words, list_words}
use Rattle.events.proofs.ListPlayed.{finds_in, words_of, ListedAll, listed_all, listed_stops}
use Rattle.events.proofs.Widened.{finds_own}
use Rattle.events.specs.Pass.{begin}
use Rattle.queries.specs.Queries.{list_target, trace_questions}
use Rattle.calls.specs.Questions.{Query, or_refused}
use Rattle.calls.specs.List.{list_asked, words_asked, list_questions, list_pass_of}
use Rattle.calls.proofs.Asking.{trace_numbered, no_answered, yes_answered}
use Rattle.calls.proofs.MoreAsked.{first_no_more, first_no_said}

-- ---- carving leaves few parts, of as many words

-- a care mask and a value of n words
abbrev pub Sized : ℕ → Set → Type 0
Sized n s = (length s.care ≡ n) × (length s.value ≡ n)

those_few : (t : ℕ → Bool) (l : List ℕ) → length (those t l) ≤ length l
unfolding those
those_few t [] = omega arith
those_few t (i ∷ l) = go (t i) (those_few t l)
  where
    go : (b : Bool) → length (those t l) ≤ length l → length (keep_if b i (those t l)) ≤ suc (length l)
    go true few = omega arith
    go false few = omega arith

positions_long : (k i : ℕ) → length (positions k i) ≡ k
unfolding positions
positions_long zero i = refl
positions_long (suc k) i = ap suc (positions_long k (suc i))

parts_long : (n : ℕ) (p b : Set) (l : List ℕ) → length (parts_at n p b l) ≡ length l
unfolding parts_at
parts_long n p b [] = refl
parts_long n p b (i ∷ l) = ap suc (parts_long n (like n p b i) b l)

parts_sized : (n : ℕ) (p b : Set) (l : List ℕ) → Each (Sized n) (parts_at n p b l)
unfolding parts_at Each
parts_sized n p b [] = tt
parts_sized n p b (i ∷ l) = ((words_long n _, words_long n _), parts_sized n (like n p b i) b l)

carve_few : (n : ℕ) (p b : Set) → length (carve n p b) ≤ n * 32 + 1
unfolding carve parts set_bits
carve_few n p b = go (overlaps n p b)
  where
    go : (o : Bool) → length (cond o (parts n p b) (p ∷ [])) ≤ n * 32 + 1
    go true = omega (
      arith,
      parts_long n p b (set_bits n (free n p b)),
      those_few (bit_at (free n p b)) (positions (n * 32) 0),
      positions_long (n * 32) 0,
    )
    go false = omega arith

carve_sized : (n : ℕ) (p b : Set) → Sized n p → Each (Sized n) (carve n p b)
unfolding carve parts Each
carve_sized n p b s = go (overlaps n p b)
  where
    go : (o : Bool) → Each (Sized n) (cond o (parts n p b) (p ∷ []))
    go true = parts_sized n p b (set_bits n (free n p b))
    go false = (s, tt)

-- ---- so a trace has few words for each unit: 33 for each of at most 257 parts

-- the words of the finds among events
abbrev find_words_of : List Event → ℕ
find_words_of es = words_of (finds es)

words_append : (a b : List Event) → find_words_of (a ++ b) ≡ find_words_of a + find_words_of b
unfolding finds list_words
words_append [] b = omega arith
words_append (unit ∷ a) b = words_append a b
words_append (find d ∷ a) b =
    omega (
      arith,
      length-append (find_words d) (list_words (finds (a ++ b))),
      length-append (find_words d) (list_words (finds a)),
      words_append a b,
    )

units_append : (a b : List Event) → units (a ++ b) ≡ units a + units b
unfolding units
units_append [] b = omega arith
units_append (unit ∷ a) b = omega (arith, units_append a b)
units_append (find d ∷ a) b = units_append a b

-- events with k words more than their units allow
abbrev Few : ℕ → List Event → Type 0
Few k es = find_words_of es ≤ k + 8481 * units es

few_parts : (n : ℕ) (g : Set → List Event) → ((s : Set) → Sized n s → Few 33 (g s))
    → (l : List Set) → Each (Sized n) l → Few (33 * length l) (flat_map g l)
unfolding flat_map Each finds list_words units
few_parts n g few [] e = omega arith
few_parts n g few (s ∷ l) e =
    omega (arith, few s e.0, few_parts n g few l e.1, words_append (g s) (flat_map g l), units_append (g s) (flat_map g l))

few_entries : (g : ℕ → List Event) → ((e : ℕ) → Few 0 (g e)) → (l : List ℕ) → Few 0 (flat_map g l)
unfolding flat_map finds list_words units
few_entries g few [] = omega arith
few_entries g few (e ∷ l) =
    omega (arith, few e, few_entries g few l, words_append (g e) (flat_map g l), units_append (g e) (flat_map g l))

module _ (F : Fabric) (eight : F.words ≤ 8) where
  few_carved : (next : Set → List Event) → ((s : Set) → Sized F.words s → Few 33 (next s))
      → (bs : List ℕ) (p : Set) → Sized F.words p → Few 33 (carved F next bs p)
  unfolding carved finds units
  few_carved next few [] p s = few p s
  few_carved next few (b ∷ bs) p s =
      let left = carve F.words p (F.entry b).matches in
      omega (
        arith,
        eight,
        few_parts F.words (carved F next bs) (few_carved next few bs) left (carve_sized F.words p (F.entry b).matches s),
        carve_few F.words p (F.entry b).matches,
      )

  few_found : (x : ℕ) (path : List ℕ) (p : Set) → length path ≤ 16 → Sized F.words p
      → Few 33 (find (record { port = x; path = path; set = p }) ∷ [])
  unfolding finds list_words find_words units
  few_found x path p short s =
      let entries : List ℕ = map (λ (e : ℕ). 7 * 2 ^ 28 + e) path in
      omega (
        arith,
        eight,
        s.0,
        s.1,
        length-map path (λ (e : ℕ). 7 * 2 ^ 28 + e),
        length-append p.care p.value,
        length-append entries (p.care ++ p.value),
        length-append (find_words (record { port = x; path = path; set = p })) [],
      )

  few_at : (next : ℕ → Set → List ℕ → List Event) (x : ℕ) (path : List ℕ) → length path ≤ 16
      → ((o : ℕ) (t : Set) → Few 0 (next o t path))
      → (p : Set) → Sized F.words p → Few 33 (at_in_port F next x path p)
  unfolding at_in_port finds list_words units
  few_at next x path short few p s = go (F.is_edge x) (F.link_from x)
    where
      go : (b : Bool) (y : ℕ) → Few 33 (cond b (find (record { port = x; path = path; set = p }) ∷ []) (from_port F next y path p))
      go true y = few_found x path p short s
      go false zero = omega arith
      go false (suc y) = omega (arith, few (suc y) p)

  few_taken_up : (next : ℕ → Set → List ℕ → List Event) (t : Set) (path : List ℕ) (e : ℕ) → length path < 16
      → ((o : ℕ) (s : Set) → Few 0 (next o s (e ∷ path)))
      → Few 0 (taken_up F next t path e)
  unfolding taken_up back bind intersection Option-elim finds list_words units
  few_taken_up next t path e short few = go (undoes F e t)
    where
      on : Set → List Event
      on = carved F (at_in_port F next (in_port_of F e) (e ∷ path)) (beaters F e)

      met : (r : Set) (b : Bool) → Few 0 (unit ∷ Option-elim (cond b (some (joined F.words r (F.entry e).matches)) none) [] on)
      met r true =
          omega (
            arith,
            few_carved (at_in_port F next (in_port_of F e) (e ∷ path)) (few_at next (in_port_of F e) (e ∷ path) (omega arith) few)
                (beaters F e) (joined F.words r (F.entry e).matches) (words_long F.words _, words_long F.words _),
          )
      met r false = omega arith

      go : (o : Option Set) → Few 0 (unit ∷ Option-elim (bind o (λ s. intersection F.words s (F.entry e).matches)) [] on)
      go none = omega arith
      go (some r) = met r (overlaps F.words r (F.entry e).matches)

  few_stop : (k o : ℕ) (t : Set) (path : List ℕ) → length path + k ≤ 16 → Few 0 (stop F k o t path)
  unfolding stop finds list_words units
  few_stop zero o t path short = omega arith
  few_stop (suc k) o t path short =
      few_entries (taken_up F (stop F k) t path)
      (λ e. few_taken_up (stop F k) t path e (omega arith) (λ o s. few_stop k o s (e ∷ path) (omega arith)))
      (entries_where F (λ e. eqb (out_port_of F e) o))

  -- what is lost at a port may be found without a unit
  few_ports : (g : ℕ → List Event) → ((x : ℕ) → Few 33 (g x)) → (l : List ℕ) → Few (33 * length l) (flat_map g l)
  unfolding flat_map finds list_words units
  few_ports g few [] = omega arith
  few_ports g few (x ∷ l) = omega (arith, few x, few_ports g few l, words_append (g x) (flat_map g l), units_append (g x) (flat_map g l))

  few_lost : (k : ℕ) (t : Set) → k ≤ 16 → Sized F.words t → Few (33 * F.ports) (lost_trace F k t)
  unfolding lost_trace lost_at finds list_words units
  few_lost zero t short s = omega arith
  few_lost (suc k) t short s =
      omega (
        arith,
        few_ports (lost_at F (stop F k) t)
            (λ x. few_carved (at_in_port F (stop F k) x [])
            (few_at (stop F k) x [] (omega arith) (λ o u. few_stop k o u [] (omega arith))) (entries_in F x) t s)
            (in_ports F),
        those_few (is_in_port F) (positions F.ports 0),
        positions_long F.ports 0,
      )

  few_listed : (limit target : ℕ) (t : Set) → limit ≤ 16 → Sized F.words t → Few (33 * F.ports) (list_trace F limit target t)
  few_listed limit zero t short s = few_lost limit t short s
  few_listed limit (suc target) t short s = omega (arith, few_stop limit (suc target) t [] (omega arith))

-- ---- the passes

-- 13. "Did the back-trace end within the budget?"
abbrev pub within_budget : List ℕ → Query → Bool
within_budget f q = leb (units (list_asked (fabric_in f) q)) q.budget

module _ (f : List ℕ) (s : Shape) (ok : Accepted f s) (q : Query) (short : q.limit ≤ 16) (small : q.budget < 2 ^ 32)
    (formed : WellFormed (fabric_in f).words q.asked) where
  -- the words of a header
  abbrev n : ℕ
  n = (fabric_in f).words

  abbrev es : List Event
  es = list_asked (fabric_in f) q

  at_most_eight : n ≤ 8
  at_most_eight = omega (arith, words_are f s ok, (width_is f).high)

  pub few_words : within_budget f q ≡ true → words_of (finds es) < 2 ^ 46
  few_words within =
      omega (
        arith,
        leb-true (units es) q.budget within,
        few_listed (fabric_in f) at_most_eight q.limit q.port q.asked short (formed.care.long, formed.value.long),
        ports_are f,
      )

  own : finds_in n es ≡ finds es
  own = finds_own 8 (fabric_in f) (fabric_sound f s ok) at_most_eight q.limit q.port q.asked formed

  module _
      (area : List ℕ) (p : Played) (e : p ≡ list_pass_of n (fabric_in f) q area)
    where
      -- a pass within the budget counts all words, and writes them if there is room for all
      pub all_listed : within_budget f q ≡ true → ListedAll (begin area) (finds es) p
      all_listed within =
          subst (ListedAll (begin area) (finds es)) (sym e)
          (subst (λ (ds : List Find). ListedAll (begin area) ds (list_pass_of n (fabric_in f) q area)) own
          (listed_all n q.budget es (begin area) (ends_within_lem q.budget es ∙ within)
          (omega (arith, ap words_of own, few_words within))))

      -- its status says whether it was within the budget
      pub through_within : p.status ≡ 0 → within_budget f q ≡ true
      through_within through = go (within_budget f q) refl
        where
          go : (b : Bool) → within_budget f q ≡ b → within_budget f q ≡ true
          go true t = t
          go false t =
              let used = listed_stops n q.budget es (begin area) (ends_within_lem q.budget es ∙ t) in
              absurd (let y : ⊥ = omega (arith, ap (λ (x : Played). x.status) e) in y)

      pub else_over : (p.status ≡ 0 → ⊥) → within_budget f q ≡ false
      else_over d = go (within_budget f q) refl
        where
          go : (b : Bool) → within_budget f q ≡ b → within_budget f q ≡ false
          go true t = absurd (d (all_listed t).through)
          go false t = t

-- ---- what is answered

module _ (f : List ℕ) (q : Query) (area : List ℕ) where
  abbrev ws : List ℕ
  ws = words_asked (fabric_in f) q

  -- the questions asked before the trace, and after it
  abbrev asked_first : List Question
  asked_first = trace_questions (fabric_in f).words (list_target (fabric_in f) q.port) q.limit q.asked

  abbrev asked_then : List Question
  asked_then = 13 asks within_budget f q ∷ 12 asks leb (4 * length ws) (length area) ∷ []

  abbrev number : ℕ
  number = first_no (list_questions (fabric_in f) q area)

  abbrev answer : Outcome
  answer = or_refused number area (answered ws area)

  pub first_answered : (said : ℕ) → said ≡ first_no asked_first → (said ≡ 0 → ⊥) → outcome said area ≡ answer
  first_answered said e d =
      no_answered said number area (answered ws area) (e ∙ sym (first_no_said asked_first asked_then (λ z. d (e ∙ z)))) d

  module _ (z : first_no asked_first ≡ 0) where
    then_asked : (within room : Bool) → within_budget f q ≡ within → leb (4 * length ws) (length area) ≡ room
        → number ≡ pick within (pick room 0 12) 13
    then_asked within room w r =
        first_no_more asked_first asked_then
        (trace_numbered (fabric_in f).words (list_target (fabric_in f) q.port) q.limit q.asked) z
        ∙ ap₂ (λ (a b : Bool). pick a (pick b 0 12) 13) w r

    -- "if one more is needed, question 13 gets a no"
    pub over_answered : within_budget f q ≡ false → outcome 13 area ≡ answer
    over_answered over =
        no_answered 13 number area (answered ws area) (sym (then_asked false (leb (4 * length ws) (length area)) over refl))
        (λ y. let n : ⊥ = omega arith in n)

    module _ (within : within_budget f q ≡ true) {words : ℕ} (are : words ≡ length ws) where
      pub no_room_answered : length area / 4 < words → outcome 12 area ≡ answer
      no_room_answered over =
          no_answered 12 number area (answered ws area)
          (sym (then_asked true false within (lt-leb (4 * length ws) (length area) (omega arith))))
          (λ y. let n : ⊥ = omega arith in n)

      pub words_answered : words ≤ length area / 4 → {last : List ℕ} → last ≡ written_at 0 ws area
          → outcome (words * 256) last ≡ answer
      words_answered fits written =
          yes_answered number (words * 256) ws area _ (then_asked true true within (le-leb (4 * length ws) (length area) (omega arith)))
          (ap (λ (n : ℕ). n * 256) are) written
