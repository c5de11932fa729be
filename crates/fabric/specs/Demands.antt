-- The user's three demands, clauses D1 to D3g; proofs/Demands.antt proves them. They speak of forwarding, and of what a call returns and
-- leaves in the area lent: that a call ends, and returns and leaves what `call_of` says, is its contract. Assumes nothing.
use Rattle.std.specs.Prelude.{Bool, true, ◌&&◌, cond, ◌↔◌, ◌≡◌, ℕ, zero, suc, ◌+◌, ◌/◌, ◌%◌, ◌^◌}
use Rattle.std.specs.Prelude.{◌≤◌, ◌<◌, eqb, leb, length, drop}
use mathlib.Core.List.{List, [], ◌∷◌, ◌++◌, reverse, Memᴰ}
use Rattle.std.proofs.Math.Option.{Option, some, none, map}
use Rattle.headers.specs.Bits.{Words, word, words, every}
use Rattle.headers.specs.Sets.{Header, Set, contains, WellFormed}
use Rattle.answer.specs.Answer.{answer_words, Outcome, refused, answered}
use Rattle.layout.specs.Words.{bits, word_at, words_from}
use Rattle.layout.specs.Records.{Width, set_words}
use Rattle.layout.specs.Shape.{Shape}
use Rattle.questions.specs.Questions.{accepted, first_no}
use Rattle.questions.specs.Read.{Fabric, No}
use Rattle.forwarding.specs.Fabric as Forwarding
use Rattle.forwarding.specs.Fabric.{in_port_of, applied}
use Rattle.forwarding.specs.Run.{Packet, takes, run, fate_of, port_of, header_of, entries_taken}
use Rattle.forwarding.specs.Choices.{Tie, CanEnd, IsListed}
use Rattle.forwarding.specs.BackTrace.{back_traced}
use Rattle.forwarding.specs.Trace.{Find, Event, find, units, finds, finds_by}
use Rattle.forwarding.specs.Verdict.{foreign_packet, Leak, NoLeak}
use Rattle.model.specs.Model.{fabric_in}
use Rattle.calls.specs.Questions.{Query}
use Rattle.calls.specs.List.{list_asked, list_call}
use Rattle.calls.specs.Verdict.{trace_asked, verdict_call}
use Rattle.calls.specs.Run.{run_call}
use Rattle.fabric.specs.Calls.{questions_of, words_of, call_of}
use Rattle.fabric.specs.declared.Call.{Call}

-- ---- demand 1

-- D1: a call answers the first question that gets a no and then changes no byte lent, or else its words. Of each call, verdict, list and
-- run, for files whose headers have w words, with the questions and the words that `questions_of` and `words_of` name.
pub record Demand1 (c : Call) (w : ℕ) (f : List ℕ) (q : Query) (area : List ℕ) : Type 0 where
  -- questions 1 to 7
  pub file_refused : (number place : ℕ) → accepted w f ≡ No number place → call_of c w f q area ≡ refused number place area
  -- the call's own, with place 0
  pub query_refused : (s : Shape) → accepted w f ≡ Fabric s → (first_no (questions_of c (fabric_in f) q area) ≡ 0 → ⊥)
      → call_of c w f q area ≡ refused (first_no (questions_of c (fabric_in f) q area)) 0 area
  pub all_answered : (s : Shape) → accepted w f ≡ Fabric s → first_no (questions_of c (fabric_in f) q area) ≡ 0
      → call_of c w f q area ≡ answered (words_of c (fabric_in f) q) area

-- ---- demand 2

-- D2: a header is in a part of entry e traced back for the exit set t exactly if e takes it and the header that e makes of it is in t
abbrev pub Demand2 : Forwarding.Fabric → Type 0
Demand2 f =
    (e : ℕ) (t : Set) (h : Header) → e < f.entries → WellFormed f.words t → Words f.words h
    → ((s : Set) × Memᴰ s (back_traced f e t) × (contains f.words s h ≡ true))
    ↔ ((takes f e (in_port_of f e) h ≡ true) × (contains f.words t (applied f e h) ≡ true))

-- ---- what a call says: its words, read back from the area

-- A4, A5: the number is what is returned modulo 256, and is 0 for a success ..
abbrev pub Succeeds : Outcome → Type 0
Succeeds o = o.returned % 256 ≡ 0

-- .. and the place is how many words were written
abbrev pub words_written : Outcome → ℕ
words_written o = o.returned / 256

-- A3: word k of the area afterwards, the lowest byte first
abbrev pub said : Outcome → ℕ → ℕ
said o k = word_at o.area k

-- ---- demand 3, the verdict

-- V4: the first find with a foreign packet, and the units made before it
pub record FirstForeign (f : Forwarding.Fabric) (q : Query) (u p : ℕ) (path : List ℕ) (h : Header) : Type 0 where
  pub before : List Event
  pub at : Find
  pub after : List Event
  pub events : trace_asked f q ≡ before ++ find at ∷ after
  pub made : u ≡ units before
  pub none_before : (d : Find) → Memᴰ d (finds before) → foreign_packet f q.port d ≡ none
  pub packet : foreign_packet f q.port at ≡ some h
  pub port_is : at.port ≡ p
  pub path_is : at.path ≡ path

-- A9: word 0 is 0 for isolated and 1 for reached; then units, edge port, hops, the header, and the entries in travelling order
module _ (o : Outcome) where
  abbrev pub units_said : ℕ
  units_said = said o 1

  abbrev pub port_said : ℕ
  port_said = said o 2

  abbrev pub hops_said : ℕ
  hops_said = said o 3

  -- of headers of n words
  abbrev pub header_said : ℕ → Header
  header_said n = words_from n o.area 4

  abbrev pub entries_said : ℕ → List ℕ
  entries_said n = words_from hops_said o.area (4 + n)

pub record VerdictSays (f : Forwarding.Fabric) (q : Query) (o : Outcome) : Type 0 where
  -- A9: it fills 24 words, 28 in version 2, and word 0 is 0 or 1
  pub fills : words_written o ≡ answer_words f.words
  pub one_or_other : (said o 0 ≡ 0 → ⊥) → said o 0 ≡ 1
  -- D3a: isolated exactly if no foreign packet arrives under any choice; A10: then 0 from word 2 on
  pub isolated_exactly : said o 0 ≡ 0 ↔ NoLeak f q.limit q.port q.asked
  pub isolated_rest : said o 0 ≡ 0 → (k : ℕ) → 2 ≤ k → k < answer_words f.words → said o k ≡ 0
  -- D3b: else the packet is that of the first find with a foreign packet ..
  pub reached_first : said o 0 ≡ 1 → FirstForeign f q (units_said o) (port_said o) (entries_said o f.words) (header_said o f.words)
  -- .. it is foreign and arrives, under the choice of the entries said, which took it too if its run is not tied; A12: unused words are 0
  pub reached_leak : said o 0 ≡ 1 → Leak f q.limit q.port q.asked (port_said o) (entries_said o f.words) (header_said o f.words)
  pub reached_run : said o 0 ≡ 1 → ¬ (fate_of f (run f q.limit (port_said o) (header_said o f.words)) ≡ 4)
      → entries_taken (run f q.limit (port_said o) (header_said o f.words)) ≡ entries_said o f.words
  pub reached_rest : said o 0 ≡ 1 → (k : ℕ) → 4 + f.words + hops_said o ≤ k → k < answer_words f.words → said o k ≡ 0
  -- D3d: isolated has the units of the whole back-trace, reached those before its find (reached-first), and the budget had them
  pub isolated_units : said o 0 ≡ 0 → units_said o ≡ units (trace_asked f q)
  pub within_budget_lem : units_said o ≤ q.budget

-- ---- demand 3, the list

-- A13, the find at the head of some words: a word of kind 6 with hops and edge port, for each entry one of kind 7 with its number, care
-- and value of n words each
module _ (n : ℕ) (ws : List ℕ) where
  abbrev pub hops_read : ℕ
  hops_read = bits 27 12 (word ws 0)

  abbrev pub set_at : ℕ
  set_at = 1 + hops_read

  abbrev pub find_size : ℕ
  find_size = set_at + set_words n

  abbrev pub find_read : Find
  find_read = record {
    port = bits 11 0 (word ws 0);
    path = words hops_read (λ k. bits 27 0 (word ws (1 + k)));
    set = record {
      care = words n (λ w. word ws (set_at + w));
      value = words n (λ w. word ws (set_at + n + w));
    };
  }

  -- the kinds are right, and all of it is there
  abbrev pub is_find : Bool
  is_find = eqb (bits 31 28 (word ws 0)) 6 && every hops_read (λ k. eqb (bits 31 28 (word ws (1 + k))) 7) && leb find_size (length ws)

-- the finds that some words say, one after the other, or none where they say anything else; a find takes a word at least, so as many turns
-- as words never run out
unfoldable pub finds_read : ℕ → ℕ → List ℕ → Option (List Find)
finds_read n zero [] = some []
finds_read n zero (w ∷ ws) = none
finds_read n (suc k) [] = some []
finds_read n (suc k) (w ∷ ws) =
    let later = finds_read n k (drop (find_size n (w ∷ ws)) (w ∷ ws)) in
    cond (is_find n (w ∷ ws)) (map (λ l. find_read n (w ∷ ws) ∷ l) later) none

abbrev pub finds_said : Outcome → ℕ → Option (List Find)
finds_said o n = finds_read n (words_written o) (words_from (words_written o) o.area 0)

-- D3c: the finds hold just the pairs of an edge port and a header that P names, each by the entries with which it names it
pub record HoldJust (f : Forwarding.Fabric) (l : List Find) (P : ℕ → List ℕ → Header → Type 0) : Type 0 where
  -- each pair is in just one find by the entries of each choice under which it is named, so in one at least if it is named ..
  pub once : (p : ℕ) (path : List ℕ) (h : Header) → f.is_edge p ≡ true → Words f.words h
      → P p path h → finds_by f.words p path h l ≡ 1
  -- .. and in none by any other entries
  pub else_none : (p : ℕ) (path : List ℕ) (h : Header) → f.is_edge p ≡ true → Words f.words h
      → ¬ P p path h → finds_by f.words p path h l ≡ 0
  -- a find is a set of headers at an edge port, and each of its packets is named under the choice of its entries
  pub edge_port_lem : (d : Find) → Memᴰ d l → f.is_edge d.port ≡ true
  pub well_formed : (d : Find) → Memᴰ d l → WellFormed f.words d.set
  pub only : (d : Find) → Memᴰ d l → (h : Header) → Words f.words h
      → contains f.words d.set h ≡ true → P d.port d.path h

pub record ListSays (f : Forwarding.Fabric) (q : Query) (o : Outcome) : Type 0 where
  -- D3c: the words written are the finds of the trace, in its order
  pub listed : finds_said o f.words ≡ some (finds (list_asked f q))
  -- D3c: they hold just the packets that arrive; D3g: for target 0, those that are lost
  pub hold_just : HoldJust f (finds (list_asked f q)) (IsListed f q.limit q.port q.asked)
  -- D3d: the budget had the units of the whole trace
  pub within_budget_lem : units (list_asked f q) ≤ q.budget

-- ---- the run

-- A11: the words of a run have the places of a verdict's, but for the fate in word 0 and a 0 in word 1. They say what has become of a
-- packet.
pub record PacketSaid (f : Forwarding.Fabric) (o : Outcome) (s : Packet) : Type 0 where
  pub fate : said o 0 ≡ fate_of f s
  pub port : port_said o ≡ port_of s
  pub header : header_said o f.words ≡ header_of s
  pub entries : entries_said o f.words ≡ entries_taken s

pub record RunSays (f : Forwarding.Fabric) (q : Query) (o : Outcome) : Type 0 where
  -- A11: it fills 24 words, 28 in version 2; A12: unused words are 0
  pub fills : words_written o ≡ answer_words f.words
  pub second : said o 1 ≡ 0
  pub rest : (k : ℕ) → 4 + f.words + hops_said o ≤ k → k < answer_words f.words → said o k ≡ 0
  -- D3f: a packet whose run is not tied can end as is said, and in no other way ..
  pub can_end : ¬ (said o 0 ≡ 4) → (s : Packet) × CanEnd f q.limit q.port q.asked.value s × PacketSaid f o s
  pub only_end : ¬ (said o 0 ≡ 4) → (s : Packet) → CanEnd f q.limit q.port q.asked.value s → PacketSaid f o s
  -- .. and one whose run is tied can come where is said, with a hop left, and more than one entry may take it there
  pub tied_there : said o 0 ≡ 4
      → Tie f q.port q.asked.value (port_said o) (header_said o f.words) (reverse (entries_said o f.words))
  pub hop_left : said o 0 ≡ 4 → hops_said o < q.limit

-- ---- demand 3

-- A2: the calls are handed numbers of 32 bits, for headers of w words
pub record OfWords (w : ℕ) (q : Query) : Type 0 where
  pub width : Width w
  pub budget : q.budget < 2 ^ 32
  pub care : Words w q.asked.care
  pub value : Words w q.asked.value

-- D3e: of every file, query and area, a verdict, a list and a run that succeed say what forwarding does
pub record Demand3 (w : ℕ) (f : List ℕ) (q : Query) (area : List ℕ) : Type 0 where
  pub verdict_says : Succeeds (verdict_call w f q area) → VerdictSays (fabric_in f) q (verdict_call w f q area)
  pub list_says : Succeeds (list_call w f q area) → ListSays (fabric_in f) q (list_call w f q area)
  pub run_says : Succeeds (run_call w f q area) → RunSays (fabric_in f) q (run_call w f q area)
