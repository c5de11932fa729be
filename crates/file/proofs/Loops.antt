-- The three loops of the reader: what each has in hand, what a turn keeps, and what a no gives. hw is the words of a header in the
-- file.
use mathlib.Core.List.{List, []}
use mathlib.Core.Path.{◌≡◌, refl, sym, ap, ◌∙◌}
use Prim.Native.Nat.{ℕ, ◌+◌, ◌≤◌, ◌<◌}
use native.Mathlib.Omega.{arith}
use lib.ListN.{get_or, set, replicate}
use borrow.Author.Tests.{ne_eqb}
use Rattle.layout.specs.Words.{word_at, words_in, kind_of, port_of, from_of}
use Rattle.layout.specs.Records.{width_in, edge_words, entry_words, place_of, place_in}
use Rattle.layout.specs.Records.{port_of_edge, from_of_link, to_of_link, in_of_entry, recent}
use Rattle.layout.specs.Limits.{most_at_port}
use Rattle.questions.specs.Questions.{latest, times}
use Rattle.questions.specs.Read.{No}
use Rattle.questions.specs.Reading.{passed_at, Here, asked_at}
use Rattle.questions.specs.Tables.{Counts, EdgeTable, StartTable, EndTable}
use Rattle.questions.proofs.Lists.{recent_more}
use Rattle.questions.proofs.Yes.{yeses, EdgeIs, edge_is, LinkIs, link_is, EntryIs, entry_is}
use Rattle.file.specs.Reading.{rest}
use Rattle.file.proofs.Numbering.{zeros, numbered, counted}
use Rattle.file.proofs.Steps.{stops, next_edge, next_link, next_entry}

-- ---- what a loop has in hand

-- a run begun after e₀ edges, l₀ links and n₀ entries got to here, with yeses
pub record SoFar (f : List ℕ) (e₀ l₀ n₀ e l n place : ℕ) : Type 0 where
  pub place_is : place ≡ place_in f e l n
  pub inside : place ≤ words_in f
  pub answer : rest f e₀ l₀ n₀ ≡ rest f e l n

pub record EdgesSoFar (f : List ℕ) (e place last : ℕ) (edges : List ℕ) : Type 0 where
  pub so_far : SoFar f 0 0 0 e 0 0 place
  pub last_is : last ≡ latest (recent (port_of_edge f) e)
  pub edge_at_lem : EdgeTable f e edges

pub record LinksSoFar (f : List ℕ) (e l place last : ℕ) (starts ends : List ℕ) : Type 0 where
  pub so_far : SoFar f e 0 0 e l 0 place
  pub last_is : last ≡ latest (recent (from_of_link f e) l)
  pub start_at : StartTable f e l starts
  pub end_at : EndTable f e l ends

pub record EntriesSoFar (f : List ℕ) (e l n place : ℕ) (counts : List ℕ) : Type 0 where
  pub so_far : SoFar f e l 0 e l n place
  pub counted : Counts (recent (in_of_entry f e l) n) counts

-- ---- a run of any kind, at a record and as it is left

module _ (f : List ℕ) (e₀ l₀ n₀ e l n place : ℕ) (s : SoFar f e₀ l₀ n₀ e l n place) where
  -- the record in hand, by the word and the kind that were read
  pub here : (w k q : ℕ) → place < words_in f → w ≡ word_at f place → q ≡ kind_of w → q ≡ k → Here f e l n k w
  here w k q i hw hq h = record { inside = rw s.place_is at i; word_is = hw ∙ ap (word_at f) s.place_is; kind_is = sym hq ∙ h }

  -- a no to it is what the questions answer
  pub refused : (q : ℕ) → 0 < q → q ≡ asked_at f e l n → No q place ≡ rest f e₀ l₀ n₀
  refused q l' a =
      let i : place_in f e l n ≤ words_in f = rw s.place_is at s.inside in
      let z : q ≡ 0 → ⊥ = λ z. let y : ⊥ = omega arith in y in
      rw s.place_is (sym (s.answer ∙ stops f e l n i q (rest f e l n) a z ∙ simp (ne_eqb q 0 z)))

  further : (e' l' n' place' : ℕ) → place' ≡ place_in f e' l' n' → place' ≤ words_in f → rest f e l n ≡ rest f e' l' n'
      → SoFar f e₀ l₀ n₀ e' l' n' place'
  further e' l' n' place' p i r = record { place_is = p; inside = i; answer = s.answer ∙ r }

latest_more : (g : ℕ → ℕ) (n p : ℕ) → p ≡ g n → p ≡ latest (recent g (n + 1))
latest_more g n p h = h ∙ sym (ap latest (recent_more g n))

-- ---- edges

-- an edge with the word w got five yeses
module _ (f : List ℕ) (e place last : ℕ) (t : List ℕ) (s : EdgesSoFar f e place last t) (w q : ℕ)
    (h : Here f e 0 0 2 w) (hq : q ≡ asked_at f e 0 0) (z : q ≡ 0) where
  edge_here : EdgeIs f e
  edge_here = edge_is f e (rw h.word_is at h.kind_is) (yeses f (passed_at f e 0 0) (sym hq ∙ z))

  pub edges_next : (port hw size : ℕ) → port ≡ port_of w → hw ≡ width_in f → size ≡ edge_words hw
      → EdgesSoFar f (e + 1) (place + size) port (set t port (e + 1))
  edges_next port hw size hp hh hs =
      let p : port ≡ port_of_edge f e = hp ∙ ap port_of h.word_is in
      let i = edge_here.inside in
      let o = s.so_far in
      rw (hs, hh) record {
        so_far =
            further f 0 0 0 e 0 0 place o (e + 1) 0 0 (place + edge_words (width_in f)) (omega (arith, o.place_is))
            (omega (arith, o.place_is))
            (next_edge f e (omega arith) (rw h.word_is at h.kind_is) (sym hq ∙ z));
        last_is = latest_more (port_of_edge f) e port p;
        edge_at_lem = numbered (port_of_edge f) e port t p (omega arith) s.edge_at_lem;
      }

-- ---- links

module _ (f : List ℕ) (e l place last : ℕ) (starts ends : List ℕ) (s : LinksSoFar f e l place last starts ends) (w q : ℕ)
    (h : Here f e l 0 3 w) (hq : q ≡ asked_at f e l 0) (z : q ≡ 0) where
  link_here : LinkIs f e l
  link_here = link_is f e l (rw h.word_is at h.kind_is) (yeses f (passed_at f e l 0) (sym hq ∙ z))

  pub links_next : (from to : ℕ) → from ≡ from_of w → to ≡ port_of w
      → LinksSoFar f e (l + 1) (place + 1) from (set starts from (l + 1)) (set ends to (l + 1))
  links_next from to hf ht =
      let p : from ≡ from_of_link f e l = hf ∙ ap from_of h.word_is in
      let r : to ≡ to_of_link f e l = ht ∙ ap port_of h.word_is in
      let i = link_here.inside in
      let o = s.so_far in
      record {
        so_far =
            further f e 0 0 e l 0 place o e (l + 1) 0 (place + 1) (omega (arith, o.place_is)) (omega (arith, o.place_is))
            (next_link f e l (omega arith) (rw h.word_is at h.kind_is) (sym hq ∙ z));
        last_is = latest_more (from_of_link f e) l from p;
        start_at = numbered (from_of_link f e) l from starts p (omega arith) s.start_at;
        end_at = numbered (to_of_link f e) l to ends r (omega arith) s.end_at;
      }

-- ---- entries

pub entries_start : (f : List ℕ) (hw e l place : ℕ) → hw ≡ width_in f → place ≡ place_of hw e l 0
    → place_in f e l 0 ≤ words_in f
    → EntriesSoFar f e l 0 place (replicate 4096 0)
entries_start f hw e l place hh hp h =
    let here : place ≡ place_in f e l 0 = hp ∙ ap (λ (w : ℕ). place_of w e l 0) hh in
    record {
      so_far = record { place_is = here; inside = omega arith; answer = refl };
      counted = zeros (λ p. times p []) (λ p. refl);
    }

module _ (f : List ℕ) (e l n place : ℕ) (counts : List ℕ) (s : EntriesSoFar f e l n place counts) (w q port : ℕ)
    (h : Here f e l n 4 w) (hq : q ≡ asked_at f e l n) (z : q ≡ 0) (hp : port ≡ port_of w) where
  entry_here : EntryIs f e l n
  entry_here = entry_is f e l n (rw h.word_is at h.kind_is) (yeses f (passed_at f e l n) (sym hq ∙ z))

  port_is : port ≡ in_of_entry f e l n
  port_is = hp ∙ ap port_of h.word_is

  -- there is room for one more entry of its in-port
  pub entry_room : get_or counts port 0 < most_at_port
  entry_room = rw (s.counted.holds port (omega arith), port_is) entry_here.port_limit

  pub entries_next : (hw size : ℕ) → hw ≡ width_in f → size ≡ entry_words hw
      → EntriesSoFar f e l (n + 1) (place + size) (set counts port (get_or counts port 0 + 1))
  entries_next hw size hh hs =
      let i = entry_here.inside in
      let o = s.so_far in
      rw (hs, hh) record {
        so_far =
            further f e l 0 e l n place o e l (n + 1) (place + entry_words (width_in f)) (omega (arith, o.place_is))
            (omega (arith, o.place_is))
            (next_entry f e l n (omega arith) (rw h.word_is at h.kind_is) (sym hq ∙ z));
        counted = counted (in_of_entry f e l) n port counts port_is (omega arith) s.counted;
      }
