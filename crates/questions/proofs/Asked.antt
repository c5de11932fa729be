-- Questions 3 to 7, kind by kind, of the record after e edges, l links and n entries, in a file whose headers have hw words.
use mathlib.Core.Bool.{Bool, true, false, not, ◌&&◌, and-true, and-false}
use mathlib.Core.List.{List}
use mathlib.Core.Path.{◌≡◌}
use Prim.Native.Nat.{ℕ, ◌+◌, ◌≤◌, ◌<◌}
use native.Mathlib.Omega.{arith}
use lib.Dec.{ltb, leb, eqb}
use borrow.Author.Tests.{lt-ltb, le-leb, lt-leb}
use Rattle.layout.specs.Words.{word_at, words_in, bits, kind_of, version_of, count_of, transfer_of, port_of, from_of, rank_of}
use Rattle.layout.specs.Records.{width_in, admitted_at, edge_words, match_at, rewrite_at, entry_words, set_from, place_in}
use Rattle.layout.specs.Records.{port_of_edge, from_of_link, to_of_link, in_of_entry, recent}
use Rattle.layout.specs.Limits.{most_entries}
use Rattle.layout.proofs.Words.{port_range, from_range}
use Rattle.questions.specs.Questions.{pick, latest, times, clean, version}
use Rattle.questions.specs.Questions.{asked, in_order, ports_right, sets_tidy, link_free, within_limits, started}
use Rattle.questions.specs.Reading.{last_kind, passed_at, Here, asked_at}
use Rattle.questions.specs.Tables.{number}
use Rattle.questions.proofs.Lists.{recent_long, elem_number}
use Rattle.questions.proofs.Turns.{InTurn}

-- ---- the last kind

pick_le : (b : Bool) (x y k : ℕ) → x ≤ k → y ≤ k → pick b x y ≤ k
pick_le true x y k h l = h
pick_le false x y k h l = l

up_to_edges : (e k : ℕ) → 2 ≤ k → last_kind e 0 0 ≤ k
up_to_edges e k h = pick_le (ltb 0 e) 2 1 k h (omega arith)

up_to_links : (e l k : ℕ) → 3 ≤ k → last_kind e l 0 ≤ k
up_to_links e l k h = pick_le (ltb 0 l) 3 (last_kind e 0 0) k h (up_to_edges e k (omega arith))

pub up_to_entries : (e l n k : ℕ) → 4 ≤ k → last_kind e l n ≤ k
up_to_entries e l n k h = pick_le (ltb 0 n) 4 (last_kind e l 0) k h (up_to_links e l k (omega arith))

-- ---- an edge

module _ (f : List ℕ) (hw e at w size : ℕ) (hh : hw ≡ width_in f) (h : Here f e 0 0 2 w) (ha : at ≡ place_in f e 0 0)
    (hs : size ≡ edge_words hw) where
  edge_kind : kind_of (word_at f (place_in f e 0 0)) ≡ 2
  edge_kind = rw h.word_is at h.kind_is

  pub edge_cut : words_in f < at + size → 3 ≡ asked_at f e 0 0
  unfolding asked in_order passed_at
  edge_cut short =
      let j = lt-leb (place_in f e 0 0 + edge_words (width_in f)) (words_in f) (rw (ha, hs, hh) at short) in
      simp (edge_kind, and-false, j)

  pub edge_asked : at + size ≤ words_in f → (last port r : ℕ) (t : Bool)
      → last ≡ latest (recent (port_of_edge f) e) → port ≡ port_of w → t ≡ clean hw (set_from hw f (at + admitted_at))
      → InTurn r true (leb 1 port && ltb last port) t true (ltb e 64)
      → r ≡ asked_at f e 0 0
  unfolding asked in_order ports_right sets_tidy link_free within_limits passed_at
  edge_asked fits last port r t hl hp ht hr =
      let i = lt-ltb (place_in f e 0 0) (words_in f) h.inside in
      let j = le-leb (place_in f e 0 0 + edge_words (width_in f)) (words_in f) (rw (ha, hs, hh) at fits) in
      let o = le-leb (last_kind e 0 0) 2 (up_to_edges e 2 (omega arith)) in
      rw (hr.said, hl, hp, ht, ha, hh, h.word_is) (simp (edge_kind, o, port_range, and-true, recent_long, i, j))

-- ---- a link

module _ (f : List ℕ) (e l w : ℕ) (h : Here f e l 0 3 w) where
  link_kind : kind_of (word_at f (place_in f e l 0)) ≡ 3
  link_kind = rw h.word_is at h.kind_is

  pub link_asked : (last from to mf mt me r : ℕ)
      → last ≡ latest (recent (from_of_link f e) l) → from ≡ from_of w → to ≡ port_of w
      → mf ≡ number (recent (port_of_edge f) e) from → mt ≡ number (recent (port_of_edge f) e) to
      → me ≡ number (recent (to_of_link f e) l) to
      → InTurn r (eqb (bits 27 24 w) 0) (leb 1 from && leb 1 to && ltb last from && not (eqb from to)) true
      (eqb mf 0 && eqb mt 0 && eqb me 0) (ltb l 256)
      → r ≡ asked_at f e l 0
  unfolding asked in_order ports_right sets_tidy link_free within_limits passed_at
  link_asked last from to mf mt me r hl hf ht hmf hmt hme hr =
      let i = lt-ltb (place_in f e l 0) (words_in f) h.inside in
      let j = le-leb (place_in f e l 0 + 1) (words_in f) (omega (arith, h.inside)) in
      let o = le-leb (last_kind e l 0) 3 (up_to_links e l 3 (omega arith)) in
      rw (hr.said, hmf, hmt, hme, hl, hf, ht, h.word_is)
      (simp (link_kind, o, port_range, from_range, and-true, recent_long, elem_number, i, j))

-- ---- an entry

module _ (f : List ℕ) (hw e l n at w size : ℕ) (hh : hw ≡ width_in f) (h : Here f e l n 4 w) (ha : at ≡ place_in f e l n)
    (hs : size ≡ entry_words hw) where
  entry_kind : kind_of (word_at f (place_in f e l n)) ≡ 4
  entry_kind = rw h.word_is at h.kind_is

  pub entry_cut : words_in f < at + size → 3 ≡ asked_at f e l n
  unfolding asked in_order passed_at
  entry_cut short =
      let j = lt-leb (place_in f e l n + entry_words (width_in f)) (words_in f) (rw (ha, hs, hh) at short) in
      simp (entry_kind, and-false, j)

  pub entry_asked : at + size ≤ words_in f → (second port spare transfer out rewrite most m r : ℕ) (s t : Bool)
      → second ≡ word_at f (at + 1) → port ≡ port_of w
      → spare ≡ rank_of second → transfer ≡ transfer_of second → out ≡ port_of second
      → s ≡ clean hw (set_from hw f (at + match_at))
      → rewrite ≡ rewrite_at hw → t ≡ clean hw (set_from hw f (at + rewrite))
      → most ≡ most_entries hw → m ≡ times port (recent (in_of_entry f e l) n)
      → InTurn r (eqb spare 0 && leb transfer 2) (leb 1 port && not (eqb port out)) (s && t) true (ltb n most && ltb m 64)
      → r ≡ asked_at f e l n
  unfolding asked in_order ports_right sets_tidy link_free within_limits passed_at
  entry_asked fits second port spare transfer out rewrite most m r s t h2 hp hz hk ho hs' hx ht hn hm hr =
      let i = lt-ltb (place_in f e l n) (words_in f) h.inside in
      let j = le-leb (place_in f e l n + entry_words (width_in f)) (words_in f) (rw (ha, hs, hh) at fits) in
      let o = le-leb (last_kind e l n) 4 (up_to_entries e l n 4 (omega arith)) in
      rw (hr.said, hm, hn, hs', ht, hx, ho, hz, hk, h2, hp, ha, hh, h.word_is)
      (simp (entry_kind, o, port_range, and-true, recent_long, i, j))

-- ---- question 2

-- what the code tests of word 0
pub started_is : (f : List ℕ) (hw w k v u n : ℕ) → w ≡ word_at f 0 → k ≡ kind_of w → v ≡ version_of w → u ≡ version hw
    → n ≡ count_of w
    → (eqb k 1 && eqb v u && eqb n (words_in f)) ≡ started hw f
unfolding started
started_is f hw w k v u n h hk hv hu hn = rw (hk, hv, hu, hn, h)
