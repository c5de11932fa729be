-- What the yeses to questions 3 to 7 say of a record, kind by kind.
use mathlib.Core.Bool.{Bool, true, false, not, and-true}
use mathlib.Core.List.{List, [], ◌∷◌}
use mathlib.Core.Path.{◌≡◌, refl}
use Prim.Native.Nat.{ℕ, ◌+◌, ◌≤◌, ◌<◌}
use native.Mathlib.Omega.{arith}
use lib.Dec.{ltb, leb, eqb}
use borrow.Author.Tests.{ltb-true, leb-true, eqb-false, not-true}
use Rattle.headers.specs.Sets.{writes}
use Rattle.layout.specs.Words.{word_at, words_in, kind_of, transfer_of, port_of}
use Rattle.layout.specs.Records.{width_in, admitted_at, edge_words, match_at, rewrite_at, entry_words, set_from, rewrite_from, place_of}
use Rattle.layout.specs.Records.{place_in}
use Rattle.layout.specs.Records.{port_of_edge, from_of_link, to_of_link, in_of_entry, recent}
use Rattle.layout.specs.Limits.{most_edges, most_links, most_entries, most_at_port}
use Rattle.layout.proofs.Words.{port_range, from_range}
use Rattle.questions.specs.Questions.{latest, elem, times, by_kind, ◌asks◌, first_no, Passed, kind, size, zero_bits, transfer_known}
use Rattle.questions.specs.Questions.{clean, asked, in_order, ports_right, sets_tidy, link_free, within_limits}
use Rattle.questions.specs.Reading.{passed_at}
use Rattle.questions.proofs.Lists.{recent_long}
use Rattle.questions.proofs.Chains.{parts}

-- ---- five yeses

pub record Yes (f : List ℕ) (s : Passed) : Type 0 where
  pub order : in_order f s ≡ true
  pub ports : ports_right f s ≡ true
  pub sets : sets_tidy f s ≡ true
  pub free : link_free f s ≡ true
  pub limits : within_limits f s ≡ true

pub yeses : (f : List ℕ) (s : Passed) → asked f s ≡ 0 → Yes f s
unfolding asked
yeses f s = go (in_order f s) (ports_right f s) (sets_tidy f s) (link_free f s) (within_limits f s) refl refl refl refl refl
  where
    go : (a b c d x : Bool) → in_order f s ≡ a → ports_right f s ≡ b → sets_tidy f s ≡ c → link_free f s ≡ d
        → within_limits f s ≡ x
        → first_no (3 asks a ∷ 4 asks b ∷ 5 asks c ∷ 6 asks d ∷ 7 asks x ∷ []) ≡ 0 → Yes f s
    go true true true true true ha hb hc hd hx z = record { order = ha; ports = hb; sets = hc; free = hd; limits = hx }
    go false b c d x ha hb hc hd hx z = absurd (omega arith)
    go true false c d x ha hb hc hd hx z = absurd (omega arith)
    go true true false d x ha hb hc hd hx z = absurd (omega arith)
    go true true true false x ha hb hc hd hx z = absurd (omega arith)
    go true true true true false ha hb hc hd hx z = absurd (omega arith)

-- ---- question 3, of any kind

pub record Ordered (f : List ℕ) (s : Passed) : Type 0 where
  pub here : s.place < words_in f
  pub low : 2 ≤ kind f s
  pub high : kind f s ≤ 5
  pub order : s.last_kind_lem ≤ kind f s
  pub inside : s.place + size f s ≤ words_in f
  pub zero_bits_lem : zero_bits f s ≡ true
  pub transfer : transfer_known f s ≡ true
  pub last : by_kind (kind f s) true true true (eqb (s.place + 1) (words_in f)) ≡ true

pub ordered : (f : List ℕ) (s : Passed) → in_order f s ≡ true → Ordered f s
unfolding in_order
ordered f s h =
    let part = parts (ltb s.place (words_in f))
    (leb 2 (kind f s) ∷ leb (kind f s) 5 ∷ leb s.last_kind_lem (kind f s) ∷ leb (s.place + size f s) (words_in f) ∷ zero_bits f s
    ∷ transfer_known f s ∷ by_kind (kind f s) true true true (eqb (s.place + 1) (words_in f)) ∷ []) h in
    record {
      here = ltb-true _ _ (part 0);
      low = leb-true _ _ (part 1);
      high = leb-true _ _ (part 2);
      order = leb-true _ _ (part 3);
      inside = leb-true _ _ (part 4);
      zero_bits_lem = part 5;
      transfer = part 6;
      last = part 7;
    }

-- ---- an edge

-- the port of edge e is in range and above the one before; its admitted set is clean; it is one of 64
pub record EdgeIs (f : List ℕ) (e : ℕ) : Type 0 where
  pub inside : place_in f e 0 0 + edge_words (width_in f) ≤ words_in f
  pub port_low : 1 ≤ port_of_edge f e
  pub rising : latest (recent (port_of_edge f) e) < port_of_edge f e
  pub admitted_clean : clean (width_in f) (set_from (width_in f) f (place_in f e 0 0 + admitted_at)) ≡ true
  pub limit : e < most_edges

pub edge_is : (f : List ℕ) (e : ℕ) → kind_of (word_at f (place_in f e 0 0)) ≡ 2 → Yes f (passed_at f e 0 0) → EdgeIs f e
unfolding ports_right sets_tidy within_limits passed_at
edge_is f e k y =
    let p = port_of_edge f e in
    let part = parts (leb 1 p) (ltb (latest (recent (port_of_edge f) e)) p ∷ []) (simp (k, port_range, and-true) at y.ports) in
    record {
      inside = simp k at (ordered f (passed_at f e 0 0) y.order).inside;
      port_low = leb-true _ _ (part 0);
      rising = ltb-true _ _ (part 1);
      admitted_clean = simp k at y.sets;
      limit = ltb-true _ _ (simp (k, recent_long) at y.limits);
    }

-- ---- a link

pub record LinkIs (f : List ℕ) (e l : ℕ) : Type 0 where
  pub inside : place_in f e l 0 + 1 ≤ words_in f
  pub from_low : 1 ≤ from_of_link f e l
  pub to_low : 1 ≤ to_of_link f e l
  pub rising : latest (recent (from_of_link f e) l) < from_of_link f e l
  pub differ : from_of_link f e l ≡ to_of_link f e l → ⊥
  pub from_free : elem (from_of_link f e l) (recent (port_of_edge f) e) ≡ false
  pub to_free : elem (to_of_link f e l) (recent (port_of_edge f) e) ≡ false
  pub end_free : elem (to_of_link f e l) (recent (to_of_link f e) l) ≡ false
  pub limit : l < most_links

pub link_is : (f : List ℕ) (e l : ℕ) → kind_of (word_at f (place_in f e l 0)) ≡ 3 → Yes f (passed_at f e l 0) → LinkIs f e l
unfolding ports_right link_free within_limits passed_at
link_is f e l k y =
    let from = from_of_link f e l in
    let to = to_of_link f e l in
    let port = parts (leb 1 from) (leb 1 to ∷ ltb (latest (recent (from_of_link f e) l)) from ∷ not (eqb from to) ∷ [])
    (simp (k, port_range, from_range, and-true) at y.ports) in
    let free = parts (not (elem from (recent (port_of_edge f) e)))
    (not (elem to (recent (port_of_edge f) e)) ∷ not (elem to (recent (to_of_link f e) l)) ∷ []) (simp k at y.free) in
    record {
      inside = simp k at (ordered f (passed_at f e l 0) y.order).inside;
      from_low = leb-true _ _ (port 0);
      to_low = leb-true _ _ (port 1);
      rising = ltb-true _ _ (port 2);
      differ = eqb-false _ _ (not-true (eqb from to) (port 3));
      from_free = not-true (elem from (recent (port_of_edge f) e)) (free 0);
      to_free = not-true (elem to (recent (port_of_edge f) e)) (free 1);
      end_free = not-true (elem to (recent (to_of_link f e) l)) (free 2);
      limit = ltb-true _ _ (simp (k, recent_long) at y.limits);
    }

-- ---- an entry

pub record EntryIs (f : List ℕ) (e l n : ℕ) : Type 0 where
  pub inside : place_in f e l n + entry_words (width_in f) ≤ words_in f
  pub in_low : 1 ≤ in_of_entry f e l n
  pub transfer : transfer_of (word_at f (place_in f e l n + 1)) ≤ 2
  pub differ : in_of_entry f e l n ≡ port_of (word_at f (place_in f e l n + 1)) → ⊥
  pub match_clean : clean (width_in f) (set_from (width_in f) f (place_in f e l n + match_at)) ≡ true
  pub rewrite_clean : clean (width_in f) (writes (rewrite_from (width_in f) f (place_in f e l n + rewrite_at (width_in f)))) ≡ true
  pub limit : n < most_entries (width_in f)
  pub port_limit : times (in_of_entry f e l n) (recent (in_of_entry f e l) n) < most_at_port

pub entry_is : (f : List ℕ) (e l n : ℕ) → kind_of (word_at f (place_in f e l n)) ≡ 4 → Yes f (passed_at f e l n)
    → EntryIs f e l n
unfolding ports_right sets_tidy within_limits passed_at
entry_is f e l n k y =
    let w = width_in f in
    let at = place_of w e l n in
    let port = in_of_entry f e l n in
    let out = port_of (word_at f (at + 1)) in
    let p = parts (leb 1 port) (not (eqb port out) ∷ []) (simp (k, port_range, and-true) at y.ports) in
    let t = parts (clean w (set_from w f (at + match_at))) (clean w (writes (rewrite_from w f (at + rewrite_at w))) ∷ [])
    (simp k at y.sets) in
    let m = parts (ltb n (most_entries w)) (ltb (times port (recent (in_of_entry f e l) n)) most_at_port ∷ [])
    (simp (k, recent_long) at y.limits) in
    let order = ordered f (passed_at f e l n) y.order in
    record {
      inside = simp k at order.inside;
      transfer = leb-true _ _ (simp k at order.transfer);
      in_low = leb-true _ _ (p 0);
      differ = eqb-false _ _ (not-true (eqb port out) (p 1));
      match_clean = t 0;
      rewrite_clean = t 1;
      limit = ltb-true _ _ (m 0);
      port_limit = ltb-true _ _ (m 1);
    }
