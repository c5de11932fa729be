-- What follows for an accepted file, for the crates above. The single premise is `Accepted f s`.
use mathlib.Core.Bool.{Bool, true, false, cond}
use mathlib.Core.List.{List}
use mathlib.Core.Path.{◌≡◌, ap, ◌∙◌}
use Prim.Native.Nat.{ℕ, zero, suc, ◌+◌, ◌*◌, ◌≤◌, ◌<◌}
use native.Mathlib.Nat.{add-zero}
use native.Mathlib.Omega.{arith}
use lib.Dec.{eqb}
use lib.ListN.{length, get_or}
use borrow.Author.Tests.{eqb-true}
use Rattle.headers.specs.Sets.{tidy}
use Rattle.headers.proofs.Booleans.{and_fst}
use Rattle.layout.specs.Words.{word_at, words_in, bytes_from, transfer_of, port_of}
use Rattle.layout.specs.Records.{half, Width, width_in, admitted_at, edge_words, match_at, rewrite_at, entry_words}
use Rattle.layout.specs.Records.{edge_port, entry_in, entry_out}
use Rattle.layout.specs.Records.{place_of, place_in, port_of_edge, from_of_link, to_of_link, in_of_entry, edge_bytes, entry_bytes, recent}
use Rattle.layout.specs.Limits.{most_edges, most_links, most_at_port, most_entries, most_bytes, most_words}
use Rattle.layout.specs.Shape.{Shape}
use Rattle.layout.proofs.Words.{words_from_fit, part_long, part_word, part_set}
use Rattle.layout.proofs.Transfers.{number_kept}
use Rattle.layout.proofs.Widths.{by_width, width_is}
use Rattle.questions.specs.Questions.{times, accepted}
use Rattle.questions.specs.Reading.{passed_at}
use Rattle.questions.specs.Read.{Fabric}
use Rattle.questions.proofs.Lists.{none_has, rising, times_within, number_is}
use Rattle.questions.proofs.Versions.{sized_says, most_bytes_any}
use Rattle.questions.proofs.Yes.{yeses, EdgeIs, edge_is, LinkIs, link_is, EntryIs, entry_is}
use Rattle.file.specs.Tables.{Indexed}
use Rattle.file.specs.Accepted.{Accepted, Edge, Entry}
use Rattle.file.proofs.Sound.{Sound, in_order_lem, accepted_width, accepted_exactly}

-- ---- the first word of a part is the file's

first_word : (n : ℕ) (f : List ℕ) (k : ℕ) → 0 < n → word_at (bytes_from n f k) 0 ≡ word_at f k
first_word n f k h = part_word n f k 0 h ∙ ap (word_at f) (add-zero k)

pub edge_port_is : (f : List ℕ) (i : ℕ) → edge_port (edge_bytes f i) ≡ port_of_edge f i
edge_port_is f i = ap port_of (first_word (edge_words (width_in f)) f (place_in f i 0 0) (omega arith))

pub entry_in_is : (f : List ℕ) (s : Shape) (i : ℕ) → entry_in (entry_bytes f s i) ≡ in_of_entry f s.edges s.links i
entry_in_is f s i = ap port_of (first_word (entry_words (width_in f)) f (place_in f s.edges s.links i) (omega arith))

-- the last of a run says how many they are at most
few : (P : ℕ → Type 0) (most n : ℕ) → ((i : ℕ) → i < n → P i) → ((i : ℕ) → P i → i < most) → n ≤ most
few P most zero h l = omega arith
few P most (suc n) h l = l n (h n (omega arith))

most_entries_any : (w : ℕ) → most_entries w ≤ 512
most_entries_any w = go (eqb w half)
  where
    go : (b : Bool) → cond b 512 400 ≤ 512
    go true = omega arith
    go false = omega arith

-- a call for headers of w words accepts a file of that version, which is then accepted as such
pub accepted_own : (w : ℕ) → Width w → (f : List ℕ) (s : Shape) → accepted w f ≡ Fabric s → Accepted f s
accepted_own w d f s h = rw (accepted_width f w d s h) at h

module _ (f : List ℕ) (s : Shape) (ok : Accepted f s) where
  sound : Sound f s
  sound = (accepted_exactly f s).0 ok

  edge_facts : (i : ℕ) → i < s.edges → EdgeIs f i
  edge_facts i h = let p = sound.passed.edges i h in edge_is f i p.kind_is (yeses f (passed_at f i 0 0) p.no_no)

  link_facts : (i : ℕ) → i < s.links → LinkIs f s.edges i
  link_facts i h = let p = sound.passed.links i h in link_is f s.edges i p.kind_is (yeses f (passed_at f s.edges i 0) p.no_no)

  entry_facts : (i : ℕ) → i < s.entries → EntryIs f s.edges s.links i
  entry_facts i h =
      let p = sound.passed.entries i h in
      entry_is f s.edges s.links i p.kind_is (yeses f (passed_at f s.edges s.links i) p.no_no)

  -- ---- how wide, how long, and how many

  pub words_said : s.words ≡ width_in f
  words_said = sound.words_are

  -- the end is the last word
  pub ends_file : place_in f s.edges s.links s.entries + 1 ≡ words_in f
  unfolding passed_at
  ends_file =
      let p = sound.end in
      eqb-true _ _ (simp p.kind_is at (in_order_lem f 5 s.edges s.links s.entries p).last)

  pub file_long : length f ≡ 4 * (place_in f s.edges s.links s.entries + 1)
  file_long = omega (arith, (sized_says (width_in f) f sound.is_sized).in_words, ends_file)

  pub few_edges : s.edges ≤ most_edges
  few_edges = few (EdgeIs f) most_edges s.edges edge_facts (λ i y. y.limit)

  pub few_links : s.links ≤ most_links
  few_links = few (LinkIs f s.edges) most_links s.links link_facts (λ i y. y.limit)

  pub entries_within : s.entries ≤ most_entries (width_in f)
  entries_within = few (EntryIs f s.edges s.links) (most_entries (width_in f)) s.entries entry_facts (λ i y. y.limit)

  -- in either version
  pub few_entries : s.entries ≤ 512
  few_entries = omega (arith, entries_within, most_entries_any (width_in f))

  -- "64 entries per in-port"
  pub few_at_port : (p : ℕ) → times p (recent (in_of_entry f s.edges s.links) s.entries) ≤ most_at_port
  few_at_port = times_within (in_of_entry f s.edges s.links) most_at_port s.entries (λ i h. (entry_facts i h).port_limit)

  -- "So no accepted file exceeds 40,200 bytes." In version 2, "so no file exceeds 59,784 bytes"
  pub file_short : length f ≤ most_bytes (width_in f)
  file_short = by_width short (λ h l. omega (arith, few_edges, few_links)) (λ h l. omega (arith, few_edges, few_links))
      (width_in f) (width_is f) file_long entries_within
    where
      short : ℕ → Type 0
      short w = length f ≡ 4 * (place_of w s.edges s.links s.entries + 1) → s.entries ≤ most_entries w → length f ≤ most_bytes w

  pub file_words : words_in f ≤ most_words
  file_words = omega (arith, file_short, most_bytes_any (width_in f) (width_is f))

  -- ---- where the records are

  pub edge_inside : (i : ℕ) → i < s.edges → place_in f i 0 0 + edge_words (width_in f) ≤ words_in f
  edge_inside i h = (edge_facts i h).inside

  pub link_inside : (i : ℕ) → i < s.links → place_in f s.edges i 0 < words_in f
  link_inside i h = omega (arith, (link_facts i h).inside)

  pub entry_inside : (i : ℕ) → i < s.entries → place_in f s.edges s.links i + entry_words (width_in f) ≤ words_in f
  entry_inside i h = (entry_facts i h).inside

  pub edge_place : (i : ℕ) → i < s.edges → place_in f i 0 0 ≤ most_words
  edge_place i h = omega (arith, edge_inside i h, file_words)

  pub link_place : (i : ℕ) → i < s.links → place_in f s.edges i 0 ≤ most_words
  link_place i h = omega (arith, link_inside i h, file_words)

  pub entry_place : (i : ℕ) → i < s.entries → place_in f s.edges s.links i ≤ most_words
  entry_place i h = omega (arith, entry_inside i h, file_words)

  -- ---- an edge's and an entry's own bytes

  pub edge_of : (i : ℕ) → i < s.edges → Edge (width_in f) (edge_bytes f i)
  edge_of i h =
      let y = edge_facts i h in
      let w : ℕ = width_in f in
      let at : ℕ = place_of w i 0 0 in
      record {
        long = part_long (edge_words w) f at y.inside;
        port_low = rw (edge_port_is f i) y.port_low;
        port_high = omega arith;
        admitted = record {
          care = words_from_fit w (edge_bytes f i) admitted_at;
          value = words_from_fit w (edge_bytes f i) (admitted_at + w);
          is_tidy = ap (tidy w) (part_set (edge_words w) w f at admitted_at (omega arith)) ∙ and_fst _ _ y.admitted_clean;
        };
      }

  pub entry_of : (i : ℕ) → i < s.entries → Entry (width_in f) (entry_bytes f s i)
  entry_of i h =
      let y = entry_facts i h in
      let w : ℕ = width_in f in
      let at : ℕ = place_of w s.edges s.links i in
      let x : List ℕ = entry_bytes f s i in
      let out : entry_out x ≡ port_of (word_at f (at + 1)) = ap port_of (part_word (entry_words w) f at 1 (omega arith)) in
      record {
        long = part_long (entry_words w) f at y.inside;
        in_low = rw (entry_in_is f s i) y.in_low;
        in_high = omega arith;
        out_high = omega arith;
        differ = rw (entry_in_is f s i, out) y.differ;
        matches = record {
          care = words_from_fit w x match_at;
          value = words_from_fit w x (match_at + w);
          is_tidy = ap (tidy w) (part_set (entry_words w) w f at match_at (omega arith)) ∙ and_fst _ _ y.match_clean;
        };
        rewrites = record { mask = words_from_fit w x (rewrite_at w); value = words_from_fit w x (rewrite_at w + w) };
        transfer = number_kept (transfer_of (word_at x 1)) (rw (part_word (entry_words w) f at 1 (omega arith)) y.transfer);
        rewrite_tidy = ap (tidy w) (part_set (entry_words w) w f at (rewrite_at w) (omega arith)) ∙ and_fst _ _ y.rewrite_clean;
      }

  -- ---- ports of edges and links

  pub edge_port_low : (i : ℕ) → i < s.edges → 1 ≤ port_of_edge f i
  edge_port_low i h = (edge_facts i h).port_low

  pub link_from_low : (i : ℕ) → i < s.links → 1 ≤ from_of_link f s.edges i
  link_from_low i h = (link_facts i h).from_low

  pub link_to_low : (i : ℕ) → i < s.links → 1 ≤ to_of_link f s.edges i
  link_to_low i h = (link_facts i h).to_low

  pub link_ports_differ : (i : ℕ) → i < s.links → from_of_link f s.edges i ≡ to_of_link f s.edges i → ⊥
  link_ports_differ i h = (link_facts i h).differ

  -- "edge ports and link from-ports strictly rising"
  pub edges_rise : (i j : ℕ) → i < j → j < s.edges → port_of_edge f i < port_of_edge f j
  edges_rise = rising (port_of_edge f) s.edges (λ i h. (edge_facts i h).rising)

  pub froms_rise : (i j : ℕ) → i < j → j < s.links → from_of_link f s.edges i < from_of_link f s.edges j
  froms_rise = rising (from_of_link f s.edges) s.links (λ i h. (link_facts i h).rising)

  pub edges_differ : (i j : ℕ) → i < j → j < s.edges → port_of_edge f i ≡ port_of_edge f j → ⊥
  edges_differ i j h l e = let r = edges_rise i j h l in omega arith

  pub froms_differ : (i j : ℕ) → i < j → j < s.links → from_of_link f s.edges i ≡ from_of_link f s.edges j → ⊥
  froms_differ i j h l e = let r = froms_rise i j h l in omega arith

  -- a link ends "where no earlier link ends"
  pub tos_differ : (i j : ℕ) → i < j → j < s.links → to_of_link f s.edges i ≡ to_of_link f s.edges j → ⊥
  tos_differ i j h l = none_has (to_of_link f s.edges) j (to_of_link f s.edges j) (link_facts j l).end_free i h

  -- "a link avoids edge ports"
  pub no_edge_at_from : (i j : ℕ) → i < s.edges → j < s.links → port_of_edge f i ≡ from_of_link f s.edges j → ⊥
  no_edge_at_from i j h l = none_has (port_of_edge f) s.edges (from_of_link f s.edges j) (link_facts j l).from_free i h

  pub no_edge_at_to : (i j : ℕ) → i < s.edges → j < s.links → port_of_edge f i ≡ to_of_link f s.edges j → ⊥
  no_edge_at_to i j h l = none_has (port_of_edge f) s.edges (to_of_link f s.edges j) (link_facts j l).to_free i h

  -- ---- what the tables hold: `found` and `missing` of proofs/Numbering.antt say the rest

  module _ (edges starts ends : List ℕ) (t : Indexed f s.edges s.links edges starts ends) where
    pub edge_numbered : (i : ℕ) → i < s.edges → get_or edges (port_of_edge f i) 0 ≡ suc i
    edge_numbered i h = t.edge_at_lem.holds (port_of_edge f i) (omega arith) ∙ number_is (port_of_edge f) s.edges edges_differ i h

    pub start_numbered : (i : ℕ) → i < s.links → get_or starts (from_of_link f s.edges i) 0 ≡ suc i
    start_numbered i h =
        t.start_at.holds (from_of_link f s.edges i) (omega arith) ∙ number_is (from_of_link f s.edges) s.links froms_differ i h

    pub end_numbered : (i : ℕ) → i < s.links → get_or ends (to_of_link f s.edges i) 0 ≡ suc i
    end_numbered i h = t.end_at.holds (to_of_link f s.edges i) (omega arith) ∙ number_is (to_of_link f s.edges) s.links tos_differ i h
