-- A file is accepted exactly if its records, each where it stands, get five yeses, and the end comes after them.
use mathlib.Core.Bool.{Bool, true, false}
use mathlib.Core.List.{List}
use mathlib.Core.Logic.{◌↔◌}
use mathlib.Core.Path.{◌≡◌, refl, sym, ap, ◌∙◌}
use Prim.Native.Nat.{ℕ, zero, suc, ◌+◌, ◌≤◌, ◌<◌}
use native.Mathlib.Decide.{ℕ_discrete}
use native.Mathlib.Numerals.{add-one}
use native.Mathlib.Omega.{arith}
use borrow.Author.Count.{below_more}
use borrow.Author.Tests.{ne_eqb}
use Rattle.layout.specs.Words.{word_at, words_in, kind_of}
use Rattle.layout.specs.Records.{Width, width_in, place_in}
use Rattle.layout.specs.Shape.{Shape}
use Rattle.questions.specs.Questions.{passed, after_start, shape, records, accepted, sized, started}
use Rattle.questions.specs.Reading.{last_kind, passed_at, asked_at}
use Rattle.questions.specs.Read.{Read}
use Rattle.questions.specs.Read.{Fabric}
use Rattle.questions.proofs.Lists.{recent_long}
use Rattle.questions.proofs.Versions.{own_width}
use Rattle.questions.proofs.Yes.{yeses, Ordered, ordered}
use Rattle.file.specs.Reading.{rest}
use Rattle.file.proofs.Steps.{edge_passed, link_passed, entry_passed, next_edge, next_link, next_entry, ends_there}
use Rattle.file.proofs.Whole.{no_entry_yet, no_link_yet, start_passed, from_start}

-- the record after e edges, l links and n entries is of kind k and gets five yeses
pub record Passes (f : List ℕ) (k e l n : ℕ) : Type 0 where
  pub kind_is : kind_of (word_at f (place_in f e l n)) ≡ k
  pub no_no : asked_at f e l n ≡ 0

-- e edges, then l links, then n entries
pub record Records (f : List ℕ) (e l n : ℕ) : Type 0 where
  pub edges : (i : ℕ) → i < e → Passes f 2 i 0 0
  pub links : (i : ℕ) → i < l → Passes f 3 e i 0
  pub entries : (i : ℕ) → i < n → Passes f 4 e l i

pub record Sound (f : List ℕ) (s : Shape) : Type 0 where
  pub is_sized : sized (width_in f) f ≡ true
  pub is_started : started (width_in f) f ≡ true
  pub words_are : s.words ≡ width_in f
  pub passed : Records f s.edges s.links s.entries
  pub end : Passes f 5 s.edges s.links s.entries

-- ---- from the answer to the records

pub in_order_lem : (f : List ℕ) (k e l n : ℕ) → Passes f k e l n → Ordered f (passed_at f e l n)
in_order_lem f k e l n p = ordered f (passed_at f e l n) (yeses f (passed_at f e l n) p.no_no).order

none_yet : (f : List ℕ) → Records f 0 0 0
none_yet f = record { edges = λ i h. absurd (omega arith); links = λ i h. absurd (omega arith); entries = λ i h. absurd (omega arith) }

-- what is found where the answer is this shape
module _ (f : List ℕ) (s : Shape) where
  abbrev Found : Type 0
  Found = (s.words ≡ width_in f) × Records f s.edges s.links s.entries × Passes f 5 s.edges s.links s.entries

  -- the answer with so many turns left leads there, whatever has been passed
  abbrev Leads : ℕ → Type 0
  Leads k = (e l n : ℕ) → Records f e l n → records k f (passed_at f e l n) ≡ Fabric s → Found

  one_record : (k : ℕ) → Leads k → Leads (suc k)
  unfolding records passed_at
  one_record k later e l n r h = yes_or_no (ℕ_discrete (asked_at f e l n) 0)
    where
      K : ℕ
      K = kind_of (word_at f (place_in f e l n))

      -- the order leaves no link and no entry before an edge, and no entry before a link
      by_kind : Passes f K e l n → records k f (passed f (passed_at f e l n)) ≡ Fabric s → (K ≡ 5 → ⊥) → Found
      by_kind p g d5 = go (ℕ_discrete K 2) (ℕ_discrete K 3)
        where
          o : Ordered f (passed_at f e l n)
          o = in_order_lem f K e l n p

          go : Dec (K ≡ 2) → Dec (K ≡ 3) → Found
          go (yes q) d =
              let under : last_kind e l n ≤ 2 = rw q at o.order in
              let z : n ≡ 0 = no_entry_yet e l n (omega arith) in
              let y : l ≡ 0 = no_link_yet e l (rw z at under) in
              later (e + 1) 0 0
              (record {
                edges = below_more (λ (i : ℕ). Passes f 2 i 0 0) e r.edges (rw (q, z, y) at p);
                links = λ i m. absurd (omega arith);
                entries = λ i m. absurd (omega arith);
              })
              (ap (records k f) (sym (edge_passed f e (rw (z, y) at q))) ∙ (rw (z, y) at g))
          go (no d2) (yes q) =
              let z : n ≡ 0 = no_entry_yet e l n (rw q at o.order) in
              later e (l + 1) 0
              (record {
                edges = r.edges;
                links = below_more (λ (i : ℕ). Passes f 3 e i 0) l r.links (rw (q, z) at p);
                entries = λ i m. absurd (omega arith);
              })
              (ap (records k f) (sym (link_passed f e l (rw z at q))) ∙ (rw z at g))
          go (no d2) (no d3) =
              let low = o.low in
              let high = o.high in
              let q : K ≡ 4 = omega arith in
              later e l (n + 1)
              (record {
                edges = r.edges;
                links = r.links;
                entries = below_more (λ (i : ℕ). Passes f 4 e l i) n r.entries (rw q at p);
              })
              (ap (records k f) (sym (entry_passed f e l n q)) ∙ g)

      end_or_not : asked_at f e l n ≡ 0 → Dec (K ≡ 5) → Found
      end_or_not a (yes q) =
          let g : Fabric (shape (width_in f) e l n) ≡ Fabric s = simp (a, q, recent_long) at h in
          let same : shape (width_in f) e l n ≡ s = cc in
          rw (← same) (refl, r, record { kind_is = q; no_no = a })
      end_or_not a (no d) = by_kind (record { kind_is = refl; no_no = a }) (simp (a, ne_eqb K 5 d) at h) d

      yes_or_no : Dec (asked_at f e l n ≡ 0) → Found
      yes_or_no (yes a) = end_or_not a (ℕ_discrete K 5)
      yes_or_no (no d) = let g = simp (ne_eqb (asked_at f e l n) 0 d) at h in absurd (let z : ◌≡◌ {A = ℕ} 0 1 = cc in omega arith)

  leads : (k : ℕ) → Leads k
  unfolding records
  leads zero e l n r h = absurd (let z : ◌≡◌ {A = ℕ} 0 1 = cc in omega arith)
  leads (suc k) e l n r h = one_record k (leads k) e l n r h

-- ---- from the records to the answer

-- a run of records that get yeses leaves the answer as it is
run : (g : ℕ → Read) (n : ℕ) → ((i : ℕ) → i < n → g i ≡ g (i + 1)) → g 0 ≡ g n
run g zero h = refl
run g (suc n) h = run g n (λ i m. h i (omega arith)) ∙ h n (omega arith) ∙ ap g (add-one n)

module _ (f : List ℕ) where
  begins : (k e l n : ℕ) → Passes f k e l n → place_in f e l n ≤ words_in f
  unfolding passed_at
  begins k e l n p = omega (arith, (in_order_lem f k e l n p).here)

  to_end : (e l n : ℕ) → Records f e l n → rest f 0 0 0 ≡ rest f e l n
  to_end e l n r =
      run (λ i. rest f i 0 0) e (λ i m. let p = r.edges i m in next_edge f i (begins 2 i 0 0 p) p.kind_is p.no_no)
      ∙ run (λ i. rest f e i 0) l (λ i m. let p = r.links i m in next_link f e i (begins 3 e i 0 p) p.kind_is p.no_no)
      ∙ run (λ i. rest f e l i) n (λ i m. let p = r.entries i m in next_entry f e l i (begins 4 e l i p) p.kind_is p.no_no)

  -- ---- questions 1 and 2 got a yes, and the records the answer

  pub asked_first : (w : ℕ) (s : Shape) → accepted w f ≡ Fabric s
      → (sized w f ≡ true) × (started w f ≡ true) × (records (words_in f) f after_start ≡ Fabric s)
  unfolding accepted
  asked_first w s h = go (sized w f) refl (started w f) refl
    where
      go : (a : Bool) → sized w f ≡ a → (b : Bool) → started w f ≡ b
          → (sized w f ≡ true) × (started w f ≡ true) × (records (words_in f) f after_start ≡ Fabric s)
      go false ha b hb = let g = simp ha at h in absurd (let z : ◌≡◌ {A = ℕ} 0 1 = cc in omega arith)
      go true ha false hb = let g = simp (ha, hb) at h in absurd (let z : ◌≡◌ {A = ℕ} 0 1 = cc in omega arith)
      go true ha true hb = (ha, hb, simp (ha, hb) at h)

  -- a call accepts a file of its own version
  pub accepted_width : (w : ℕ) → Width w → (s : Shape) → accepted w f ≡ Fabric s → w ≡ width_in f
  accepted_width w d s h = own_width w d f (asked_first w s h).1

  -- accepted exactly if the records are as the questions want them
  pub accepted_exactly : (s : Shape) → accepted (width_in f) f ≡ Fabric s ↔ Sound f s
  unfolding accepted
  accepted_exactly s = (
    (λ h.
        let q = asked_first (width_in f) s h in
        let x = leads f s (words_in f) 0 0 0 (none_yet f) (ap (records (words_in f) f) (start_passed f) ∙ q.2) in
        record { is_sized = q.0; is_started = q.1; words_are = x.0; passed = x.1; end = x.2 }),
    λ x.
        let p = x.end in
        simp (x.is_sized, x.is_started)
        (sym (from_start f) ∙ to_end s.edges s.links s.entries x.passed
        ∙ ends_there f s.edges s.links s.entries (begins 5 _ _ _ p) p.kind_is p.no_no
        ∙ ap (λ (w : ℕ). Fabric (shape w s.edges s.links s.entries)) (sym x.words_are)),
  )
