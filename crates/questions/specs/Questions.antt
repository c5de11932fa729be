-- Questions 1 to 7 of document 01, "Questions asked in turn", as it asks them: the first that gets a no, with its number and place,
-- or the fabric's shape. What came before a record is a plain state, `Passed`. Questions 1 and 2 go by the version of the call, the others
-- by the file's (document 02, 2.6).
use Rattle.std.specs.Prelude.{Bool, true, false, not, ◌&&◌, ◌||◌, List, [], ◌∷◌, ℕ, zero, suc, ◌+◌, ◌%◌, ltb, leb}
use Rattle.std.specs.Prelude.{eqb, length}
use Rattle.headers.specs.Bits.{word, keep_if}
use Rattle.headers.specs.Sets.{Set, tidy, writes}
use Rattle.layout.specs.Words.{word_at, words_in, bits, kind_of, version_of, count_of, transfer_of, port_of, from_of}
use Rattle.layout.specs.Records.{half, width_in, admitted_at, edge_words, match_at, rewrite_at, entry_words, set_from, rewrite_from}
use Rattle.layout.specs.Limits.{most_edges, most_links, most_entries, most_at_port, most_bytes}
use Rattle.layout.specs.Shape.{Shape}
use Rattle.questions.specs.Read.{Read}
use Rattle.questions.specs.Read.{Fabric, No}

-- a if the test holds, else b
abbrev pub pick : {A : Type 0} → Bool → A → A → A
pick true a b = a
pick false a b = b

-- ---- questions in turn

-- a question's number, and whether it gets a yes
pub record Question : Type 0 where
  pub number : ℕ
  pub yes : Bool

infixr 90 ◌asks◌
abbrev pub ◌asks◌ : ℕ → Bool → Question
n asks b = record { number = n; yes = b }

-- the number of the first question that gets a no; 0 if none does
abbrev pub first_no : List Question → ℕ
first_no [] = 0
first_no (q ∷ qs) = pick q.yes (first_no qs) q.number

-- a no at this place, or what comes next
abbrev pub or_else : ℕ → ℕ → Read → Read
or_else q place next = pick (eqb q 0) next (No q place)

-- ---- what came before a record

pub record Passed : Type 0 where
  -- "place being the number of its first word, from 0": where the record in hand begins
  pub place : ℕ
  pub last_kind_lem : ℕ
  -- the edges' ports, the links' from-ports and to-ports, the entries' in-ports: of each the latest first
  pub edges : List ℕ
  pub froms : List ℕ
  pub tos : List ℕ
  pub ins : List ℕ

-- after the start, whose kind is 1
abbrev pub after_start : Passed
after_start = record { place = 1; last_kind_lem = 1; edges = []; froms = []; tos = []; ins = [] }

-- the latest port; 0, below every port, if there is none
abbrev pub latest : List ℕ → ℕ
latest [] = 0
latest (p ∷ ps) = p

abbrev pub elem : ℕ → List ℕ → Bool
elem p [] = false
elem p (q ∷ qs) = eqb p q || elem p qs

-- how often a port stands there
abbrev pub times : ℕ → List ℕ → ℕ
times p [] = 0
times p (q ∷ qs) = pick (eqb p q) (times p qs + 1) (times p qs)

-- "Ports are 1 to 4,095"
abbrev pub is_port : ℕ → Bool
is_port p = leb 1 p && leb p 4095

-- one answer for each kind from 2 to 5: an edge, a link, an entry, the end
abbrev pub by_kind : {A : Type 0} → ℕ → A → A → A → A → A
by_kind k edge link entry end = pick (eqb k 2) edge (pick (eqb k 3) link (pick (eqb k 4) entry end))

-- ---- the bits of a set

-- version 2: "8 bits that must be zero in care and mask", the last eight of a word of care
abbrev pub spare_at : ℕ → Set → Bool
spare_at k s = eqb (bits 7 0 (word s.care k)) 0

-- those of word 7; a set of four words has no such word, and so none of these bits
abbrev pub spare_zero : Set → Bool
spare_zero s = spare_at 7 s

-- question 5 of a set of w words: "Are value bits zero outside care", and these eight bits zero?
abbrev pub clean : ℕ → Set → Bool
clean w s = tidy w s && spare_zero s

-- the same of the last four of eight words
abbrev pub clean_high : Set → Bool
clean_high s = tidy half s && spare_at 3 s

-- ---- questions 3 to 7 of one record

module _ (f : List ℕ) (s : Passed) where
  -- the words of a header
  abbrev pub width : ℕ
  width = width_in f

  abbrev pub at : ℕ
  at = s.place

  -- the record's first word and second word
  abbrev pub first : ℕ
  first = word_at f at

  abbrev pub second : ℕ
  second = word_at f (at + 1)

  abbrev pub kind : ℕ
  kind = kind_of first

  abbrev pub size : ℕ
  size = by_kind kind (edge_words width) 1 (entry_words width) 1

  -- a link's bits 27..24, an entry's between transfer and out-port, an end's rest
  abbrev pub zero_bits : Bool
  zero_bits = by_kind kind true (eqb (bits 27 24 first) 0) (eqb (bits 27 12 second) 0) (eqb (bits 27 0 first) 0)

  -- since 2.5: an entry's transfer has a number up to 2
  abbrev pub transfer_known : Bool
  transfer_known = by_kind kind true true (leb (transfer_of second) 2) true

  -- 3. "Is there a word here, its kind 2 to 5 and no smaller than the last record's, the record inside the file, its zero bits zero,
  -- and an end only as the last word?" "values above 2 fail question 3"
  unfoldable pub in_order : Bool
  in_order =
      ltb at (words_in f) && leb 2 kind && leb kind 5 && leb s.last_kind_lem kind && leb (at + size) (words_in f) && zero_bits
      && transfer_known && by_kind kind true true true (eqb (at + 1) (words_in f))

  -- 4. "Are ports in range, edge ports and link from-ports strictly rising, a link's or entry's two ports different?"
  -- (an out-port may be 0)
  unfoldable pub ports_right : Bool
  ports_right =
      by_kind kind
      (is_port (port_of first) && ltb (latest s.edges) (port_of first))
      (is_port (from_of first) && is_port (port_of first) && ltb (latest s.froms) (from_of first) &&
      not (eqb (from_of first) (port_of first)))
      (is_port (port_of first) && leb (port_of second) 4095 && not (eqb (port_of first) (port_of second)))
      true

  -- 5. "Are value bits zero outside care, and rewrite bits outside the mask?" Since 2.6 also the eight bits of care and mask
  unfoldable pub sets_tidy : Bool
  sets_tidy =
      by_kind kind
      (clean width (set_from width f (at + admitted_at)))
      true
      (clean width (set_from width f (at + match_at)) && clean width (writes (rewrite_from width f (at + rewrite_at width))))
      true

  -- 6. "Does a link avoid edge ports and end where no earlier link ends?"
  unfoldable pub link_free : Bool
  link_free =
      by_kind kind
      true
      (not (elem (from_of first) s.edges) && not (elem (port_of first) s.edges) && not (elem (port_of first) s.tos))
      true
      true

  -- 7. "Is the record within the four limits?"
  unfoldable pub within_limits : Bool
  within_limits =
      by_kind kind
      (ltb (length s.edges) most_edges)
      (ltb (length s.froms) most_links)
      (ltb (length s.ins) (most_entries width) && ltb (times (port_of first) s.ins) most_at_port)
      true

  unfoldable pub asked : ℕ
  asked = first_no (3 asks in_order ∷ 4 asks ports_right ∷ 5 asks sets_tidy ∷ 6 asks link_free ∷ 7 asks within_limits ∷ [])

  -- the same with this record passed
  unfoldable pub passed : Passed
  passed = record {
    place = at + size;
    last_kind_lem = kind;
    edges = keep_if (eqb kind 2) (port_of first) s.edges;
    froms = keep_if (eqb kind 3) (from_of first) s.froms;
    tos = keep_if (eqb kind 3) (port_of first) s.tos;
    ins = keep_if (eqb kind 4) (port_of first) s.ins;
  }

abbrev pub shape : ℕ → ℕ → ℕ → ℕ → Shape
shape w e l n = record { words = w; edges = e; links = l; entries = n }

abbrev pub shape_of : ℕ → Passed → Shape
shape_of w s = shape w (length s.edges) (length s.froms) (length s.ins)

-- "Then record by record after the start": a turn each. A record takes a word at least, so as many turns as words never run out
-- (`step` of proofs/Steps.antt)
unfoldable pub records : ℕ → List ℕ → Passed → Read
records zero f s = No 3 s.place
records (suc k) f s =
    let later = records k f (passed f s) in
    let next = pick (eqb (kind f s) 5) (Fabric (shape_of (width_in f) s)) later in
    or_else (asked f s) s.place next

-- ---- questions 1 and 2, in a call for the version whose headers have w words

-- 1. "Is the file's length a multiple of 4 from 8 to 40,200?" (59,784 in version 2)
unfoldable pub sized : ℕ → List ℕ → Bool
sized w f = eqb (length f % 4) 0 && leb 8 (length f) && leb (length f) (most_bytes w)

abbrev pub version : ℕ → ℕ
version w = pick (eqb w half) 1 2

-- Q2: word 0 is a start with the right count and of the call's version: "a file of the other version fails question 2"; its bit 27 may be
-- 0 or 1 (F16)
unfoldable pub started : ℕ → List ℕ → Bool
started w f = eqb (kind_of (word_at f 0)) 1 && eqb (version_of (word_at f 0)) (version w) && eqb (count_of (word_at f 0)) (words_in f)

-- "A fabric is accepted if 1 to 7 all get a yes."
unfoldable pub accepted : ℕ → List ℕ → Read
accepted w f =
    let next = records (words_in f) f after_start in
    or_else (first_no (1 asks sized w f ∷ 2 asks started w f ∷ [])) 0 next
