-- The records of document 01's fabric file: what the bytes of one say, and where each stands by its number. Widths follow from w, the words
-- of a header, here and nowhere else; w follows from the version that the file's start says (document 02, 2.6).
use Rattle.std.specs.Prelude.{cond, List, [], ◌∷◌, ◌≡◌, ℕ, zero, suc, ◌+◌, ◌*◌, ◌%◌, ◌≤◌, eqb, length}
use Rattle.headers.specs.Sets.{Set, Rewrite, all_wild}
use Rattle.headers.specs.Actions.{Act}
use Rattle.headers.specs.declared.Transfer.{Transfer}
use Rattle.headers.specs.declared.Transfer.TheVariants.{Keep, Copy, Swap}
use Rattle.layout.specs.Words.{word_at, words_from, bytes_from, version_of, transfer_of, port_of, from_of, rank_of}
use Rattle.layout.specs.Shape.{Shape}

-- ---- the widths of a record

-- "eight header words: the old four, then .."
abbrev pub half : ℕ
half = 4

-- the words of a header in a file of either version: 4 or 8
pub record Width (w : ℕ) : Type 0 where
  pub low : half ≤ w
  pub high : w ≤ 2 * half
  pub halves : w % half ≡ 0

-- by the version that a start says; question 2 refuses one that is neither 1 nor 2
abbrev pub width_of : ℕ → ℕ
width_of start = cond (eqb (version_of start) 2) (2 * half) half

unfoldable pub width_in : List ℕ → ℕ
width_in f = width_of (word_at f 0)

-- a care mask and a value, or a mask and a value
abbrev pub set_words : ℕ → ℕ
set_words w = 2 * w

-- "Kind 2, edge, 9 words" (17 in version 2): a word, then its admitted set
abbrev pub admitted_at : ℕ
admitted_at = 1

abbrev pub edge_words : ℕ → ℕ
edge_words w = admitted_at + set_words w

-- "Kind 4, entry, 18 words" (34 in version 2): two words, then match and rewrite
abbrev pub match_at : ℕ
match_at = 2

abbrev pub rewrite_at : ℕ → ℕ
rewrite_at w = match_at + set_words w

abbrev pub entry_words : ℕ → ℕ
entry_words w = rewrite_at w + set_words w

-- care and value of n words each, from word k on
abbrev pub set_from : ℕ → List ℕ → ℕ → Set
set_from n f k = record { care = words_from n f k; value = words_from n f (k + n) }

abbrev pub rewrite_from : ℕ → List ℕ → ℕ → Rewrite
rewrite_from n f k = record { mask = words_from n f k; value = words_from n f (k + n) }

-- ---- an edge's own bytes

abbrev pub edge_group : List ℕ → ℕ
edge_group x = rank_of (word_at x 0)

abbrev pub edge_port : List ℕ → ℕ
edge_port x = port_of (word_at x 0)

abbrev pub edge_admitted : ℕ → List ℕ → Set
edge_admitted w x = set_from w x admitted_at

-- ---- an entry's own bytes

abbrev pub entry_priority : List ℕ → ℕ
entry_priority x = rank_of (word_at x 0)

abbrev pub entry_in : List ℕ → ℕ
entry_in x = port_of (word_at x 0)

abbrev pub entry_out : List ℕ → ℕ
entry_out x = port_of (word_at x 1)

abbrev pub entry_match : ℕ → List ℕ → Set
entry_match w x = set_from w x match_at

abbrev pub entry_rewrite : ℕ → List ℕ → Rewrite
entry_rewrite w x = rewrite_from w x (rewrite_at w)

-- F15: the number of each transfer
abbrev pub number_of : Transfer → ℕ
number_of Keep = 0
number_of Copy = 1
number_of Swap = 2

-- the transfer with a number; question 3 asks whether there is one
abbrev pub transfer_at : ℕ → Transfer
transfer_at zero = Keep
transfer_at (suc zero) = Copy
transfer_at (suc (suc k)) = Swap

abbrev pub entry_transfer : List ℕ → Transfer
entry_transfer x = transfer_at (transfer_of (word_at x 1))

abbrev pub entry_action : ℕ → List ℕ → Act
entry_action w x = record { transfer = entry_transfer x; rewrite = entry_rewrite w x }

-- as many bytes as an entry has in a file whose headers have w words
pub record EntryLong (w : ℕ) (x : List ℕ) : Type 0 where
  pub width : Width w
  pub long : length x ≡ 4 * entry_words w

-- ---- records by their number: "Order: start, edges, links, entries, end", so the numbers of edges, links and entries before a record say
-- where it stands

-- the first word of the record after e edges, l links and n entries
abbrev pub place_of : ℕ → ℕ → ℕ → ℕ → ℕ
place_of w e l n = 1 + edge_words w * e + l + entry_words w * n

abbrev pub place_in : List ℕ → ℕ → ℕ → ℕ → ℕ
place_in f e l n = place_of (width_in f) e l n

-- the port of edge i
abbrev pub port_of_edge : List ℕ → ℕ → ℕ
port_of_edge f i = port_of (word_at f (place_in f i 0 0))

-- the from-port and the to-port of link i, after e edges
abbrev pub from_of_link : List ℕ → ℕ → ℕ → ℕ
from_of_link f e i = from_of (word_at f (place_in f e i 0))

abbrev pub to_of_link : List ℕ → ℕ → ℕ → ℕ
to_of_link f e i = port_of (word_at f (place_in f e i 0))

-- the in-port of entry i, after e edges and l links
abbrev pub in_of_entry : List ℕ → ℕ → ℕ → ℕ → ℕ
in_of_entry f e l i = port_of (word_at f (place_in f e l i))

-- edge i's own 36 bytes, or 68 in version 2
abbrev pub edge_bytes : List ℕ → ℕ → List ℕ
edge_bytes f i = bytes_from (edge_words (width_in f)) f (place_in f i 0 0)

-- "Entries are numbered from 0 in file order; an entry is handed on as its own 72 bytes of the caller's file." (136 in version 2)
abbrev pub entry_bytes : List ℕ → Shape → ℕ → List ℕ
entry_bytes f s i = bytes_from (entry_words (width_in f)) f (place_in f s.edges s.links i)

-- g 0 to g (n - 1), the latest first
abbrev pub recent : (ℕ → ℕ) → ℕ → List ℕ
recent g zero = []
recent g (suc n) = g n ∷ recent g n

-- ---- a set by its halves, as the code reads it

-- the half of a set of w words that begins at word k
abbrev pub half_from : ℕ → List ℕ → ℕ → Set
half_from w f k = record { care = words_from half f k; value = words_from half f (k + w) }

-- the first four words of the set from word k on
abbrev pub low_from : ℕ → List ℕ → ℕ → Set
low_from w f k = half_from w f k

-- the last four, wild where there are but four (`set_halves` of proofs/Widths.antt)
abbrev pub high_from : ℕ → List ℕ → ℕ → Set
high_from w f k = cond (eqb w half) (all_wild half) (half_from w f (k + half))
