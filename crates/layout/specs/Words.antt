-- The words of document 01's fabric file, and the fields of a record's words. Assumes nothing.
use Rattle.std.specs.Prelude.{List, ℕ, ◌+◌, ◌-◌, ◌*◌, ◌/◌, ◌%◌, ◌^◌, length, get_or, take, drop}
use Rattle.headers.specs.Bits.{words}

-- ---- words

-- byte i; a byte is below 256, and `% 256` says so of every list, also of those that no slice holds
abbrev pub byte_at : List ℕ → ℕ → ℕ
byte_at f i = get_or f i 0 % 256

-- "32-bit little-endian words": word k
unfoldable pub word_at : List ℕ → ℕ → ℕ
word_at f k = byte_at f (k * 4) + byte_at f (k * 4 + 1) * 2 ^ 8 + byte_at f (k * 4 + 2) * 2 ^ 16 + byte_at f (k * 4 + 3) * 2 ^ 24

abbrev pub words_in : List ℕ → ℕ
words_in f = length f / 4

-- bits hi..lo of a word
abbrev pub bits : ℕ → ℕ → ℕ → ℕ
bits hi lo w = w / 2 ^ lo % 2 ^ (hi + 1 - lo)

-- n words from word k on
abbrev pub words_from : ℕ → List ℕ → ℕ → List ℕ
words_from n f k = words n (λ w. word_at f (k + w))

-- the bytes of n words from word k on
unfoldable pub bytes_from : ℕ → List ℕ → ℕ → List ℕ
bytes_from n f k = take (4 * n) (drop (4 * k) f)

-- ---- the fields of a record's first word

-- "A record's first word has its kind in bits 31..28"
abbrev pub kind_of : ℕ → ℕ
kind_of w = bits 31 28 w

-- F3: a start's version, in bits 26..16, and the number of the file's words
abbrev pub version_of : ℕ → ℕ
version_of w = bits 26 16 w

abbrev pub count_of : ℕ → ℕ
count_of w = bits 15 0 w

-- F16: a start's bit 27 chooses OpenFlow 1.3
abbrev pub choice_of : ℕ → ℕ
choice_of w = bits 27 27 w

-- bits 31..28 of an entry's second word: the number of its transfer
abbrev pub transfer_of : ℕ → ℕ
transfer_of w = bits 31 28 w

-- bits 11..0: an edge's port, a link's to-port, an entry's in-port; of an entry's second word the out-port
abbrev pub port_of : ℕ → ℕ
port_of w = bits 11 0 w

-- bits 23..12: a link's from-port
abbrev pub from_of : ℕ → ℕ
from_of w = bits 23 12 w

-- bits 27..12: an edge's group, an entry's priority
abbrev pub rank_of : ℕ → ℕ
rank_of w = bits 27 12 w
