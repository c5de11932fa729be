-- How many records a file may have: document 01's four limits, version 2's own (document 02, 2.6), and the longest file that they allow.
use Rattle.std.specs.Prelude.{cond, ℕ, ◌+◌, ◌*◌, eqb}
use Rattle.layout.specs.Records.{half, place_of}

-- "At most 64 edges, 256 links, 512 entries, 64 entries per in-port."
abbrev pub most_edges : ℕ
most_edges = 64

abbrev pub most_links : ℕ
most_links = 256

abbrev pub most_at_port : ℕ
most_at_port = 64

-- of version 2: "At most 400 entries"
abbrev pub most_entries : ℕ → ℕ
most_entries w = cond (eqb w half) 512 400

-- ---- the longest file: a start, as many records as there may be, and the end

abbrev pub most_bytes : ℕ → ℕ
most_bytes w = 4 * (place_of w most_edges most_links (most_entries w) + 1)

-- the words of the longest file of any version
abbrev pub most_words : ℕ
most_words = place_of (2 * half) most_edges most_links (most_entries (2 * half)) + 1
