-- The words of a packet's run, and the packet as the code carries it: its entries in an array, in travelling order. Assumes nothing.
use Rattle.std.specs.Prelude.{List, ◌∷◌, ◌++◌, take, ◌≡◌, ℕ, ◌<◌}
use Rattle.answer.specs.Answer.{sixteen}
use Rattle.wide.specs.Forms.{words_of}
use Rattle.forwarding.specs.Fabric.{Fabric}
use Rattle.forwarding.specs.Run.{Packet, fate_of, port_of, header_of, entries_taken, hops_made, hop}
use Rattle.journey.specs.declared.Fate.{Fate}
use Rattle.journey.specs.declared.Fate.TheVariants.{Left, Dropped, Lost, Travelling, Tied}
use Rattle.journey.specs.declared.Journey.{Journey}

-- "Word 0: fate .. Word 1: 0. Word 2: port .. Word 3: hops. Words 4 to 7: header then. Words 8 to 23: entries taken", or as many words
-- of header as the file has
unfoldable pub packet_words : Fabric → Packet → List ℕ
packet_words F p = fate_of F p ∷ 0 ∷ port_of p ∷ hops_made p ∷ (header_of p ++ sixteen (entries_taken p))

-- ---- the packet as the code carries it

abbrev pub fate_number : Fate → ℕ
fate_number Left = 0
fate_number Dropped = 1
fate_number Lost = 2
fate_number Travelling = 3
fate_number Tied = 4

-- j is the packet p, whose header has eight words
pub record IsJourney (F : Fabric) (p : Packet) (j : Journey) : Type 0 where
  pub fate : fate_number j.fate ≡ fate_of F p
  pub port : j.port ≡ port_of p
  pub hops : j.hops ≡ hops_made p
  pub header : words_of j.header ≡ header_of p
  pub entries : j.entries ≡ sixteen (entries_taken p)

-- the words of a run's answer with this number for the fate, of headers of n words
abbrev pub fated_words : ℕ → ℕ → Journey → List ℕ
fated_words n fate j = fate ∷ 0 ∷ j.port ∷ j.hops ∷ (take n (words_of j.header) ++ j.entries)

-- with the fate's own
abbrev pub journey_words : ℕ → Journey → List ℕ
journey_words n j = fated_words n (fate_number j.fate) j

-- if j is a packet that made fewer than 16 hops, r is that packet after one more
pub record Hopped (F : Fabric) (j r : Journey) : Type 0 where
  pub follows : (p : Packet) → hops_made p < 16 → IsJourney F p j → IsJourney F (hop F p) r
