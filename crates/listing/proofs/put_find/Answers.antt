-- `put_find` meets its contract: a word, the entries and the set, each where the one before ends.
use mathlib.Core.List.{List, [], ◌∷◌, ◌++◌}
use Prim.Native.Nat.{ℕ, ◌+◌, ◌*◌, ◌^◌}
use lib.ListN.{length}
use native.Mathlib.Omega.{arith}
use Rattle.headers.specs.Sets.{Set}
use Rattle.layout.specs.Versions.{header_words}
use Rattle.wide.specs.Forms.{wide_of, narrowed}
use Rattle.events.specs.Play.{find_words}
use Rattle.events.proofs.FindWords.{written_both, entry_words, entry_words_are}
use Rattle.listing.proofs.put_find.Goals as goal

pub returns : goal.returns
unfolding find_words
returns c =
    let a = c.args in
    let way : List ℕ = a.way.now in
    let p : Set = narrowed (header_words a.version) (wide_of a.set) in
    let words : List ℕ = p.care ++ p.value in
    let n = entry_words_are c.requires.way in
    written_both a.at ((6 * 2 ^ 28 + length way * 2 ^ 12 + a.port) ∷ []) (entry_words way ++ words) a.area.now
    c.put_word.ensures
    (written_both (a.at + 1) (entry_words way) words c.put_word.new.area c.put_entries.ensures
    c.put_set.ensures (omega arith) (omega arith))
    (omega arith) (omega arith)
