-- `list_find` meets its contract: the find is played as the list has it, by whether there is room for its words.
use mathlib.Core.Bool.{true, false}
use mathlib.Core.Path.{◌≡◌, sym, ◌∙◌}
use Prim.Native.Nat.{◌+◌, ◌/◌}
use borrow.Author.Rules.{rules}
use lib.Dec.{leb}
use lib.ListN.{length}
use Rattle.layout.specs.Records.{set_words}
use Rattle.layout.specs.Versions.{header_words}
use Rattle.layout.proofs.Widths.{version_width}
use Rattle.listing.proofs.FindPlayed.{FourWords, listed_is, fitted_by}
use Rattle.listing.proofs.list_find.Goals as goal

pub returns-then-has_room : goal.returns-then-has_room
returns-then-has_room c =
    let a = c.args in
    let s = a.find.now.set in
    let four : FourWords s =
    record { low_care = search rules; low_value = search rules; high_care = search rules; high_value = search rules } in
    let width = version_width a.version in
    let fits : true ≡ leb (a.counters.now.words + (1 + length a.find.now.way.now + set_words (header_words a.version)))
    (length a.area.now / 4) = rw c.words_of-words.ensures at (sym c.if-has_room.true ∙ c.has_room.ensures) in
    let counted = c.count_words.ensures in
    listed_is c.requires.way a.file.now a.find.now.edge width s four a.counters.now a.area.now c.count_words.new.counters
    counted.made_stays (rw c.words_of-words.ensures at counted.words_after)
    (rw c.port_at.ensures at c.put_find.ensures
    ∙ fitted_by c.requires.way a.file.now a.find.now.edge width s four a.counters.now a.area.now true fits)

pub returns-else-has_room : goal.returns-else-has_room
returns-else-has_room c =
    let a = c.args in
    let s = a.find.now.set in
    let four : FourWords s =
    record { low_care = search rules; low_value = search rules; high_care = search rules; high_value = search rules } in
    let width = version_width a.version in
    let fits : false ≡ leb (a.counters.now.words + (1 + length a.find.now.way.now + set_words (header_words a.version)))
    (length a.area.now / 4) = rw c.words_of-words.ensures at (sym c.if-has_room.false ∙ c.has_room.ensures) in
    let counted = c.count_words.ensures in
    listed_is c.requires.way a.file.now a.find.now.edge width s four a.counters.now a.area.now c.count_words.new.counters
    counted.made_stays (rw c.words_of-words.ensures at counted.words_after)
    (fitted_by c.requires.way a.file.now a.find.now.edge width s four a.counters.now a.area.now false fits)
