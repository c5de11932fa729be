-- `put_reached` meets its contract: four words, the header and the entries, each where the one before ends.
use mathlib.Core.List.{List, [], ◌∷◌, ◌++◌}
use mathlib.Core.Path.{◌≡◌, refl}
use Prim.Native.Nat.{ℕ}
use lib.ListN.{length, take}
use lib.Seq.{length-take-le}
use native.Mathlib.Omega.{arith}
use Rattle.headers.specs.Sets.{lowest}
use Rattle.layout.specs.Versions.{header_words}
use Rattle.layout.proofs.Widths.{version_width}
use Rattle.wide.specs.Forms.{wide_words, wide_of}
use Rattle.answer.specs.Answer.{sixteen}
use Rattle.events.specs.Play.{reached_words}
use Rattle.events.proofs.FindWords.{written_both}
use Rattle.finds.proofs.put_reached.Goals as goal

pub returns : goal.returns
unfolding reached_words
returns c =
    let a = c.args in
    let entries : List ℕ = sixteen a.way.now in
    let whole : List ℕ = lowest wide_words (wide_of a.set) in
    let w : ℕ = header_words a.version in
    let header : List ℕ = take w whole in
    let eight : length whole ≡ wide_words = refl in
    let long : length header ≡ w = length-take-le w whole (omega (arith, (version_width a.version).high)) in
    written_both 0 (1 ∷ a.units ∷ a.port ∷ length a.way.now ∷ []) (header ++ entries) a.area.now c.put_words.ensures
    (written_both 4 header entries c.put_words.new.area (rw c.lowest.ensures at c.put_header.ensures)
    c.put_sixteen.ensures (omega arith) (omega arith))
    (omega arith) (omega arith)
