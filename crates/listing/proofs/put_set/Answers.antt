-- `put_set` meets its contract: the value is written where care ends.
use borrow.Author.Rules.{rules}
use native.Mathlib.Omega.{arith}
use Rattle.headers.specs.Sets.{Set}
use Rattle.layout.specs.Versions.{header_words}
use Rattle.layout.proofs.Widths.{version_width}
use Rattle.wide.specs.Forms.{wide_of, narrowed}
use Rattle.events.proofs.FindWords.{written_both, narrowed_long}
use Rattle.listing.proofs.put_set.Goals as goal

pub returns : goal.returns
returns c =
    let a = c.args in
    let p : Set = narrowed (header_words a.version) (wide_of a.p) in
    let care_long = narrowed_long (version_width a.version) a.p.low.care a.p.high.care (search rules) (search rules) in
    written_both a.at p.care p.value a.area.now c.put_header.ensures c.put_header-2.ensures (omega (arith, care_long)) (omega arith)
