-- `next` meets its contract: the bit as it stands there, and what is then free is what was left.
use mathlib.Core.Path.{sym, ap, ◌∙◌}
use Rattle.headers.specs.Sets.{beside}
use Rattle.headers.specs.Carving.{free}
use Rattle.sets.specs.Forms.{set_of}
use Rattle.sets.specs.declared.HeaderSet.{HeaderSet}
use Rattle.layout.specs.Records.{half, low_from, high_from}
use Rattle.layout.specs.Versions.{header_words}
use Rattle.wide.specs.Forms.{wide_of}
use Rattle.carving.proofs.Arrays.{cut_fours}
use Rattle.carving.proofs.Cuts.{cut_low_next, cut_low_left, cut_high_next, cut_high_left}
use Rattle.carving.proofs.Cut.next.Goals as goal

pub from_high-requires-clause-free_value : goal.from_high-requires-clause-free_value
from_high-requires-clause-free_value c =
    let x = c.args.x.now in
    let f = cut_fours c.args.self c.well_formed.0 in
    let taken = rw c.high.ensures at c.like.ensures in
    c.outside-left.ensures ∙ cut_high_left x.stored c.requires.cut f c.if-self.true
    ∙ ap (λ (s : HeaderSet). free half (set_of s) (high_from (header_words x.version) x.bytes.now x.at)) (sym taken)

pub returns-then-self-clause-set_value : goal.returns-then-self-clause-set_value
returns-then-self-clause-set_value c =
    let f = cut_fours c.args.self c.well_formed.0 in
    let taken = rw c.high.ensures at c.like.ensures in
    ap wide_of c.from_high.ensures.set_value
    ∙ ap (λ (s : HeaderSet). beside (set_of c.args.self.set.low) (set_of s)) taken
    ∙ cut_high_next c.args.x.now.stored c.requires.cut f c.if-self.true

pub from_low-requires : goal.from_low-requires
from_low-requires c =
    let x = c.args.x.now in
    let f = cut_fours c.args.self c.well_formed.0 in
    let taken = rw c.low.ensures at c.like-2.ensures in
    c.outside-left.ensures ∙ cut_low_left x.stored c.requires.cut f c.if-self.false c.requires.free_value
    ∙ ap (λ (s : HeaderSet). free half (set_of s) (low_from (header_words x.version) x.bytes.now x.at)) (sym taken)

pub returns-clause-set_value : goal.returns-clause-set_value
returns-clause-set_value c =
    let f = cut_fours c.args.self c.well_formed.0 in
    let taken = rw c.low.ensures at c.like-2.ensures in
    ap wide_of c.from_low.ensures.set_value
    ∙ ap (λ (s : HeaderSet). beside (set_of s) (set_of c.args.self.set.high)) taken
    ∙ cut_low_next c.args.x.now.stored c.requires.cut f c.if-self.false c.requires.free_value
