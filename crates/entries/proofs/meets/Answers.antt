-- `meets` meets its contract: the fabric's entry is what its bytes say.
use mathlib.Core.Path.{◌≡◌, sym, ap, ◌∙◌}
use Rattle.headers.specs.Sets.{overlaps}
use Rattle.layout.specs.Records.{width_in, match_at}
use Rattle.layout.specs.Versions.{header_words}
use Rattle.wide.specs.Forms.{wide_words, wide_of, stored_at}
use Rattle.stored.specs.Forms.{set_there}
use Rattle.entries.proofs.Entries.{match_is}
use Rattle.entries.proofs.meets.Goals as goal

pub returns : goal.returns
returns c =
    let from = c.requires.entries_from in
    let words = ap header_words (c.matches.ensures.same_version ∙ c.entry_at.ensures.same_version) ∙ from.width_is in
    let stored : set_there c.matches.result ≡ stored_at (width_in c.args.file.now) c.entry_at.result.bytes.now match_at =
    λ i. stored_at (words i) (c.matches.ensures.bytes i) (c.matches.ensures.at i) in
    c.meets.ensures ∙ ap (overlaps wide_words (wide_of c.args.p)) (stored ∙ sym (match_is from.fabric c.entry_at.ensures.entry))
