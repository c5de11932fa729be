-- `WideSet::lowest` meets its contract: the lowest of each half.
use mathlib.Core.List.{◌++◌}
use mathlib.Core.Path.{sym, ap₂, ◌∙◌}
use borrow.Author.Rules.{rules}
use Rattle.sets.specs.Forms.{set_of}
use Rattle.headers.proofs.Beside.{lowest_beside}
use Rattle.wide.proofs.WideSet.lowest.Goals as goal

pub returns : goal.returns
returns c =
    let s = c.args.self in
    ap₂ ◌++◌ c.lowest.ensures c.lowest-2.ensures
    ∙ sym (lowest_beside 4 4 (set_of s.low) (set_of s.high) (record { care = search rules; value = search rules }))
