-- `priority` meets its contract: the entry's own bytes say what the fabric has of it.
use mathlib.Core.Path.{◌∙◌}
use native.Mathlib.Omega.{arith}
use Rattle.model.proofs.EntryRead.{entry_read}
use Rattle.model.proofs.priority.Goals as goal

pub priority-requires : goal.priority-requires
priority-requires c =
    let e = entry_read _ _ c.args.fabric.now.accepted _ c.requires _ c.entry.ensures in
    omega (arith, e.bytes.long)

pub returns : goal.returns
returns c =
    let e = entry_read _ _ c.args.fabric.now.accepted _ c.requires _ c.entry.ensures in
    c.priority.ensures ∙ e.priority
