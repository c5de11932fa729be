-- `is_candidate` meets its contract: by the in-port and the match that the entry's own bytes have.
use mathlib.Core.Path.{sym, ◌∙◌}
use native.Mathlib.Omega.{arith}
use Rattle.wide.proofs.Entries.{match_stored}
use Rattle.model.proofs.EntryRead.{entry_read, bytes_long}
use Rattle.model.proofs.Candidates.{other_port, tested}
use Rattle.model.proofs.is_candidate.Goals as goal

pub in_port-requires : goal.in_port-requires
in_port-requires c =
    let e = entry_read _ _ c.args.fabric.now.accepted _ c.requires _ c.entry-e.ensures in
    omega (arith, e.bytes.long)

pub returns-then-in_port-x : goal.returns-then-in_port-x
returns-then-in_port-x c =
    let ok = c.args.fabric.now.accepted in
    let e = entry_read _ _ ok _ c.requires _ c.entry-e.ensures in
    sym (other_port _ _ ok _ _ _ _ e (λ q. c.if-in_port-x.true (c.in_port.ensures ∙ q)))

pub invariant_of-matches : goal.invariant_of-matches
invariant_of-matches c =
    let ok = c.args.fabric.now.accepted in
    let e = entry_read _ _ ok _ c.requires _ c.entry-e.ensures in
    record { stored = match_stored (bytes_long _ _ ok e.bytes) }

pub returns : goal.returns
returns c =
    let ok = c.args.fabric.now.accepted in
    let e = entry_read _ _ ok _ c.requires _ c.entry-e.ensures in
    tested _ _ ok _ _ _ _ e (sym c.in_port.ensures ∙ c.if-in_port-x.false) _ c.holds.ensures
