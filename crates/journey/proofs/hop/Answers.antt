-- `hop` meets its contract: by the entries that may take the packet.
use mathlib.Core.Bool.{true≢false}
use mathlib.Core.Path.{◌≡◌, sym, ap, subst, ◌∙◌}
use borrow.Author.Rules.{rules}
use native.Mathlib.Omega.{arith}
use Rattle.model.proofs.EntryRead.{entries_are}
use Rattle.journey.specs.Journey.{fate_number, Hopped}
use Rattle.journey.specs.declared.Fate.TheVariants.{Travelling}
use Rattle.journey.proofs.Hops.{fate_travelling, hopped_ended, hopped_missed, hopped_tied}
use Rattle.journey.proofs.hop.Goals as goal

pub returns-then-ne : goal.returns-then-ne
returns-then-ne c =
    hopped_ended _ _ (λ (three : fate_number c.args.j.fate ≡ 3).
    let is : c.args.j.fate ≡ Travelling = fate_travelling c.args.j.fate three in
    true≢false (rw is at (sym c.if-ne.true ∙ c.ne.ensures)))

pub taken-requires-clause-e_lt_entries : goal.taken-requires-clause-e_lt_entries
taken-requires-clause-e_lt_entries c = omega (arith, entries_are _ _ c.args.links.now.fabric.accepted, c.in-One.ensures.0)

pub returns-in-Nobody : goal.returns-in-Nobody
returns-in-Nobody c =
    let is : c.args.j.fate ≡ Travelling = search rules in
    subst (Hopped _ c.args.j) (sym c.ended.ensures)
    (hopped_missed _ c.args.j (ap fate_number is) _ c.miss_fate.ensures c.in-Nobody.ensures)

pub returns-in-Several : goal.returns-in-Several
returns-in-Several c =
    let is : c.args.j.fate ≡ Travelling = search rules in
    subst (Hopped _ c.args.j) (sym c.ended-in-Several.ensures) (hopped_tied _ c.args.j (ap fate_number is) c.in-Several.ensures.1)
