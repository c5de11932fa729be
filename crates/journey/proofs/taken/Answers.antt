-- `taken` meets its contract: each return is one of the fates of a packet that one entry takes.
use mathlib.Core.Path.{◌≡◌, sym, ap, subst, ◌∙◌}
use native.Mathlib.Omega.{arith}
use Rattle.layout.specs.Records.{width_in}
use Rattle.wide.specs.Forms.{words_of}
use Rattle.wide.proofs.Entries.{rewrite_stored_lem}
use Rattle.file.proofs.Accepted.{few_entries}
use Rattle.forwarding.specs.Fabric.{out_port_of, applied}
use Rattle.model.specs.Model.{fabric_in, wide_in}
use Rattle.model.proofs.EntryRead.{EntryRead, entry_read, bytes_long}
use Rattle.journey.specs.Journey.{fate_number, Hopped}
use Rattle.journey.proofs.Acted.{applied_stored}
use Rattle.journey.proofs.Hops.{hopped_dropped, hopped_left, hopped_on}
use Rattle.journey.proofs.taken.Goals as goal
use Rattle.journey.proofs.taken.Goals.{After-out_port-o}

-- the last entry's hop, as far as its out-port is read
module _ (c : After-out_port-o) where
  read : EntryRead (width_in c.args.links.now.fabric.file.now) (fabric_in c.args.links.now.fabric.file.now) c.args.e c.entry-x.result.now
  read = entry_read _ _ c.args.links.now.fabric.accepted _ c.requires.e_lt_entries _ c.entry-x.ensures

  -- the header that the entry makes
  made : applied (wide_in c.args.links.now.fabric.file.now) c.args.e (words_of c.args.j.header) ≡ words_of c.applied.result
  made = applied_stored _ _ c.args.links.now.fabric.accepted _ _ read _ c.rewrite_at.ensures _ c.transfer.ensures _ _ c.applied.ensures

  out : out_port_of (wide_in c.args.links.now.fabric.file.now) c.args.e ≡ c.out_port-o.result
  out = sym (c.out_port-o.ensures ∙ read.out_port_lem)

pub overflow_cast-entries : goal.overflow_cast-entries
overflow_cast-entries c = omega (arith, few_entries _ _ c.args.links.now.fabric.accepted)

pub invariant_of-rewrite : goal.invariant_of-rewrite
invariant_of-rewrite c =
    let ok = c.args.links.now.fabric.accepted in
    let read = entry_read _ _ ok _ c.requires.e_lt_entries _ c.entry-x.ensures in
    record { stored = rw c.rewrite_at.ensures (rewrite_stored_lem (bytes_long _ _ ok read.bytes)) }

pub returns-then-o-eq0 : goal.returns-then-o-eq0
returns-then-o-eq0 c =
    let o = (goal.at.returns-then-o-eq0 c).After-out_port-o in
    subst (Hopped _ c.args.j) (sym c.ended.ensures)
    (hopped_dropped _ c.args.j (ap fate_number c.requires.travelling) _ c.requires.alone _ (made o) (out o ∙ c.if-o-eq0.true))

pub returns-in-None : goal.returns-in-None
returns-in-None c =
    let o = (goal.at.returns-in-None c).After-out_port-o in
    hopped_left _ c.args.j (ap fate_number c.requires.travelling) _ c.requires.alone _ (made o) _ (out o) c.if-o-eq0.false
    c.in-None.ensures

pub returns-in-Some : goal.returns-in-Some
returns-in-Some c =
    let o = (goal.at.returns-in-Some c).After-out_port-o in
    hopped_on _ c.args.j (ap fate_number c.requires.travelling) _ c.requires.alone _ (made o) _ _ (out o) c.if-o-eq0.false
    c.in-Some.ensures.1 (λ e. omega (arith, c.in-Some.ensures.0))
