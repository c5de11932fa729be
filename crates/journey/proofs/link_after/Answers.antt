-- `link_after` meets its contract by what the table of link starts says of the fabric.
use mathlib.Core.Path.{◌≡◌, sym, ◌∙◌}
use Prim.Native.Nat.{ℕ, suc, ◌-◌}
use native.Mathlib.Omega.{arith}
use Rattle.file.proofs.Accepted.{link_to_low}
use Rattle.model.proofs.Lookups.{no_link, link_looked_up, link_number}
use Rattle.journey.proofs.link_after.Goals as goal

pub returns-then-number-eq0 : goal.returns-then-number-eq0
returns-then-number-eq0 c =
    let s = c.args.links.now in
    no_link _ _ s.fabric.accepted s.from.now s.table c.args.o c.requires (sym c.from-number.ensures ∙ c.if-number-eq0.true)

-- the number found counts from 1
one_more : {k n : ℕ} → (k ≡ 0 → ⊥) → k ≡ n → n ≡ suc (k - 1)
one_more some is = omega arith

pub link_to-requires : goal.link_to-requires
link_to-requires c =
    let s = c.args.links.now in
    link_number _ _ s.fabric.accepted s.from.now s.table c.args.o c.requires _ (one_more c.if-number-eq0.false c.from-number.ensures)

pub returns : goal.returns
returns c =
    let s = c.args.links.now in
    let is = one_more c.if-number-eq0.false c.from-number.ensures in
    let low = link_to_low _ _ s.fabric.accepted _ (link_number _ _ s.fabric.accepted s.from.now s.table c.args.o c.requires _ is) in (
      omega (arith, low, c.link_to.ensures),
      link_looked_up _ _ s.fabric.accepted s.from.now s.table c.args.o c.requires _ is ∙ sym c.link_to.ensures,
    )
