-- `cares_for_all` meets its contract: by the halves, of which version 1 has one.
use borrow.Author.Rules.{rules}
use Rattle.queries.proofs.Cared.{not_cared, cared_then}
use Rattle.queries.proofs.cares_for_all.Goals as goal

pub returns-in-Two : goal.returns-in-Two
returns-in-Two c =
    let s = c.args.s in
    cared_then s.low.care s.high.care (search rules) (search rules) c.args.version c.in-Two.is _ _ c.eq.ensures c.if-eq.true
    c.eq-in-Two.ensures

pub returns-else-eq : goal.returns-else-eq
returns-else-eq c =
    let s = c.args.s in
    not_cared s.low.care s.high.care (search rules) (search rules) c.args.version _ c.eq.ensures c.if-eq.false
