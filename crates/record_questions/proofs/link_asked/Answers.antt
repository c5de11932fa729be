-- The questions of a link, in its kind's form, with the tables for the ports passed: `link_asked`.
use mathlib.Core.Path.{refl}
use native.Mathlib.Omega.{arith}
use Rattle.std.proofs.Common.{rules, ◌≡◌}
use Rattle.std.specs.Prelude.{Err}
use Rattle.questions.proofs.Asked as asked
use Rattle.questions.proofs.Turns.{number_above, up_to_3, up_to_4, up_to_6, up_to_7}
use Rattle.record_questions.proofs.link_asked.Goals as goal

pub returns-in_err-ask : goal.returns-in_err-ask
returns-in_err-ask c =
    let said : c.from_residual.result ≡ Err c.in_err-ask.field-0.0 = search rules in
    asked.link_asked _ _ _ _ c.requires.here _ _ _ _ _ _ _ c.requires.last_value c.from_of-from.ensures c.port_of-to.ensures
    (c.requires.edge_table.holds _ (omega arith))
    (c.requires.edge_table.holds _ (omega arith)) (c.requires.end_table.holds _ (omega arith))
    (rw said (up_to_3 _ _ _ _ _ _ (number_above _) c.in_err-ask.ensures))

pub returns-in_err-ask-2 : goal.returns-in_err-ask-2
returns-in_err-ask-2 c =
    let said : c.from_residual-in_err-ask-2.result ≡ Err c.in_err-ask-2.field-0.0 = search rules in
    asked.link_asked _ _ _ _ c.requires.here _ _ _ _ _ _ _ c.requires.last_value c.from_of-from.ensures c.port_of-to.ensures
    (c.requires.edge_table.holds _ (omega arith))
    (c.requires.edge_table.holds _ (omega arith)) (c.requires.end_table.holds _ (omega arith))
    (rw said (up_to_4 _ _ _ _ _ _ (number_above _) c.in_ok-ask.ensures c.in_err-ask-2.ensures))

pub returns-in_err-ask-3 : goal.returns-in_err-ask-3
returns-in_err-ask-3 c =
    let said : c.from_residual-in_err-ask-3.result ≡ Err c.in_err-ask-3.field-0.0 = search rules in
    asked.link_asked _ _ _ _ c.requires.here _ _ _ _ _ _ _ c.requires.last_value c.from_of-from.ensures c.port_of-to.ensures
    (c.requires.edge_table.holds _ (omega arith))
    (c.requires.edge_table.holds _ (omega arith)) (c.requires.end_table.holds _ (omega arith))
    (rw said (up_to_6 _ _ _ _ _ _ (number_above _) c.in_ok-ask.ensures c.in_ok-ask-2.ensures refl c.in_err-ask-3.ensures))

pub returns : goal.returns
returns c =
    asked.link_asked _ _ _ _ c.requires.here _ _ _ _ _ _ _ c.requires.last_value c.from_of-from.ensures c.port_of-to.ensures
    (c.requires.edge_table.holds _ (omega arith))
    (c.requires.edge_table.holds _ (omega arith)) (c.requires.end_table.holds _ (omega arith))
    (up_to_7 _ _ _ _ _ _ c.in_ok-ask.ensures c.in_ok-ask-2.ensures refl c.in_ok-ask-3.ensures c.ask-4.ensures)
