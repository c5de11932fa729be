-- The questions of an edge, in its kind's form: `edge_asked`; where it is cut short, `edge_cut`.
use mathlib.Core.Path.{◌≡◌, refl, ◌∙◌}
use native.Mathlib.Omega.{arith}
use borrow.Author.Tests.{leb-true, leb-false}
use Rattle.std.proofs.Common.{rules}
use Rattle.std.specs.Prelude.{Err}
use Rattle.questions.proofs.Asked as asked
use Rattle.questions.proofs.Turns.{number_above, up_to_4, up_to_5, up_to_7, said_yes, said_no}
use Rattle.record_questions.proofs.edge_asked.Goals as goal

pub returns-in_err-ask : goal.returns-in_err-ask
returns-in_err-ask c =
    let said : c.from_residual.result ≡ Err c.in_err-ask.field-0.0 = search rules in
    let no_room = said_no _ 3 _ (number_above _) c.in_err-ask.ensures in
    let short = leb-false _ _ no_room.0 in
    rw said
    (no_room.1 ∙ asked.edge_cut _ _ _ _ _ _ c.requires.version_is c.requires.here c.requires.at_value c.edge_words.ensures (omega arith))

pub returns-in_err-ask-2 : goal.returns-in_err-ask-2
returns-in_err-ask-2 c =
    let said : c.from_residual-in_err-ask-2.result ≡ Err c.in_err-ask-2.field-0.0 = search rules in
    let fits = leb-true _ _ (said_yes _ 3 (omega arith) c.in_ok-ask.ensures) in
    asked.edge_asked _ _ _ _ _ _ c.requires.version_is c.requires.here c.requires.at_value c.edge_words.ensures (omega arith) _ _ _ _
    c.requires.last_value c.port_of-port.ensures refl
    (rw said (up_to_4 _ _ _ _ _ _ (number_above _) refl c.in_err-ask-2.ensures))

pub returns-in_err-ask-3 : goal.returns-in_err-ask-3
returns-in_err-ask-3 c =
    let said : c.from_residual-in_err-ask-3.result ≡ Err c.in_err-ask-3.field-0.0 = search rules in
    let fits = leb-true _ _ (said_yes _ 3 (omega arith) c.in_ok-ask.ensures) in
    asked.edge_asked _ _ _ _ _ _ c.requires.version_is c.requires.here c.requires.at_value c.edge_words.ensures (omega arith) _ _ _ _
    c.requires.last_value c.port_of-port.ensures c.clean_at-clean.ensures
    (rw said (up_to_5 _ _ _ _ _ _ (number_above _) refl c.in_ok-ask-2.ensures c.in_err-ask-3.ensures))

pub returns : goal.returns
returns c =
    let fits = leb-true _ _ (said_yes _ 3 (omega arith) c.in_ok-ask.ensures) in
    asked.edge_asked _ _ _ _ _ _ c.requires.version_is c.requires.here c.requires.at_value c.edge_words.ensures (omega arith) _ _ _ _
    c.requires.last_value c.port_of-port.ensures c.clean_at-clean.ensures
    (up_to_7 _ _ _ _ _ _ refl c.in_ok-ask-2.ensures c.in_ok-ask-3.ensures refl c.ask-4.ensures)
