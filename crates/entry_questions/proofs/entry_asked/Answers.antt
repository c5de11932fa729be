-- The questions of an entry, in its kind's form, with the table of counts: `entry_asked`; where it is cut short, `entry_cut`.
use mathlib.Core.Path.{◌≡◌, refl, ◌∙◌}
use native.Mathlib.Omega.{arith}
use borrow.Author.Tests.{leb-true, leb-false}
use Rattle.std.proofs.Common.{rules}
use Rattle.std.specs.Prelude.{Err}
use Rattle.questions.proofs.Asked as asked
use Rattle.questions.proofs.Turns.{number_above, up_to_3, up_to_4, up_to_5, up_to_7, said_yes, said_no}
use Rattle.entry_questions.proofs.entry_asked.Goals as goal

pub returns-in_err-ask : goal.returns-in_err-ask
returns-in_err-ask c =
    let said : c.from_residual.result ≡ Err c.in_err-ask.field-0.0 = search rules in
    let no_room = said_no _ 3 _ (number_above _) c.in_err-ask.ensures in
    let short = leb-false _ _ no_room.0 in
    rw said
    (no_room.1
    ∙ asked.entry_cut _ _ _ _ _ _ _ _ c.requires.version_is c.requires.here c.requires.at_value c.entry_words.ensures (omega arith))

pub returns-in_err-ask-2 : goal.returns-in_err-ask-2
returns-in_err-ask-2 c =
    let said : c.from_residual-in_err-ask-2.result ≡ Err c.in_err-ask-2.field-0.0 = search rules in
    let fits = leb-true _ _ (said_yes _ 3 (omega arith) c.in_ok-ask.ensures) in
    asked.entry_asked _ _ _ _ _ _ _ _ c.requires.version_is c.requires.here c.requires.at_value c.entry_words.ensures
    (omega arith) _ _ _ _ _ _ _ _ _ _ _
    c.word-second.ensures c.port_of-port.ensures c.rank_of-zero.ensures c.transfer_of-known.ensures refl refl refl refl refl refl
    (rw said (up_to_3 _ _ _ _ _ _ (number_above _) c.in_err-ask-2.ensures))

pub returns-in_err-ask-3 : goal.returns-in_err-ask-3
returns-in_err-ask-3 c =
    let said : c.from_residual-in_err-ask-3.result ≡ Err c.in_err-ask-3.field-0.0 = search rules in
    let fits = leb-true _ _ (said_yes _ 3 (omega arith) c.in_ok-ask.ensures) in
    asked.entry_asked _ _ _ _ _ _ _ _ c.requires.version_is c.requires.here c.requires.at_value c.entry_words.ensures
    (omega arith) _ _ _ _ _ _ _ _ _ _ _
    c.word-second.ensures c.port_of-port.ensures c.rank_of-zero.ensures c.transfer_of-known.ensures c.port_of.ensures
    refl refl refl refl refl
    (rw said (up_to_4 _ _ _ _ _ _ (number_above _) c.in_ok-ask-2.ensures c.in_err-ask-3.ensures))

pub returns-in_err-ask-4 : goal.returns-in_err-ask-4
returns-in_err-ask-4 c =
    let said : c.from_residual-in_err-ask-4.result ≡ Err c.in_err-ask-4.field-0.0 = search rules in
    let fits = leb-true _ _ (said_yes _ 3 (omega arith) c.in_ok-ask.ensures) in
    asked.entry_asked _ _ _ _ _ _ _ _ c.requires.version_is c.requires.here c.requires.at_value c.entry_words.ensures
    (omega arith) _ _ _ _ _ _ _ _ _ _ _
    c.word-second.ensures c.port_of-port.ensures c.rank_of-zero.ensures c.transfer_of-known.ensures c.port_of.ensures
    c.clean_at.ensures c.rewrite_at.ensures c.clean_at-2.ensures refl refl
    (rw said (up_to_5 _ _ _ _ _ _ (number_above _) c.in_ok-ask-2.ensures c.in_ok-ask-3.ensures c.in_err-ask-4.ensures))

pub returns : goal.returns
returns c =
    let fits = leb-true _ _ (said_yes _ 3 (omega arith) c.in_ok-ask.ensures) in
    asked.entry_asked _ _ _ _ _ _ _ _ c.requires.version_is c.requires.here c.requires.at_value c.entry_words.ensures
    (omega arith) _ _ _ _ _ _ _ _ _ _ _
    c.word-second.ensures c.port_of-port.ensures c.rank_of-zero.ensures c.transfer_of-known.ensures c.port_of.ensures
    c.clean_at.ensures c.rewrite_at.ensures c.clean_at-2.ensures
    c.most_entries.ensures (c.requires.counts.holds _ (omega arith))
    (up_to_7 _ _ _ _ _ _ c.in_ok-ask-2.ensures c.in_ok-ask-3.ensures c.in_ok-ask-4.ensures refl c.ask-5.ensures)
