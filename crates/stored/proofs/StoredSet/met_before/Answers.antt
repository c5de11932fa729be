-- `met_before` meets its contract: a transfer moves words of the first half alone.
use Rattle.std.specs.Prelude.{None}
use mathlib.Core.Path.{◌≡◌, ap, ◌∙◌}
use borrow.Author.Rules.{rules}
use Rattle.layout.specs.Versions.{header_words}
use Rattle.wide.specs.Forms.{maybe_wide_of}
use Rattle.wide.proofs.Arrays.{set_fours}
use Rattle.wide.proofs.Halves.{before_halves, wild_met}
use Rattle.wide.proofs.Answers.{first_empty, last_kept, last_empty, both_there}
use Rattle.stored.proofs.StoredSet.met_before.Goals as goal

pub returns-in_err-low : goal.returns-in_err-low
returns-in_err-low c =
    let f = set_fours c.args.t c.well_formed.1.1.0 in
    let said : c.from_residual.result ≡ None = search rules in
    let low = rw (c.low.ensures, c.action_of.ensures) at c.in_err-low.ensures in
    ap maybe_wide_of said ∙ first_empty _ _ _ (before_halves c.args.self.now.stored f.low f.high c.args.transfer) low

pub returns-in_err-high-in-Two : goal.returns-in_err-high-in-Two
returns-in_err-high-in-Two c =
    let f = set_fours c.args.t c.well_formed.1.1.0 in
    let said : c.from_residual-in_err-high-in-Two.result ≡ None = search rules in
    let low = rw (c.low.ensures, c.action_of.ensures) at c.in_ok-low.ensures in
    let last = rw c.high.ensures at c.in_err-high-in-Two.ensures in
    ap maybe_wide_of said ∙ last_empty _ _ _ (before_halves c.args.self.now.stored f.low f.high c.args.transfer) _ low last

pub returns-in-One : goal.returns-in-One
returns-in-One c =
    let stored = c.args.self.now.stored in
    let f = set_fours c.args.t c.well_formed.1.1.0 in
    let low = rw (c.low.ensures, c.action_of.ensures) at c.in_ok-low.ensures in
    last_kept _ _ _ (before_halves stored f.low f.high c.args.transfer) _ low _ (wild_met stored (ap header_words c.in-One.is) f.high)

pub returns-in_ok-high-in-Two : goal.returns-in_ok-high-in-Two
returns-in_ok-high-in-Two c =
    let f = set_fours c.args.t c.well_formed.1.1.0 in
    let low = rw (c.low.ensures, c.action_of.ensures) at c.in_ok-low.ensures in
    let last = rw c.high.ensures at c.in_ok-high-in-Two.ensures in
    both_there _ _ _ (before_halves c.args.self.now.stored f.low f.high c.args.transfer) _ low _ last
