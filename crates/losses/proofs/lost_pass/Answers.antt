-- `lost_pass` meets its contract: its trace is of an accepted file, and what `lost_ports` leaves is the pass.
use Rattle.std.proofs.Common.{refl}
use Rattle.wide.specs.Forms.{wide_of}
use Rattle.file.proofs.Accepted.{words_said}
use Rattle.losses.proofs.Passing.{asked, lost_passed}
use Rattle.losses.proofs.lost_pass.Goals as goal

pub invariant_of-trace : goal.invariant_of-trace
invariant_of-trace c =
    let fabric = c.args.fabric.now in
    record {
      asked = asked fabric.accepted _ refl refl c.entries_at.ensures (words_said _ _ fabric.accepted);
      indexed = c.requires.index;
    }

pub returns : goal.returns
returns c =
    lost_passed c.args.fabric.now.file.now _ c.args.query.now.limit c.requires.le_limit.0 c.requires.le_limit.1 refl refl
    (wide_of c.args.query.now.asked) c.args.area.now c.lost_ports-ended.ensures
