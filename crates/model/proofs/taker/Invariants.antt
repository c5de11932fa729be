-- `taker` meets its contract. The loop's invariant: `best` is the best of the entries passed.
use Rattle.wide.specs.Forms.{words_of}
use Rattle.model.specs.Model.{wide_in}
use Rattle.model.specs.Taking.{AmongEntries, IsBest}
use Rattle.model.proofs.taker.Given as goal

abbrev pub invariant-loop-i : goal.invariant-loop-i
invariant-loop-i l = record {
  among : AmongEntries l.fabric.counts.entries l.best;
  best : IsBest (wide_in l.fabric.file.now) l.x (words_of l.h) l.i l.best;
}
