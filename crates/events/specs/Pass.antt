-- What one pass of the back-trace promises.
use Rattle.std.specs.Prelude.{List, ℕ}
use Rattle.headers.specs.Sets.{Set}
use Rattle.forwarding.specs.Trace.{trace}
use Rattle.model.specs.Model.{wide_in}
use Rattle.events.specs.Play.{World, Played, play}
use Rattle.events.specs.Asked.{by_mode, played_of}
use Rattle.events.specs.declared.Passed.{Passed}

-- nothing is made or counted yet
abbrev pub begin : List ℕ → World
begin area = record { made = 0; words = 0; area = area }

abbrev pub played_then : Passed → List ℕ → Played
played_then p area = played_of p.ended p.counters area

-- the events of the back-trace of a set of eight words, played in a mode
abbrev pub pass_of : List ℕ → ℕ → ℕ → ℕ → ℕ → Set → List ℕ → Played
pass_of f mode target limit budget asked area = play budget (by_mode mode f target) (trace (wide_in f) limit target asked) (begin area)
