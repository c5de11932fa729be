-- What the trace of the lost promises: T17 and T18.
use Rattle.std.specs.Prelude.{List, ℕ, suc}
use Rattle.headers.specs.Sets.{Set}
use Rattle.forwarding.specs.Trace.{Event, lost_trace}
use Rattle.layout.specs.Records.{width_in}
use Rattle.model.specs.Model.{wide_in}
use Rattle.events.specs.Play.{Played, play, listed}
use Rattle.events.specs.Pass.{begin}

-- the events of the packets that have made at most so many hops when they are lost
unfoldable pub lost_events : List ℕ → ℕ → Set → List Event
lost_events f hops t = lost_trace (wide_in f) (suc hops) t

-- the events of a list with target 0, played for it
abbrev pub lost_pass_of : List ℕ → ℕ → ℕ → Set → List ℕ → Played
lost_pass_of f limit budget asked area = play budget (listed (width_in f)) (lost_trace (wide_in f) limit asked) (begin area)
