-- What the trace has in hand stays in hand: after a unit, after a call, and with an entry put on the path. Assumes nothing.
use mathlib.Core.List.{List}
use mathlib.Core.Path.{◌≡◌, ap}
use Prim.Native.Nat.{ℕ, ◌-◌, ◌*◌, ◌≤◌, ◌<◌}
use native.Mathlib.Omega.{arith}
use Rattle.std.specs.Prelude.{Result}
use lib.ListN.{length, set, replicate}
use Rattle.answer.specs.Answer.{answer_words}
use Rattle.forwarding.specs.Trace.{Event}
use Rattle.index.specs.Index.{Index}
use Rattle.events.specs.Play.{Played}
use Rattle.events.specs.Asked.{Asked, budget_of, floor_of, mode_of, words_asked, world_of, found_by, UnitMade}
use Rattle.events.specs.declared.Ask.{Ask}
use Rattle.events.specs.declared.Counters.{Counters}
use Rattle.events.specs.declared.Halt.{Halt}
use Rattle.events.proofs.Budgets.{found_makes_none, play_within, unit_within}
use Rattle.backtrace.specs.Cycle.{Tracing, Traced, Kept}
use Rattle.backtrace.proofs.Paths.{path_kept, path_pushed}

-- with what is known of the file and its index
pub record InHand (f : List ℕ) (ask : Ask) (index : List ℕ) (d : ℕ) (path : List ℕ) (counters : Counters)
    (area : List ℕ) : Type 0 where
  pub asked : Asked f ask
  pub indexed : Index f index
  pub tracing : Tracing ask d path counters area

-- a trace begins with no unit made and no entry on the path
pub begun : {f : List ℕ} {ask : Ask} {index : List ℕ} (area : List ℕ) → Asked f ask → Index f index → floor_of ask ≤ 16
    → (mode_of ask ≡ 3 → 4 * answer_words (words_asked ask) ≤ length area)
    → InHand f ask index 16 (replicate 16 0) (record { made = 0; words = 0 }) area
begun area asked indexed floor room = record {
  asked = asked;
  indexed = indexed;
  tracing = record {
    above_floor = floor;
    on_path = record { long = omega arith; within = omega arith; entries = λ k l h. absurd (omega arith) };
    room = record { made_within = omega arith; verdict_room = room };
  };
}

module _ {f : List ℕ} {ask : Ask} {index : List ℕ} {d : ℕ} {path : List ℕ} {counters : Counters} {area : List ℕ}
    (t : InHand f ask index d path counters area) where
  pub after_unit : {T : Type 0} {made : Result T Halt} {counters' : Counters} → UnitMade ask counters made counters'
      → InHand f ask index d path counters' area
  after_unit u = record {
    asked = t.asked;
    indexed = t.indexed;
    tracing = record {
      above_floor = t.tracing.above_floor;
      on_path = t.tracing.on_path;
      room = record {
        made_within = rw (ap (λ (p : Played). p.world.made) (u.played area))
            (unit_within (budget_of ask) (world_of counters area) t.tracing.room.made_within);
        verdict_room = t.tracing.room.verdict_room;
      };
    };
  }

  pub on_kept : {path' : List ℕ} → Kept d path path' → InHand f ask index d path' counters area
  on_kept k = record {
    asked = t.asked;
    indexed = t.indexed;
    tracing = record {
      above_floor = t.tracing.above_floor;
      on_path = path_kept t.tracing.on_path k;
      room = t.tracing.room;
    };
  }

  pub after_call : {events : List Event} {r : Result (Unit {0}) Halt} {path' : List ℕ} {counters' : Counters} {area' : List ℕ}
      → Traced f ask events counters area r counters' area'
      → Kept d path path' → length area' ≡ length area → InHand f ask index d path' counters' area'
  after_call {events} x k l = record {
    asked = t.asked;
    indexed = t.indexed;
    tracing = record {
      above_floor = t.tracing.above_floor;
      on_path = path_kept t.tracing.on_path k;
      room = record {
        made_within =
            rw (ap (λ (p : Played). p.world.made) x.played)
            (play_within (budget_of ask) (found_by f ask) (found_makes_none f ask) events (world_of counters area)
            t.tracing.room.made_within);
        verdict_room = λ m. rw l (t.tracing.room.verdict_room m);
      };
    };
  }

  pub after_push : {e : ℕ} {path' : List ℕ} → floor_of ask < d → e < 512 → path' ≡ set path (d - 1) e → InHand f ask index
      (d - 1) path' counters area
  after_push {e} below l h = record {
    asked = t.asked;
    indexed = t.indexed;
    tracing = record {
      above_floor = omega arith;
      on_path = rw h (path_pushed path d e (omega arith) t.tracing.on_path.long t.tracing.on_path l);
      room = t.tracing.room;
    };
  }
