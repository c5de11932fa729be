-- What an entry takes back, with the entry on the path: its events are those of the trials against its beaters. Assumes nothing.
use mathlib.Core.List.{List, ◌∷◌}
use mathlib.Core.Path.{◌≡◌, sym, ap, ap₂, ◌∙◌}
use Prim.Native.Nat.{ℕ, ◌+◌, ◌-◌, ◌<◌}
use native.Mathlib.Omega.{arith}
use Rattle.std.specs.Prelude.{Result}
use lib.Dec.{leb}
use lib.ListN.{get_or, set, drop}
use Rattle.headers.specs.Sets.{Set}
use Rattle.layout.specs.Records.{entry_in, entry_priority}
use Rattle.forwarding.specs.Fabric.{in_port_of, outranks}
use Rattle.forwarding.specs.BackTrace.{beaters}
use Rattle.forwarding.specs.Trace.{carved}
use Rattle.model.specs.Model.{fabric_in, wide_in}
use Rattle.index.specs.Index.{first_in}
use Rattle.index.proofs.Chained.{Next}
use Rattle.entries.specs.Entries.{IsEntry, ranked_from}
use Rattle.entries.proofs.Entries.{entries_few, in_port_is, priority_is}
use Rattle.entries.proofs.InChains.{chain_head}
use Rattle.entries.proofs.Ranked.{beaters_ranked}
use Rattle.events.specs.Asked.{floor_of}
use Rattle.events.specs.declared.Ask.{Ask}
use Rattle.events.specs.declared.Counters.{Counters}
use Rattle.events.specs.declared.Halt.{Halt}
use Rattle.backtrace.specs.Cycle.{Traced, Kept, survivor_events, events_from, taken_back}
use Rattle.backtrace.proofs.Paths.{kept_pushed, pushed_drop}
use Rattle.backtrace.proofs.Tracings.{InHand, after_push}
use Rattle.backtrace.proofs.Descents.{traced_same}

module _ {f : List ℕ} {ask : Ask} {index : List ℕ} {d : ℕ} {path : List ℕ} {counters : Counters} {area : List ℕ}
    (x : InHand f ask index d path counters area) (hop_left : floor_of ask < d) {e : ℕ} {y : List ℕ} (i : IsEntry f e y) where
  -- the first entry of the chain of an in-port
  pub head_of : {port n : ℕ} → port < 4096 → n ≡ get_or index (first_in + port) 0
      → Next (in_port_of (fabric_in f)) (fabric_in f).entries port 0 n
  head_of {port} {n} l h = chain_head (entries_few x.asked.fabric) x.indexed.by_in_port port n l h

  module _ {path₁ : List ℕ} (pushed : path₁ ≡ set path (d - 1) e) where
    pub with_entry : InHand f ask index (d - 1) path₁ counters area
    with_entry = after_push x hop_left (omega (arith, i.within, entries_few x.asked.fabric)) pushed

    -- what keeps the path with the entry on it keeps the path
    pub kept_under : {path₂ : List ℕ} → Kept (d - 1) path₁ path₂ → Kept d path path₂
    kept_under k = kept_pushed path d e (omega arith) x.tracing.on_path.long (rw pushed at k)

    path_begins : drop (d - 1) path₁ ≡ e ∷ drop d path
    path_begins =
        ap (drop (d - 1)) pushed ∙ pushed_drop path d e (omega arith) x.tracing.on_path.long x.tracing.on_path.within

    module _ {port : ℕ} (is-port : port ≡ entry_in y) (q : ℕ) (least : (p : ℕ) → leb q p ≡ outranks p (entry_priority y)) where
      in_port_lem : port ≡ in_port_of (wide_in f) e
      in_port_lem = is-port ∙ sym (in_port_is x.asked.fabric i)

      tried_by : ranked_from (wide_in f) port q 0 ≡ beaters (wide_in f) e
      tried_by =
          ap (λ (y : ℕ). ranked_from (wide_in f) y q 0) in_port_lem
          ∙ sym (beaters_ranked (wide_in f) e q
          (λ p. least p ∙ ap (outranks p) (sym (priority_is x.asked.fabric i))))

      entry_events : (hops : ℕ) (p : Set) → events_from f port q 0 hops (drop (d - 1) path₁) p ≡ taken_back f e hops (drop d path) p
      unfolding events_from taken_back
      entry_events hops p =
          ap₂ (λ (way bs : List ℕ). carved (wide_in f) (survivor_events f port hops way) bs p) path_begins tried_by
          ∙ ap (λ (y : ℕ). carved (wide_in f) (survivor_events f y hops (e ∷ drop d path)) (beaters (wide_in f) e) p) in_port_lem

      pub took_back : (hops : ℕ) (p : Set) {counters₀ : Counters} {area₀ : List ℕ} {r : Result (Unit {0}) Halt}
          {counters₂ : Counters} {area₂ : List ℕ}
          → Traced f ask (events_from f port q 0 hops (drop (d - 1) path₁) p) counters₀ area₀ r counters₂ area₂
          → Traced f ask (taken_back f e hops (drop d path) p) counters₀ area₀ r counters₂ area₂
      took_back hops p w = traced_same (entry_events hops p) w
