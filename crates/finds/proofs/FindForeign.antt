-- The foreign packet of a find, from the first part of a carving and what the edge's own bytes say, and what is played then.
use mathlib.Core.Bool.{Bool, true, false, cond}
use mathlib.Core.List.{List, head?}
use mathlib.Core.Option.{Option, some, none, map}
use mathlib.Core.Path.{◌≡◌, refl, sym, ap, ap₂, ◌∙◌}
use Prim.Native.Nat.{ℕ}
use lib.Dec.{eqb}
use lib.ListN.{take}
use Rattle.std.specs.Prelude.{Ok, Err}
use Rattle.headers.specs.Sets.{Header, Set, lowest}
use Rattle.headers.specs.Carving.{carve}
use Rattle.answer.specs.Answer.{written_at}
use Rattle.layout.specs.Records.{admitted_at, edge_group, port_of_edge, edge_bytes, width_in}
use Rattle.wide.specs.Forms.{wide_words, stored_at}
use Rattle.file.specs.Accepted.{HasEdge}
use Rattle.forwarding.specs.Verdict.{foreign_packet}
use Rattle.model.specs.Model.{fabric_in, wide_in}
use Rattle.events.specs.Play.{reached_words, judged_by, judged}
use Rattle.events.specs.Asked.{find_at, world_of, played_of}
use Rattle.events.specs.declared.Counters.{Counters}
use Rattle.events.specs.declared.Halt.TheVariants.{Reached}
use Rattle.events.proofs.FindEdge.{group_is, admitted_is}

-- the part of a find in which every packet is foreign: all of it where the group is another, "else .. the first part of the find carved
-- by the admitted set"
abbrev foreign_part : ℕ → List ℕ → ℕ → Set → Option Set
foreign_part w edge group s = cond (eqb (edge_group edge) group) (head? (carve wide_words s (stored_at w edge admitted_at))) (some s)

module _
    {f : List ℕ} {k : ℕ} (has : HasEdge f k) (target : ℕ) {group : ℕ} (is-group : group ≡ (fabric_in f).group target)
    (way : List ℕ) (s : Set) {w : ℕ} (is-width : w ≡ width_in f) {edge : List ℕ} (is-edge : edge ≡ edge_bytes f k)
  where
    packet_is : foreign_packet (wide_in f) target (find_at f k way s) ≡ map (lowest wide_words) (foreign_part w edge group s)
    unfolding foreign_packet
    packet_is =
        rw (is-edge, is-width, is-group)
        (ap₂ (λ (g : ℕ) (a : Set). cond (eqb g ((fabric_in f).group target)) (map (lowest wide_words) (head? (carve wide_words s a)))
        (some (lowest wide_words s))) (group_is has) (admitted_is has)
        ∙ inside (eqb (edge_group (edge_bytes f k)) ((fabric_in f).group target))
        (head? (carve wide_words s (stored_at (width_in f) (edge_bytes f k) admitted_at))))
      where
        inside : (b : Bool) (o : Option Set)
            → cond b (map (lowest wide_words) o) (some (lowest wide_words s)) ≡ map (lowest wide_words) (cond b o (some s))
        inside true o = refl
        inside false o = refl

    -- what the code makes of that part: no part, and the trace goes on; a part, and the verdict stops at its lowest header
    module _ (counters : Counters) (area : List ℕ) where
      pub judged_on : none ≡ foreign_part w edge group s
          → played_of {T = Unit {0}} (Ok tt) counters area
          ≡ judged (wide_in f) (width_in f) target (find_at f k way s) (world_of counters area)
      unfolding judged
      judged_on e =
          ap (λ (o : Option Header). judged_by (wide_in f) (width_in f) target o (find_at f k way s) (world_of counters area))
          (ap (map (lowest wide_words)) e ∙ sym packet_is)

      pub judged_stops : {t : Set} → some t ≡ foreign_part w edge group s → {written : List ℕ}
          → written ≡ written_at 0 (reached_words counters.made (port_of_edge f k) way (take (width_in f) (lowest wide_words t))) area
          → played_of {T = Unit {0}} (Err Reached) counters written
          ≡ judged (wide_in f) (width_in f) target (find_at f k way s) (world_of counters area)
      unfolding judged
      judged_stops e h =
          ap (played_of {T = Unit {0}} (Err Reached) counters) h
          ∙ ap (λ (o : Option Header). judged_by (wide_in f) (width_in f) target o (find_at f k way s) (world_of counters area))
          (ap (map (lowest wide_words)) e ∙ sym packet_is)
