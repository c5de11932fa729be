-- What the words of a run say, read back from the area, and what that means under every choice.
use mathlib.Core.List.{List, ◌∷◌, ◌++◌, reverse, reverse-reverse}
use mathlib.Core.Bool.{true}
use mathlib.Core.Path.{◌≡◌, refl, sym, ap, ◌∙◌, subst}
use Prim.Native.Nat.{ℕ, ◌^◌, ◌≤◌, ◌<◌}
use native.Mathlib.Omega.{arith}
use lib.ListN.{length, length-reverse}
use Rattle.headers.specs.Bits.{Words}
use Rattle.answer.specs.Answer.{answered, sixteen}
use Rattle.layout.specs.Shape.{Shape}
use Rattle.file.specs.Accepted.{Accepted}
use Rattle.forwarding.specs.Fabric.{Fabric}
use Rattle.forwarding.specs.Run.{Packet, left, dropped, missed, travelling, tied, fate_of, port_of, header_of, taken_by, entries_taken}
use Rattle.forwarding.specs.Choices.{EndsIn}
use Rattle.forwarding.proofs.Lists.{All, all_reverse}
use Rattle.forwarding.proofs.Runs.{miss_fate_low, run_ends, hops_within}
use Rattle.forwarding.proofs.RunFits.{run_fits}
use Rattle.forwarding.proofs.Choices.{run_can_end, run_only_end, run_tied}
use Rattle.model.specs.Model.{fabric_in}
use Rattle.model.proofs.Soundness.{fabric_sound}
use Rattle.model.proofs.Ports.{out_port_low, link_to_low}
use Rattle.journey.specs.Journey.{packet_words}
use Rattle.calls.specs.Questions.{Query}
use Rattle.calls.specs.Run.{packet_run, run_words_asked}
use Rattle.fabric.specs.Demands.{said, entries_said, PacketSaid, RunSays}
use Rattle.fabric.proofs.Bounds.{all_below, fit_entries, edge_port_lem, entries_few}
use Rattle.fabric.proofs.AnswerSaid.{filled_by, Says, answer_says}

-- ---- a packet and its fate

module _ (f : Fabric) where
  fate_below : (s : Packet) → fate_of f s < 5
  unfolding fate_of
  fate_below (left o h r) = omega arith
  fate_below (dropped x h r) = omega arith
  fate_below (missed x h r) = omega (arith, miss_fate_low f)
  fate_below (travelling x h r) = omega arith
  fate_below (tied x h r) = omega arith

  tied_is : (s : Packet) → fate_of f s ≡ 4 → s ≡ tied (port_of s) (header_of s) (taken_by s)
  unfolding fate_of port_of header_of taken_by
  tied_is (left o h r) e = absurd (omega arith)
  tied_is (dropped x h r) e = absurd (omega arith)
  tied_is (missed x h r) e = absurd (omega (arith, miss_fate_low f))
  tied_is (travelling x h r) e = absurd (omega arith)
  tied_is (tied x h r) e = refl

  tied_short : (limit : ℕ) (s : Packet) → fate_of f s ≡ 4 → EndsIn limit s → length (taken_by s) < limit
  unfolding fate_of taken_by EndsIn
  tied_short limit (left o h r) e d = absurd (omega arith)
  tied_short limit (dropped x h r) e d = absurd (omega arith)
  tied_short limit (missed x h r) e d = absurd (omega (arith, miss_fate_low f))
  tied_short limit (travelling x h r) e d = absurd (omega arith)
  tied_short limit (tied x h r) e d = d

-- ---- the words

module _ (f : List ℕ) (s : Shape) (ok : Accepted f s) (q : Query) (edge : (fabric_in f).is_edge q.port ≡ true)
    (wv : Words (fabric_in f).words q.asked.value) (limit : q.limit ≤ 16) (area : List ℕ) where
  abbrev F : Fabric
  F = fabric_in f

  abbrev packet : Packet
  packet = packet_run F q

  abbrev ws : List ℕ
  ws = filled_by (fate_of F packet) 0 (port_of packet) (entries_taken packet) (header_of packet)

  words_are : packet_words F packet ≡ ws
  unfolding packet_words
  words_are =
      ap (λ (n : ℕ). fate_of F packet ∷ 0 ∷ port_of packet ∷ n ∷ (header_of packet ++ sixteen (entries_taken packet)))
      (sym (length-reverse (taken_by packet)))

  abbrev SaysPacket : Type 0
  SaysPacket = Says F.words (fate_of F packet) 0 (port_of packet) (entries_taken packet) (header_of packet) (answered ws area)

  says_words : SaysPacket
  says_words =
      let fits = run_fits F (fabric_sound f s ok) 4096 (out_port_low f) (link_to_low f) q.limit q.port q.asked.value
      (edge_port_lem f s ok q.port edge) wv
      in
      let low = all_below F.entries (2 ^ 32) (omega (arith, entries_few f s ok)) (entries_taken packet)
      (all_reverse _ (entries_taken packet) (subst (All _) (sym (reverse-reverse (taken_by packet))) fits.entries))
      in
      answer_says F.words (fate_of F packet) 0 (port_of packet) (entries_taken packet) (header_of packet) area
      (omega (arith, fate_below F packet))
      (omega arith)
      (omega (arith, fits.port))
      (omega (arith, hops_within F q.limit q.port q.asked.value, length-reverse (taken_by packet)))
      (fit_entries (entries_taken packet) low)
      fits.header

  says_run : SaysPacket → RunSays F q (answered ws area)
  says_run says =
      let taken-are : reverse (entries_said (answered ws area) F.words) ≡ taken_by packet =
      ap reverse says.entries ∙ reverse-reverse (taken_by packet)
      in
      let is_said : PacketSaid F (answered ws area) packet =
      record { fate = says.first; port = says.port; header = says.header; entries = says.entries }
      in
      let tie : said (answered ws area) 0 ≡ 4 → fate_of F packet ≡ 4 = λ d. sym says.first ∙ d in
      record {
        fills = says.fills;
        second = says.second;
        rest = λ k m. says.rest k (omega (arith, says.hops));
        can_end = λ n. (packet, run_can_end F q.port q.asked.value q.limit (λ d. n (says.first ∙ d)), is_said);
        only_end = λ n c e.
            subst (PacketSaid F (answered ws area))
            (run_only_end F q.port q.asked.value q.limit c (λ d. n (says.first ∙ d)) e) is_said;
        tied_there = λ d. rw (says.port, says.header, taken-are)
            (run_tied F q.port q.asked.value q.limit _ _ _ (tied_is F packet (tie d)));
        hop_left = λ d. omega (
          arith,
          says.hops,
          length-reverse (taken_by packet),
          tied_short F q.limit packet (tie d) (run_ends F q.limit q.port q.asked.value),
        );
      }

  pub run_said : RunSays F q (answered (run_words_asked F q) area)
  run_said = subst (λ (l : List ℕ). RunSays F q (answered l area)) (sym words_are) (says_run says_words)
