-- One hop of a packet, as the code carries it. Assumes nothing.
use mathlib.Core.List.{List, [], ◌∷◌, ◌++◌, reverse, reverse-cons}
use mathlib.Core.Path.{◌≡◌, refl, sym, ap, ap₂, ◌∙◌, subst}
use Prim.Native.Nat.{ℕ, zero, suc, ◌+◌, ◌≤◌, ◌<◌}
use native.Mathlib.Numerals.{add-one}
use native.Mathlib.Omega.{arith}
use lib.ListN.{length, set, take, length-reverse, length-append}
use lib.Seq.{take_at}
use Rattle.headers.specs.Bits.{words}
use Rattle.headers.specs.Sets.{Header}
use Rattle.answer.specs.Answer.{answer_words, sixteen}
use Rattle.wide.specs.Forms.{words_of}
use Rattle.wide.specs.declared.WideHeader.{WideHeader}
use Rattle.answer.proofs.Sixteen.{sixteen_more, sixteen_long}
use Rattle.forwarding.specs.Fabric.{Fabric, out_port_of, applied}
use Rattle.forwarding.specs.Run.{Packet, left, dropped, missed, travelling, tied, takers, sent_out, forwarded, hop, run}
use Rattle.forwarding.specs.Run.{miss_fate, fate_of, port_of, header_of, taken_by, entries_taken, hops_made}
use Rattle.forwarding.specs.Choices.{Several}
use Rattle.forwarding.specs.Wider.{wider_packet}
use Rattle.forwarding.proofs.WiderRuns.{port_wider, header_wider, taken_by_wider}
use Rattle.forwarding.proofs.Runs.{miss_fate_low, hops_within}
use Rattle.journey.specs.Journey.{packet_words, fate_number, IsJourney, journey_words, Hopped}
use Rattle.journey.specs.declared.Fate.{Fate}
use Rattle.journey.specs.declared.Fate.TheVariants.{Left, Dropped, Lost, Travelling, Tied}
use Rattle.journey.specs.declared.Journey.{Journey}

-- a fate with this number is of a packet on its way
pub fate_travelling : (f : Fate) → fate_number f ≡ 3 → f ≡ Travelling
fate_travelling Left e = absurd (omega arith)
fate_travelling Dropped e = absurd (omega arith)
fate_travelling Lost e = absurd (omega arith)
fate_travelling Travelling e = refl
fate_travelling Tied e = absurd (omega arith)

-- the packet that j is, still travelling
record Travels (p : Packet) (j : Journey) : Type 0 where
  taken : List ℕ
  is : p ≡ travelling j.port (words_of j.header) taken
  hops : length taken ≡ j.hops
  entries : sixteen (reverse taken) ≡ j.entries

travels : (F : Fabric) (p : Packet) (j : Journey) → IsJourney F p j → fate_number j.fate ≡ 3 → Travels p j
unfolding fate_of port_of header_of taken_by
travels F (travelling x h r) j e three = record {
  taken = r;
  is = ap₂ (λ (y : ℕ) (g : Header). travelling y g r) (sym e.port) (sym e.header);
  hops = sym e.hops;
  entries = sym e.entries;
}
travels F (left o h r) j e three = absurd (let z : 0 ≡ 3 = sym e.fate ∙ three in omega arith)
travels F (dropped x h r) j e three = absurd (let z : 1 ≡ 3 = sym e.fate ∙ three in omega arith)
travels F (missed x h r) j e three =
    absurd (let z : miss_fate F ≡ 3 = sym e.fate ∙ three in omega (arith, miss_fate_low F))
travels F (tied x h r) j e three = absurd (let z : 4 ≡ 3 = sym e.fate ∙ three in omega arith)

module _ (F : Fabric) (j : Journey) where
  -- a packet at its end stays as it is
  pub hopped_ended : (fate_number j.fate ≡ 3 → ⊥) → Hopped F j j
  unfolding fate_of hop
  hopped_ended ended = record { follows = go }
    where
      go : (p : Packet) → hops_made p < 16 → IsJourney F p j → IsJourney F (hop F p) j
      go (travelling x h r) l e = absurd (ended e.fate)
      go (left o h r) l e = e
      go (dropped x h r) l e = e
      go (missed x h r) l e = e
      go (tied x h r) l e = e

  module _ (three : fate_number j.fate ≡ 3) where
    -- what becomes of a travelling packet is what `forwarded` makes of its takers
    by_takers : (o : List ℕ) (r : Journey) → takers F j.port (words_of j.header) ≡ o
        → ((q : List ℕ) → length q < 16 → length q ≡ j.hops → sixteen (reverse q) ≡ j.entries
        → IsJourney F (forwarded F j.port (words_of j.header) q o) r)
        → Hopped F j r
    unfolding hop taken_by
    by_takers o r t then = record {
      follows = λ p l e.
          let v = travels F p j e three in
          subst (λ (k : Packet). IsJourney F (hop F k) r) (sym v.is)
          (subst (λ (x : List ℕ). IsJourney F (forwarded F j.port (words_of j.header) v.taken x) r) (sym t)
          (then v.taken (subst (λ (k : Packet). hops_made k < 16) v.is l) v.hops v.entries));
    }

    -- W7
    pub hopped_missed : (fate : Fate) → fate_number fate ≡ miss_fate F → takers F j.port (words_of j.header) ≡ []
        → Hopped F j (record { fate = fate; port = j.port; hops = j.hops; header = j.header; entries = j.entries })
    unfolding fate_of port_of header_of taken_by
    hopped_missed fate is t = by_takers [] _ t λ q l n e.
        record { fate = is; port = refl; hops = sym n; header = refl; entries = sym e }

    -- W16
    pub hopped_tied : Several (takers F j.port (words_of j.header))
        → Hopped F j (record { fate = Tied; port = j.port; hops = j.hops; header = j.header; entries = j.entries })
    unfolding fate_of port_of header_of taken_by
    hopped_tied s = by_takers (s.first ∷ s.second ∷ s.rest) _ s.is λ q l n e.
        record { fate = refl; port = refl; hops = sym n; header = refl; entries = sym e }

    -- the one taker sends the packet out: where it then is, and its fate there
    module _ (e : ℕ) (t : takers F j.port (words_of j.header) ≡ e ∷ []) (h : WideHeader)
        (is : applied F e (words_of j.header) ≡ words_of h) where
      abbrev pub sent : Fate → ℕ → Journey
      sent f x = record { fate = f; port = x; hops = j.hops + 1; header = h; entries = set j.entries j.hops e }

      -- the hops and the entries with one more
      more_hops : (q : List ℕ) → length q ≡ j.hops → length (e ∷ q) ≡ j.hops + 1
      more_hops q n = ap suc n ∙ sym (add-one j.hops)

      more_entries : (q : List ℕ) → length q < 16 → length q ≡ j.hops → sixteen (reverse q) ≡ j.entries
          → sixteen (reverse (e ∷ q)) ≡ set j.entries j.hops e
      more_entries q l n k =
          ap sixteen (reverse-cons e q)
          ∙ sym (sixteen_more (reverse q) e (rw (length-reverse q) l))
          ∙ ap₂ (λ (x : List ℕ) (m : ℕ). set x m e) k (length-reverse q ∙ n)

      -- out at x, from where a link goes to y
      by_out : (x y : ℕ) (r : Journey) → out_port_of F e ≡ x → F.link_to x ≡ y
          → ((q : List ℕ) → length q < 16 → length q ≡ j.hops → sixteen (reverse q) ≡ j.entries
          → IsJourney F (sent_out F j.port x y (applied F e (words_of j.header)) (e ∷ q)) r)
          → Hopped F j r
      by_out x y r o z then = by_takers (e ∷ []) r t λ q l n k.
          subst (λ (x : ℕ). IsJourney F (sent_out F j.port x (F.link_to x) (applied F e (words_of j.header)) (e ∷ q)) r) (sym o)
          (subst (λ (y : ℕ). IsJourney F (sent_out F j.port x y (applied F e (words_of j.header)) (e ∷ q)) r) (sym z) (then q l n k))

      -- "Out-port 0: dropped."
      pub hopped_dropped : out_port_of F e ≡ 0 → Hopped F j (sent Dropped j.port)
      unfolding fate_of port_of header_of taken_by
      hopped_dropped o = by_out 0 (F.link_to 0) (sent Dropped j.port) o refl λ q l n k.
          record { fate = refl; port = refl; hops = sym (more_hops q n); header = sym is; entries = sym (more_entries q l n k) }

      -- "Any other: it leaves there."
      pub hopped_left : (x : ℕ) → out_port_of F e ≡ x → (x ≡ 0 → ⊥) → F.link_to x ≡ 0 → Hopped F j (sent Left x)
      unfolding fate_of port_of header_of taken_by
      hopped_left zero o d z = absurd (d refl)
      hopped_left (suc x) o d z = by_out (suc x) 0 (sent Left (suc x)) o z λ q l n k.
          record { fate = refl; port = refl; hops = sym (more_hops q n); header = sym is; entries = sym (more_entries q l n k) }

      -- "An out-port that is some link's from-port: the packet goes on at the to-port."
      pub hopped_on : (x y : ℕ) → out_port_of F e ≡ x → (x ≡ 0 → ⊥) → F.link_to x ≡ y → (y ≡ 0 → ⊥)
          → Hopped F j (sent j.fate y)
      unfolding fate_of port_of header_of taken_by
      hopped_on zero y o d z u = absurd (d refl)
      hopped_on (suc x) zero o d z u = absurd (u refl)
      hopped_on (suc x) (suc y) o d z u = by_out (suc x) (suc y) (sent j.fate (suc y)) o z λ q l n k.
          record { fate = three; port = refl; hops = sym (more_hops q n); header = sym is; entries = sym (more_entries q l n k) }

-- ---- a run, hop by hop

pub one_more_hop : (F : Fabric) (k p : ℕ) (h : Header) (j : Journey) → IsJourney F (hop F (run F k p h)) j
    → IsJourney F (run F (k + 1) p h) j
unfolding run
one_more_hop F k p h j e = subst (λ (m : ℕ). IsJourney F (run F m p h) j) (sym (add-one k)) e

-- after fewer than 16 hops there is a place for one more entry
pub few_hops : (F : Fabric) (k p : ℕ) (h : Header) (j : Journey) → IsJourney F (run F k p h) j → k < 16 → j.hops < 16
few_hops F k p h j e l = omega (arith, e.hops, hops_within F k p h)

pub few_hops_then : (F : Fabric) (k p : ℕ) (h : Header) (j : Journey) → IsJourney F (run F k p h) j → k ≤ 16 → j.hops ≤ 16
few_hops_then F k p h j e l = omega (arith, e.hops, hops_within F k p h)

-- the words of a packet are those of its journey, if the fabric cares for the first n words of its header alone
pub words_same : (F G : Fabric) (n k : ℕ) (p : Packet) (j : Journey) → IsJourney G (wider_packet k p) j → length (header_of p) ≡ n
    → fate_of G (wider_packet k p) ≡ fate_of F p → journey_words n j ≡ packet_words F p
unfolding packet_words
words_same F G n k p j e long same = λ i.
    (e.fate ∙ same) i ∷ 0 ∷ (e.port ∙ port_wider k p) i ∷ (e.hops ∙ ap length (taken_by_wider k p)) i
    ∷ ((ap (take n) (e.header ∙ header_wider k p) ∙ take_at (header_of p) (words k (λ w. 0)) n long) i
    ++ (e.entries ∙ ap (λ (r : List ℕ). sixteen (reverse r)) (taken_by_wider k p)) i)

-- a packet's answer has four words, a header and sixteen
pub words_long : (F : Fabric) (p : Packet) (n : ℕ) → length (header_of p) ≡ n → length (packet_words F p) ≡ answer_words n
unfolding packet_words
words_long F p n long =
    omega (arith, length-append (header_of p) (sixteen (entries_taken p)), sixteen_long (entries_taken p))
