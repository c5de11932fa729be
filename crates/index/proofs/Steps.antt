-- The entries of an index on its way: each, at the front of its two chains and with its priority stored, leaves it one step further.
-- Assumes nothing.
use mathlib.Core.List.{List}
use mathlib.Core.Path.{◌≡◌, ◌∙◌, subst}
use Prim.Native.Nat.{ℕ, suc, ◌+◌, ◌≤◌, ◌<◌}
use native.Mathlib.Decide.{ℕ_discrete}
use native.Mathlib.Omega.{arith}
use lib.ListN.{get_or, set, length-set}
use lib.Seq.{get_or-set_same, get_or-set_other}
use Rattle.layout.specs.Records.{width_in, entry_priority, entry_in, entry_out}
use Rattle.layout.specs.Shape.{Shape}
use Rattle.file.specs.Accepted.{Accepted}
use Rattle.file.proofs.Accepted.{few_entries}
use Rattle.forwarding.specs.Fabric.{in_port_of, out_port_of, priority_of}
use Rattle.model.specs.Model.{fabric_in}
use Rattle.model.proofs.EntryRead.{EntryRead, entries_are}
use Rattle.index.specs.Chains.{no_entry, Chain}
use Rattle.index.specs.Index.{Index, place_at, first_out, first_in, next_out, next_in, ranks}
use Rattle.index.specs.Building.{Placed, Partly, pushed}
use Rattle.index.proofs.Chained.{chain_none, chain_more, chain_kept}

-- an entry at the front of a chain leaves every cell but the two that are stored to
push_other : (cells : List ℕ) (first next e i : ℕ) → (i ≡ first → ⊥) → (i ≡ next → ⊥)
    → get_or (pushed cells first next e) i 0 ≡ get_or cells i 0
push_other cells first next e i a b =
    get_or-set_other (set cells next (get_or cells first 0)) first i e 0 a ∙ get_or-set_other cells next i (get_or cells first 0) 0 b

-- and another chain, where neither is a cell of it
push_kept : (n : ℕ) (port_of : ℕ → ℕ) (first next from : ℕ) (cells : List ℕ) (i j e : ℕ)
    → ((p : ℕ) → p < 4096 → (first + p ≡ i → ⊥) × (first + p ≡ j → ⊥))
    → ((b : ℕ) → b < n → (next + b ≡ i → ⊥) × (next + b ≡ j → ⊥))
    → Chain n port_of first next from cells → Chain n port_of first next from (pushed cells i j e)
push_kept n port_of first next from cells i j e a b c =
    chain_kept n port_of first next from (set cells j (get_or cells i 0)) i e (λ p l. (a p l).0) (λ k l. (b k l).0)
    (chain_kept n port_of first next from cells j (get_or cells i 0) (λ p l. (a p l).1) (λ k l. (b k l).1) c)

module _ (f : List ℕ) (s : Shape) (ok : Accepted f s) (cells : List ℕ) where
  -- once the places are stored, no entry is chained
  pub partly_none : Placed (place_at f) 4096 cells → Partly f s.entries cells
  partly_none p = subst (λ (n : ℕ). Partly f n cells) (entries_are f s ok) record {
    long = p.long;
    places = p.places;
    by_out_port = chain_none _ _ first_out next_out (omega arith) cells (λ x l. p.unused (first_out + x) (omega arith) (omega arith));
    by_in_port = chain_none _ _ first_in next_in (omega arith) cells (λ x l. p.unused (first_in + x) (omega arith) (omega arith));
    priorities = λ e a b. absurd (omega arith);
  }

  -- entry e, with the bytes x, goes to the front of the chains of its ports, which leaves `one` and then `two`, and its priority is stored
  pub partly_more : (e : ℕ) (x : List ℕ) → EntryRead (width_in f) (fabric_in f) e x
      → (out into rank : ℕ) → out ≡ entry_out x → into ≡ entry_in x → rank ≡ entry_priority x
      → (one two : List ℕ) → one ≡ pushed cells (first_out + out) (next_out + e) e
      → two ≡ pushed one (first_in + into) (next_in + e) e
      → Partly f (suc e) cells → Partly f e (set two (ranks + e) rank)
  partly_more e x read out into rank o i r one two a b p =
      let most = few in
      rw (b, a, o ∙ read.out_port_lem, i ∙ read.in_port_lem, r ∙ read.priority) record {
        long = simp length-set p.long;
        places = λ y l.
            get_or-set_other chained (ranks + e) y _ 0 (λ z. omega arith)
            ∙ unchained y (λ a b. omega arith)
            ∙ p.places y l;
        by_out_port = chain_kept _ _ first_out next_out e chained _ _ (λ y l z. omega arith) (λ y l z. omega arith)
            (push_kept _ _ first_out next_out e by_out _ _ e (λ y l. omega arith) (λ y l. omega arith)
            (chain_more _ _ first_out next_out (omega arith) cells e read.number (omega arith) (omega arith) p.by_out_port));
        by_in_port = chain_kept _ _ first_in next_in e chained _ _ (λ y l z. omega arith) (λ y l z. omega arith)
            (chain_more _ _ first_in next_in (omega arith) by_out e read.number (omega arith) (simp length-set (omega arith))
            (push_kept _ _ first_in next_in (suc e) cells _ _ e (λ y l. omega arith) (λ y l. omega arith) p.by_in_port));
        priorities = λ k l m. ranked k l m (ℕ_discrete k e);
      }
    where
      few : (fabric_in f).entries ≤ no_entry
      few = omega (arith, few_entries f s ok, entries_are f s ok)

      by_out : List ℕ
      by_out = pushed cells (first_out + out_port_of (fabric_in f) e) (next_out + e) e

      chained : List ℕ
      chained = pushed by_out (first_in + in_port_of (fabric_in f) e) (next_in + e) e

      -- the chains leave what stands before and after them
      unchained : (k : ℕ) → (first_out ≤ k → k < ranks → ⊥) → get_or chained k 0 ≡ get_or cells k 0
      unchained k l =
          let most = few in
          push_other by_out _ _ e k (λ z. l (omega arith) (omega arith)) (λ z. l (omega arith) (omega arith))
          ∙ push_other cells _ _ e k (λ z. l (omega arith) (omega arith)) (λ z. l (omega arith) (omega arith))

      ranked : (k : ℕ) → e ≤ k → k < (fabric_in f).entries → Dec (k ≡ e)
          → get_or (set chained (ranks + e) (priority_of (fabric_in f) e)) (ranks + k) 0 ≡ priority_of (fabric_in f) k
      ranked k l m (yes d) =
          rw d (get_or-set_same chained (ranks + e) (priority_of (fabric_in f) e) 0 (simp length-set (omega (arith, few))))
      ranked k l m (no d) =
          get_or-set_other chained (ranks + e) (ranks + k) (priority_of (fabric_in f) e) 0 (λ z. d (omega arith))
          ∙ unchained (ranks + k) (λ a b. omega arith)
          ∙ p.priorities k (omega arith) m

-- with all entries chained the index is made
pub partly_all : (f cells : List ℕ) → Partly f 0 cells → Index f cells
partly_all f cells p = record {
  long = p.long;
  places = p.places;
  by_out_port = p.by_out_port;
  by_in_port = p.by_in_port;
  priorities = λ e l. p.priorities e (omega arith) l;
}
