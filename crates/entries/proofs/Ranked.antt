-- The entries of an in-port from a priority on, along the chain of that in-port; an entry's beaters are such.
use mathlib.Core.Bool.{Bool, false, ◌&&◌, and-true}
use mathlib.Core.List.{List, [], ◌∷◌}
use mathlib.Core.Path.{◌≡◌, refl, sym, ap, ap₂, ◌∙◌}
use Prim.Native.Nat.{ℕ, suc, ◌+◌, ◌-◌, ◌≤◌, ◌<◌}
use native.Mathlib.Decide.{dec_lt}
use native.Mathlib.Omega.{arith}
use borrow.Author.Tests.{le-leb, lt-leb, eq-eqb, ne_eqb}
use lib.Dec.{eqb, leb, leb-zero}
use lib.ListN.{get_or}
use Rattle.headers.specs.Bits.{positions, those}
use Rattle.headers.proofs.SetBits.{those_same}
use Rattle.forwarding.specs.Fabric.{Fabric, in_port_of, priority_of, outranks, beats}
use Rattle.forwarding.specs.BackTrace.{beaters}
use Rattle.forwarding.specs.Trace.{entries_in}
use Rattle.model.specs.Model.{AFabric, fabric_in}
use Rattle.index.specs.Index.{Index, next_in}
use Rattle.index.proofs.Chained.{Next}
use Rattle.entries.specs.Entries.{ranked_from, chained}
use Rattle.entries.proofs.Those.{from_here, from_end, from_skip}
use Rattle.entries.proofs.Entries.{entries_few}
use Rattle.entries.proofs.InChains.{chain_next}

-- ---- an entry's beaters

-- q is the least priority that beats entry e
abbrev pub Least : Fabric → ℕ → ℕ → Type 0
Least f e q = (p : ℕ) → leb q p ≡ outranks p (priority_of f e)

pub beaters_ranked : (f : Fabric) (e q : ℕ) → Least f e q → beaters f e ≡ ranked_from f (in_port_of f e) q 0
unfolding beaters beats
beaters_ranked f e q h =
    those_same _ _ f.entries 0 (λ b l m. ap (λ (x : Bool). eqb (in_port_of f b) (in_port_of f e) && x) (sym (h (priority_of f b))))
    ∙ ap (λ (k : ℕ). those (λ b. eqb (in_port_of f b) (in_port_of f e) && leb q (priority_of f b)) (positions k 0))
    (let whole : f.entries ≡ f.entries - 0 = omega arith in whole)

-- all entries of an in-port have priority 0 or a higher one
pub all_ranked : (f : Fabric) (x : ℕ) → ranked_from f x 0 0 ≡ entries_in f x
all_ranked f x =
    ap (λ (k : ℕ). those (λ b. eqb (in_port_of f b) x && leb 0 (priority_of f b)) (positions k 0))
    (let whole : f.entries - 0 ≡ f.entries = omega arith in whole)
    ∙ those_same _ _ f.entries 0 (λ b l m. ap (λ (p : Bool). eqb (in_port_of f b) x && p) (leb-zero (priority_of f b)) ∙ and-true _)

-- ---- along the chain of an in-port

module _ (f : Fabric) (q : ℕ) where
  abbrev test : ℕ → ℕ → Bool
  test x b = eqb (in_port_of f b) x && leb q (priority_of f b)

  -- up to the next entry with the in-port there is none
  pub ranked_next : {x j r : ℕ} → Next (in_port_of f) f.entries x j r → ranked_from f x q j ≡ chained f q r
  ranked_next {x} {j} {r} n = from_skip (test x) f.entries j r n.low other ∙ go (dec_lt r f.entries)
    where
      other : (c : ℕ) → j ≤ c → c < r → c < f.entries → test x c ≡ false
      other c l m k = ap (λ (b : Bool). b && leb q (priority_of f c)) (ne_eqb _ _ (n.skipped c l m k))

      go : Dec (r < f.entries) → ranked_from f x q r ≡ chained f q r
      go (yes l) = ap (λ (y : ℕ). ranked_from f y q r) (sym (n.found l))
      go (no l) = from_end (test x) f.entries r (omega arith) ∙ sym (from_end (test (in_port_of f r)) f.entries r (omega arith))

  pub ranked_here : (b : ℕ) → b < f.entries → q ≤ priority_of f b → chained f q b ≡ b ∷ ranked_from f (in_port_of f b) q
      (suc b)
  ranked_here b l h =
      from_here (test (in_port_of f b)) f.entries b l (ap₂ ◌&&◌ (eq-eqb (in_port_of f b) _ refl) (le-leb q (priority_of f b) h))

  pub ranked_below : (b : ℕ) → priority_of f b < q → chained f q b ≡ ranked_from f (in_port_of f b) q (suc b)
  ranked_below b h = from_skip (test (in_port_of f b)) f.entries b (suc b) (omega arith) below
    where
      below : (c : ℕ) → b ≤ c → c < suc b → c < f.entries → test (in_port_of f b) c ≡ false
      below c l m k =
          let is : c ≡ b = omega arith in
          rw is (ap₂ ◌&&◌ (eq-eqb (in_port_of f b) _ refl) (lt-leb q (priority_of f b) h))

  pub ranked_end : (b : ℕ) → f.entries ≤ b → chained f q b ≡ []
  ranked_end b l = from_end (test (in_port_of f b)) f.entries b l

-- ---- what the index's chains by in-port say

module _ {f cells : List ℕ} (a : AFabric f) (i : Index f cells) where
  -- the next one with the in-port of entry b
  pub next_with_lem : (b r : ℕ) → b < (fabric_in f).entries → r ≡ get_or cells (next_in + b) 0
      → Next (in_port_of (fabric_in f)) (fabric_in f).entries (in_port_of (fabric_in f) b) (suc b) r
  next_with_lem b r l d = chain_next (entries_few a) i.by_in_port b r l d
