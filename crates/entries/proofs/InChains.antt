-- What a cell of the index says: the next entry with a port, or none. Assumes nothing.
use mathlib.Core.List.{List}
use mathlib.Core.Path.{◌≡◌, sym, ◌∙◌, subst}
use Prim.Native.Nat.{ℕ, suc, ◌+◌, ◌≤◌, ◌<◌}
use native.Mathlib.Decide.{dec_lt}
use native.Mathlib.Omega.{arith}
use lib.ListN.{get_or}
use Rattle.index.specs.Chains.{no_entry, Chain}
use Rattle.index.proofs.Chained.{Next, next_found}
use Rattle.entries.specs.Entries.{InChain}

module _ {port_of : ℕ → ℕ} {n first next : ℕ} {cells : List ℕ} (small : n ≤ no_entry)
    (c : Chain n port_of first next 0 cells) where
  -- the first entry with the port p
  pub chain_head : (p r : ℕ) → p < 4096 → r ≡ get_or cells (first + p) 0 → Next port_of n p 0 r
  chain_head p r l e = subst (Next port_of n p 0) (sym (e ∙ c.heads p l)) (next_found port_of n p small 0 (omega arith))

  -- the next one with the port of entry e
  pub chain_next : (e r : ℕ) → e < n → r ≡ get_or cells (next + e) 0 → Next port_of n (port_of e) (suc e) r
  chain_next e r l d =
      subst (Next port_of n (port_of e) (suc e)) (sym (d ∙ c.links e (omega arith) l)) (next_found port_of n (port_of e) small (suc e) l)

pub next_in_chain : {port_of : ℕ → ℕ} {n p j r : ℕ} → n ≤ no_entry → Next port_of n p j r → InChain port_of n p r
next_in_chain {port_of} {n} {p} {j} {r} small x = go (dec_lt r n)
  where
    go : Dec (r < n) → InChain port_of n p r
    go (yes l) = record { of_chain = record { within = omega arith; is_entry = λ h. l }; has_port = λ h. x.found l }
    go (no l) =
        let e : r ≡ no_entry = x.none (omega arith) in
        record { of_chain = record { within = omega arith; is_entry = λ h. absurd (omega arith) }; has_port = λ h. absurd (omega arith) }
