-- Chains grow by an entry at their front, and stay where cells outside them are stored to. Assumes nothing.
use mathlib.Core.Bool.{Bool, true, false, cond, true≢false}
use mathlib.Core.List.{List, [], ◌∷◌}
use mathlib.Core.Path.{◌≡◌, refl, sym, ap, ◌∙◌, subst}
use Prim.Native.Nat.{ℕ, zero, suc, ◌+◌, ◌-◌, ◌≤◌, ◌<◌}
use native.Mathlib.Decide.{ℕ_discrete}
use native.Mathlib.Omega.{arith}
use borrow.Author.Tests.{eq-eqb, ne_eqb, eqb-true}
use lib.Dec.{eqb}
use lib.ListN.{length, get_or, set, length-set}
use lib.Seq.{get_or-set_same, get_or-set_other}
use Rattle.headers.specs.Bits.{positions, keep_if, those}
use Rattle.headers.proofs.SetBits.{those_none}
use Rattle.index.specs.Chains.{no_entry, first_of, next_with, Chain}

-- ---- the first entry with a port

module _ (port_of : ℕ → ℕ) (n p : ℕ) where
  -- one entry back it is that entry, if it has the port, and else the one found so far
  pub next_back : (e : ℕ) → e < n → next_with port_of n p e ≡ cond (eqb (port_of e) p) e (next_with port_of n p (suc e))
  unfolding next_with first_of
  next_back e l = rw (let k : n - e ≡ suc (n - suc e) = omega arith in k)

  pub next_end : next_with port_of n p n ≡ no_entry
  unfolding next_with first_of
  next_end = rw (let k : n - n ≡ 0 = omega arith in k)

  pub record Next (j r : ℕ) : Type 0 where
    pub low : j ≤ r
    pub found : r < n → port_of r ≡ p
    pub skipped : (e : ℕ) → j ≤ e → e < r → e < n → port_of e ≡ p → ⊥
    pub none : n ≤ r → r ≡ no_entry

  -- what is found from entry j on: none between has the port
  pub next_found : n ≤ no_entry → (j : ℕ) → j ≤ n → Next j (next_with port_of n p j)
  unfolding next_with first_of
  next_found small j l = go (n - j) j (omega arith)
    where
      go : (k j : ℕ) → j + k ≡ n → Next j (first_of (λ e. eqb (port_of e) p) k j)
      go zero j z = record {
        low = omega arith;
        found = λ m. absurd (omega arith);
        skipped = λ e a b c. absurd (omega arith);
        none = λ m. refl;
      }
      go (suc k) j z = by (eqb (port_of j) p) refl (go k (suc j) (omega arith))
        where
          by : (b : Bool) → eqb (port_of j) p ≡ b → Next (suc j) (first_of (λ e. eqb (port_of e) p) k (suc j))
              → Next j (cond b j (first_of (λ e. eqb (port_of e) p) k (suc j)))
          by true d ih = record {
            low = omega arith;
            found = λ m. eqb-true _ _ d;
            skipped = λ e a b c. absurd (omega arith);
            none = λ m. absurd (omega arith);
          }
          by false d ih = record {
            low = omega (arith, ih.low);
            found = ih.found;
            skipped = λ e a b c q. at e a b c q (ℕ_discrete e j);
            none = ih.none;
          }
            where
              at : (e : ℕ) → j ≤ e → e < first_of (λ e. eqb (port_of e) p) k (suc j) → e < n → port_of e ≡ p
                  → Dec (e ≡ j) → ⊥
              at e a b c q (yes z) = true≢false (sym (eq-eqb (port_of j) p (ap port_of (sym z) ∙ q)) ∙ d)
              at e a b c q (no z) = ih.skipped e (omega arith) b c q

-- ---- an entry is put at the front of its chain

module _ (n : ℕ) (port_of : ℕ → ℕ) (first next : ℕ) (apart : first + 4096 ≤ next) (cells : List ℕ) where
  pub chain_none : ((p : ℕ) → p < 4096 → get_or cells (first + p) 0 ≡ no_entry) → Chain n port_of first next n cells
  chain_none h = record {
    heads = λ p l. h p l ∙ sym (next_end port_of n p);
    links = λ e a b. absurd (omega arith);
  }

  pub chain_more : (e : ℕ) → e < n → port_of e < 4096 → next + n ≤ length cells → Chain n port_of first next (suc e) cells
      → Chain n port_of first next e (set (set cells (next + e) (get_or cells (first + port_of e) 0)) (first + port_of e) e)
  chain_more e l m room c = record { heads = heads; links = links }
    where
      linked : List ℕ
      linked = set cells (next + e) (get_or cells (first + port_of e) 0)

      here : first + port_of e < length linked
      here = rw (length-set cells (next + e) (get_or cells (first + port_of e) 0)) (omega arith)

      heads : (p : ℕ) → p < 4096 → get_or (set linked (first + port_of e) e) (first + p) 0 ≡ next_with port_of n p e
      heads p k = go (ℕ_discrete (port_of e) p)
        where
          go : Dec (port_of e ≡ p) → get_or (set linked (first + port_of e) e) (first + p) 0 ≡ next_with port_of n p e
          go (yes d) =
              subst (λ (q : ℕ). get_or (set linked (first + port_of e) e) (first + q) 0 ≡ e) d
              (get_or-set_same linked (first + port_of e) e 0 here)
              ∙ sym (next_back port_of n p e l ∙ ap (λ (b : Bool). cond b e (next_with port_of n p (suc e))) (eq-eqb (port_of e) p d))
          go (no d) =
              get_or-set_other linked (first + port_of e) (first + p) e 0 (λ z. d (omega arith))
              ∙ get_or-set_other cells (next + e) (first + p) _ 0 (λ z. omega arith)
              ∙ c.heads p k
              ∙ sym (next_back port_of n p e l ∙ ap (λ (b : Bool). cond b e (next_with port_of n p (suc e))) (ne_eqb (port_of e) p d))

      links : (b : ℕ) → e ≤ b → b < n → get_or (set linked (first + port_of e) e) (next + b) 0 ≡ next_with port_of n
          (port_of b) (suc b)
      links b k j = get_or-set_other linked (first + port_of e) (next + b) e 0 (λ z. omega arith) ∙ go (ℕ_discrete b e)
        where
          go : Dec (b ≡ e) → get_or linked (next + b) 0 ≡ next_with port_of n (port_of b) (suc b)
          go (yes d) =
              rw d (get_or-set_same cells (next + e) (get_or cells (first + port_of e) 0) 0 (omega arith) ∙ c.heads (port_of e) m)
          go (no d) = get_or-set_other cells (next + e) (next + b) _ 0 (λ z. d (omega arith)) ∙ c.links b (omega arith) j

-- a store outside a chain's cells leaves it as it is
pub chain_kept : (n : ℕ) (port_of : ℕ → ℕ) (first next from : ℕ) (cells : List ℕ) (i v : ℕ)
    → ((p : ℕ) → p < 4096 → first + p ≡ i → ⊥) → ((e : ℕ) → e < n → next + e ≡ i → ⊥)
    → Chain n port_of first next from cells → Chain n port_of first next from (set cells i v)
chain_kept n port_of first next from cells i v a b c = record {
  heads = λ p l. get_or-set_other cells i (first + p) v 0 (a p l) ∙ c.heads p l;
  links = λ e l m. get_or-set_other cells i (next + e) v 0 (b e m) ∙ c.links e l m;
}

-- ---- the entries with a port, in file order, along the chain

module _ (port_of : ℕ → ℕ) (n p : ℕ) (small : n ≤ no_entry) where
  -- those from entry j on
  abbrev pub with_port : ℕ → List ℕ
  with_port j = those (λ e. eqb (port_of e) p) (positions (n - j) j)

  -- along the chain, or to its end
  pub with_port_next : (j : ℕ) → j ≤ n → next_with port_of n p j < n
      → with_port j ≡ next_with port_of n p j ∷ with_port (suc (next_with port_of n p j))
  unfolding next_with first_of those positions
  with_port_next j l = go (n - j) j (omega arith)
    where
      go : (k j : ℕ) → j + k ≡ n → first_of (λ e. eqb (port_of e) p) k j < n
          → those (λ e. eqb (port_of e) p) (positions k j)
          ≡ first_of (λ e. eqb (port_of e) p) k j ∷ with_port (suc (first_of (λ e. eqb (port_of e) p) k j))
      go zero j z m = absurd (omega arith)
      go (suc k) j z m = by (eqb (port_of j) p) m (go k (suc j) (omega arith))
        where
          by : (b : Bool) → cond b j (first_of (λ e. eqb (port_of e) p) k (suc j)) < n
              → (first_of (λ e. eqb (port_of e) p) k (suc j) < n
              → those (λ e. eqb (port_of e) p) (positions k (suc j))
              ≡ first_of (λ e. eqb (port_of e) p) k (suc j) ∷ with_port (suc (first_of (λ e. eqb (port_of e) p) k (suc j))))
              → keep_if b j (those (λ e. eqb (port_of e) p) (positions k (suc j)))
              ≡ cond b j (first_of (λ e. eqb (port_of e) p) k (suc j))
              ∷ with_port (suc (cond b j (first_of (λ e. eqb (port_of e) p) k (suc j))))
          by true m ih = rw (let d : n - suc j ≡ k = omega arith in d)
          by false m ih = ih m

  pub with_port_end : (j : ℕ) → j ≤ n → n ≤ next_with port_of n p j → with_port j ≡ []
  with_port_end j l m = those_none _ (n - j) j λ e a b. ne_eqb (port_of e) p (λ q.
      let f = next_found port_of n p small j l in
      f.skipped e a (omega (arith, f.none m)) (omega arith) q)
