-- No entry takes a header at an in-port exactly if no match of an entry there holds it.
use mathlib.Core.Bool.{Bool, true, false, not, ◌&&◌, true≢false}
use mathlib.Core.List.{List, [], ◌∷◌}
use mathlib.Core.Path.{◌≡◌, refl, sym, ap, ap₂, ◌∙◌}
use Prim.Native.Nat.{ℕ, ◌+◌, ◌<◌}
use native.Mathlib.Omega.{arith}
use borrow.Author.Tests.{eq-eqb, eqb-true}
use lib.Dec.{eqb}
use Rattle.headers.specs.Bits.{every}
use Rattle.headers.specs.Sets.{Header}
use Rattle.headers.proofs.Booleans.{and_fst, and_snd}
use Rattle.headers.proofs.Positions.{every_at, every_of, every_same}
use Rattle.headers.proofs.SetBits.{first_of_lem}
use Rattle.forwarding.specs.Fabric.{Fabric, in_port_of, holds}
use Rattle.forwarding.specs.Run.{takers}
use Rattle.forwarding.specs.Trace.{entries_in}
use Rattle.forwarding.proofs.Lists.{none_of, none_of_those}
use Rattle.forwarding.proofs.Takers.{takes_means}
use Rattle.forwarding.proofs.Best.{some_takes}

module _ (f : Fabric) (x : ℕ) (h : Header) where
  -- no match there holds it
  abbrev pub none_holds : Bool
  none_holds = none_of (λ e. holds f e h) (entries_in f x)

  none_means : none_holds ≡ every f.entries (λ e. not (eqb (in_port_of f e) x && holds f e h))
  none_means =
      none_of_those (λ e. eqb (in_port_of f e) x) (λ e. holds f e h) f.entries 0
      ∙ every_same f.entries _ _
      (λ i l. ap (λ (e : ℕ). not (eqb (in_port_of f e) x && holds f e h)) (let z : 0 + i ≡ i = omega arith in z))

  pub none_held : none_holds ≡ true → takers f x h ≡ []
  unfolding takers
  none_held d = go (takers f x h) refl
    where
      go : (l : List ℕ) → takers f x h ≡ l → l ≡ []
      go [] q = refl
      go (e ∷ l) q =
          let t = takes_means f e x h (first_of_lem _ f.entries 0 e l q).passes in
          absurd (true≢false (sym (every_at f.entries _ (sym none_means ∙ d) e t.number)
          ∙ ap not (ap₂ ◌&&◌ (eq-eqb (in_port_of f e) x (sym t.port)) t.match)))

  pub none_taken : takers f x h ≡ [] → none_holds ≡ true
  none_taken d = none_means ∙ every_of f.entries _ λ e l. go e l (eqb (in_port_of f e) x && holds f e h) refl
    where
      go : (e : ℕ) → e < f.entries → (c : Bool) → (eqb (in_port_of f e) x && holds f e h) ≡ c → not c ≡ true
      go e l false q = refl
      go e l true q =
          let port = eq-eqb x (in_port_of f e) (sym (eqb-true _ _ (and_fst _ _ q))) in
          absurd (some_takes f x h e l (ap₂ ◌&&◌ port (and_snd (eqb (in_port_of f e) x) _ q)) d)
