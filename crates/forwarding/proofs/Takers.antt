-- Beating and taking, and the entries that may take a header.
use mathlib.Core.Bool.{true, not, ◌&&◌, false≢true}
use mathlib.Core.Path.{◌≡◌, sym, ap, ap₂, ◌∙◌}
use Prim.Native.Nat.{ℕ, ◌<◌}
use native.Mathlib.Decide.{dec_lt}
use native.Mathlib.Omega.{arith}
use borrow.Author.Tests.{eq-eqb, eqb-true, ltb-true, lt-ltb}
use lib.Dec.{eqb, ltb}
use Rattle.headers.specs.Sets.{Header}
use Rattle.headers.proofs.Booleans.{and_fst, and_snd}
use Rattle.headers.proofs.Positions.{every_at}
use Rattle.forwarding.specs.Fabric.{Fabric, in_port_of, priority_of, holds, beats}
use Rattle.forwarding.specs.Run.{unbeaten, takes}

-- ---- beating

module _ (f : Fabric) (a b : ℕ) where
  pub higher_beats : in_port_of f a ≡ in_port_of f b → priority_of f b < priority_of f a → beats f a b ≡ true
  unfolding beats
  higher_beats p l = ap₂ ◌&&◌ (eq-eqb _ _ p) (lt-ltb (priority_of f b) (priority_of f a) l)

  pub record Beats : Type 0 where
    pub port : in_port_of f a ≡ in_port_of f b
    pub high : priority_of f b < priority_of f a

  pub beats_means : beats f a b ≡ true → Beats
  unfolding beats
  beats_means d = record { port = eqb-true _ _ (and_fst _ _ d); high = ltb-true _ _ (and_snd (eqb (in_port_of f a) (in_port_of f b)) _ d) }

-- ---- taking

module _ (f : Fabric) (e x : ℕ) (h : Header) where
  -- the parts of `takes`
  pub record Takes : Type 0 where
    pub number : e < f.entries
    pub port : x ≡ in_port_of f e
    pub match : holds f e h ≡ true
    pub best : unbeaten f e h ≡ true

  pub takes_means : takes f e x h ≡ true → Takes
  unfolding takes
  takes_means d =
      let in_port_lem = and_snd (ltb e f.entries) _ d in
      let wins = and_snd (eqb x (in_port_of f e)) _ in_port_lem in
      record {
        number = ltb-true _ _ (and_fst _ _ d);
        port = eqb-true _ _ (and_fst _ _ in_port_lem);
        match = and_fst _ _ wins;
        best = and_snd (holds f e h) _ wins;
      }

  pub takes_of : Takes → takes f e x h ≡ true
  unfolding takes
  takes_of t = rw (lt-ltb e f.entries t.number, eq-eqb x (in_port_of f e) t.port, t.match) t.best

-- W2: entries that may take one header are of one priority
module _ (f : Fabric) (x : ℕ) (h : Header) where
  -- none of them is below another
  not_below : (e d : ℕ) → takes f e x h ≡ true → takes f d x h ≡ true → ¬ (priority_of f e < priority_of f d)
  unfolding unbeaten
  not_below e d t u l =
      let a = takes_means f e x h t in
      let b = takes_means f d x h u in
      let above = higher_beats f d e (sym b.port ∙ a.port) l in
      false≢true (sym (ap not (ap₂ ◌&&◌ above b.match)) ∙ every_at f.entries _ a.best d b.number)

  pub takers_equal : (e d : ℕ) → takes f e x h ≡ true → takes f d x h ≡ true → priority_of f e ≡ priority_of f d
  takers_equal e d t u = go (dec_lt (priority_of f e) (priority_of f d)) (dec_lt (priority_of f d) (priority_of f e))
    where
      go : Dec (priority_of f e < priority_of f d) → Dec (priority_of f d < priority_of f e) → priority_of f e ≡ priority_of f d
      go (yes l) c = absurd (not_below e d t u l)
      go (no l) (yes m) = absurd (not_below d e u t m)
      go (no l) (no m) = omega arith
