-- Answers of two halves: the test of both, and 'empty or a set' from that of each half.
use Rattle.std.proofs.Common.{Some, None, Bool, true, false, ◌&&◌, ◌≡◌, sym, ap, ap₂, ◌∙◌}
use Rattle.std.proofs.Math.Option.{Option, some, none}
use Rattle.headers.specs.Sets.{Set, beside}
use Rattle.sets.specs.Forms.{set_of, maybe_of}
use Rattle.sets.specs.declared.HeaderSet.{HeaderSet}
use Rattle.sets.proofs.Answers.{maybe_none, maybe_some}
use Rattle.wide.proofs.Halves.{paired}

-- ---- a test of both halves

module _ (a b o : Bool) (is : o ≡ (a && b)) where
  pub refused_first : a ≡ false → false ≡ o
  refused_first e = sym (is ∙ ap (λ (a : Bool). a && b) e)

  pub left_to_last : a ≡ true → b ≡ o
  left_to_last e = sym (is ∙ ap (λ (a : Bool). a && b) e)

-- ---- a set of each half

module _ (a b o : Option Set) (is : o ≡ paired a b) where
  pub first_empty : None ≡ maybe_of a → none ≡ o
  unfolding paired
  first_empty e = sym (is ∙ ap (λ (a : Option Set). paired a b) (maybe_none a e))

  module _ (r : HeaderSet) (e : Some r ≡ maybe_of a) where
    with_last : (c : Option Set) → b ≡ c → paired (some (set_of r)) c ≡ o
    with_last c d = sym (is ∙ ap₂ paired (maybe_some a r e) d)

    -- the last four words as they are
    pub last_kept : (q : Set) → b ≡ some q → some (beside (set_of r) q) ≡ o
    unfolding paired
    last_kept q = with_last (some q)

    pub last_empty : None ≡ maybe_of b → none ≡ o
    unfolding paired
    last_empty f = with_last none (maybe_none b f)

    pub both_there : (s : HeaderSet) → Some s ≡ maybe_of b → some (beside (set_of r) (set_of s)) ≡ o
    unfolding paired
    both_there s f = with_last (some (set_of s)) (maybe_some b s f)
