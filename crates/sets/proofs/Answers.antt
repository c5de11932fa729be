-- The answer 'empty or a set' from the test that decides it.
use Rattle.std.proofs.Common.{Some, None, Bool, true, false, cond, ◌≡◌, refl, sym, ap, ◌∙◌}
use Rattle.std.proofs.Math.Option.{Option, some, none, bind}
use Rattle.headers.specs.Sets.{Set}
use Rattle.sets.specs.Forms.{set_of, form_of, maybe_of}
use Rattle.sets.specs.declared.HeaderSet.{HeaderSet}

pub some_set : (o : Bool) (s : Set) (r : HeaderSet) → o ≡ true → r ≡ form_of s → Some r ≡ maybe_of (cond o (some s) none)
some_set o s r e d = ap Some d ∙ ap (λ (o : Bool). maybe_of (cond o (some s) none)) (sym e)

pub empty_set : (o : Bool) (s : Set) → o ≡ false → None ≡ maybe_of (cond o (some s) none)
empty_set o s e = ap (λ (o : Bool). maybe_of (cond o (some s) none)) (sym e)

-- ---- and what is done next with the set: nothing with 'empty'

pub then_empty : (o : Option Set) (next : Set → Option Set) → None ≡ maybe_of o → None ≡ maybe_of (bind o next)
unfolding bind
then_empty none next e = refl
then_empty (some s) next e = absurd cc

pub then_set : (o : Option Set) (next : Set → Option Set) (r : HeaderSet) → Some r ≡ maybe_of o
    → maybe_of (next (set_of r)) ≡ maybe_of (bind o next)
unfolding bind
then_set none next r e = absurd cc
then_set (some s) next r e =
    let d : r ≡ form_of s = cc in
    ap (λ (r : HeaderSet). maybe_of (next (set_of r))) d

-- ---- what an answer says of the option that it is made of

pub maybe_none : (o : Option Set) → None ≡ maybe_of o → o ≡ none
maybe_none none e = refl
maybe_none (some s) e = absurd cc

pub maybe_some : (o : Option Set) (r : HeaderSet) → Some r ≡ maybe_of o → o ≡ some (set_of r)
maybe_some none r e = absurd cc
maybe_some (some s) r e =
    let d : r ≡ form_of s = cc in
    ap (λ (r : HeaderSet). some (set_of r)) (sym d)
