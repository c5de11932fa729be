-- Where the published method misleads: forwarding a back-traced set need not give the whole exit set.
use mathlib.Core.Bool.{false}
use mathlib.Core.Option.{bind}
use mathlib.Core.Path.{◌≡◌, refl}
use native.Mathlib.Omega.{arith}
use Rattle.headers.specs.Bits.{Words}
use Rattle.headers.specs.Sets.{Header, contains, undone}
use Rattle.headers.specs.Actions.{acted, unacted}
use Rattle.headers.specs.Examples.{tp_dst, set_tp_dst}
use Rattle.headers.proofs.Positions.{literal_words}
use Rattle.headers.proofs.Acting.{unacted_empty}

-- no header is forwarded to tp_dst 6 by an entry that rewrites tp_dst to 5, though all headers are traced back from the all-wild exit set
pub never_forwarded : (h : Header) → Words 4 h → contains 4 (tp_dst 6) (acted 4 (set_tp_dst 5) h) ≡ false
unfolding bind undone unacted
never_forwarded = (unacted_empty 4 (omega arith) (set_tp_dst 5) (tp_dst 6) (literal_words 4 _ refl refl)
    (record { care = literal_words 4 _ refl refl; value = literal_words 4 _ refl refl; is_tidy = refl })).0 refl
