-- The numbers of the transfers (F15) and the transfers with these numbers: each is the other's way back.
use mathlib.Core.Path.{◌≡◌, refl}
use Prim.Native.Nat.{ℕ, zero, suc, ◌≤◌}
use native.Mathlib.Omega.{arith}
use Rattle.headers.specs.declared.Transfer.{Transfer}
use Rattle.headers.specs.declared.Transfer.TheVariants.{Keep, Copy, Swap}
use Rattle.layout.specs.Records.{number_of, transfer_at}

pub transfer_numbered : (t : Transfer) → transfer_at (number_of t) ≡ t
transfer_numbered Keep = refl
transfer_numbered Copy = refl
transfer_numbered Swap = refl

-- up to 2, and no further, a number is some transfer's
pub number_up_to_2 : (t : Transfer) → number_of t ≤ 2
number_up_to_2 Keep = omega arith
number_up_to_2 Copy = omega arith
number_up_to_2 Swap = omega arith

pub number_kept : (k : ℕ) → k ≤ 2 → number_of (transfer_at k) ≡ k
number_kept zero l = refl
number_kept (suc zero) l = refl
number_kept (suc (suc zero)) l = refl
number_kept (suc (suc (suc k))) l = absurd (omega arith)

-- what the code reads where a number is neither 0 nor 1
pub else_swap : (k : ℕ) → (k ≡ 0 → ⊥) → (k ≡ 1 → ⊥) → Swap ≡ transfer_at k
else_swap zero a b = absurd (a refl)
else_swap (suc zero) a b = absurd (b refl)
else_swap (suc (suc k)) a b = refl
