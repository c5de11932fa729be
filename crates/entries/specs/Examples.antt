-- Which transfers leave the addresses where they are.
use Rattle.std.specs.Prelude.{true, false, ◌≡◌, refl}
use Rattle.headers.specs.declared.Transfer.TheVariants.{Keep, Copy, Swap}
use Rattle.entries.specs.Entries.{keeps}

keep_keeps : keeps Keep ≡ true
keep_keeps = refl

copy_moves : keeps Copy ≡ false
copy_moves = refl

swap_moves : keeps Swap ≡ false
swap_moves = refl
