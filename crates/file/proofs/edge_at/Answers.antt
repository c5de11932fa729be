-- An accepted file has room for the edge where `place_of` says, by the width that its start says.
use native.Mathlib.Omega.{arith}
use Rattle.file.proofs.Accepted as accepted
use Rattle.file.proofs.edge_at.Goals as goal

pub version-version-requires : goal.version-version-requires
version-version-requires c = omega (arith, accepted.edge_inside _ _ c.requires.is_accepted _ c.requires.below)

pub place-requires : goal.place-requires
place-requires c = rw c.version-version.ensures (accepted.edge_place _ _ c.requires.is_accepted _ c.requires.below)

pub part-requires : goal.part-requires
part-requires c =
    rw (c.place.ensures, c.edge_words.ensures, c.version-version.ensures)
    (accepted.edge_inside _ _ c.requires.is_accepted _ c.requires.below)
