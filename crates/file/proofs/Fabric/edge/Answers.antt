-- An accepted file has room for the edge where `place_of` says.
use Rattle.file.proofs.Accepted as accepted
use Rattle.file.proofs.Fabric.edge.Goals as goal

pub place-requires : goal.place-requires
place-requires c =
    let ok = c.args.self.now.accepted in
    rw (accepted.words_said _ _ ok) (accepted.edge_place _ _ ok _ c.requires)

pub part-requires : goal.part-requires
part-requires c =
    let ok = c.args.self.now.accepted in
    rw (c.place.ensures, c.edge_words.ensures, accepted.words_said _ _ ok) (accepted.edge_inside _ _ ok _ c.requires)

pub returns : goal.returns
returns c = rw (c.place.ensures, c.edge_words.ensures, accepted.words_said _ _ c.args.self.now.accepted) at c.part.ensures
