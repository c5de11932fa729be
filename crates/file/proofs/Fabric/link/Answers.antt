-- An accepted file has room for the link where `place_of` says.
use Rattle.file.proofs.Accepted as accepted
use Rattle.file.proofs.Fabric.link.Goals as goal

pub place-requires : goal.place-requires
place-requires c =
    let ok = c.args.self.now.accepted in
    rw (accepted.words_said _ _ ok) (accepted.link_place _ _ ok _ c.requires)

pub word-requires : goal.word-requires
word-requires c =
    let ok = c.args.self.now.accepted in
    rw (c.place.ensures, accepted.words_said _ _ ok) (accepted.link_inside _ _ ok _ c.requires)

pub returns : goal.returns
returns c = rw (c.word.ensures, c.place.ensures, accepted.words_said _ _ c.args.self.now.accepted)
