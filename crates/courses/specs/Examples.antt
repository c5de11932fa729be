-- X25: two actions as one, and one by one; each computed.
use Rattle.std.specs.Prelude.{List, [], ◌∷◌, ◌≡◌, refl}
use Rattle.std.proofs.Math.Option.{some, bind}
use Rattle.headers.specs.Sets.{Set, no_rewrite, intersection, undone}
use Rattle.headers.specs.Actions.{Act, unacted}
use Rattle.headers.specs.Examples.{header}
use Rattle.headers.specs.ActionExamples.{between, set_to, copying, swapping}
use Rattle.courses.specs.Courses.{coursed, gathered, uncoursed, course_of_all, acted_all, unacted_all}

-- a swap that sets nw_dst to 5, and then a copy: nw_src and nw_dst both come from the old nw_dst
abbrev path : List Act
path = swapping (set_to 5) ∷ copying (no_rewrite 4) ∷ []

-- wants of both addresses, which agree
abbrev exit : Set
exit = between 0xffff0000 0x00ffff00 0x0a0b0000 0x000b0c00

computing : Unit {0}
unfolding bind intersection undone unacted gathered uncoursed course_of_all acted_all unacted_all
computing = tt

as_one : coursed 4 (course_of_all 4 path) (header 7 9 3 4) ≡ header 9 9 3 4
unfolding computing
as_one = refl

one_by_one : acted_all 4 path (header 7 9 3 4) ≡ header 9 9 3 4
unfolding computing
one_by_one = refl

as_one_back : uncoursed 4 (course_of_all 4 path) exit
    ≡ some (between 0 0xffffff00 0 0x0a0b0c00)
unfolding computing
as_one_back = refl

one_by_one_back : unacted_all 4 path exit
    ≡ some (between 0 0xffffff00 0 0x0a0b0c00)
unfolding computing
one_by_one_back = refl
