-- What a call returns and leaves (A3 to A7), computed: place and number, the lowest byte first, and the bytes past the words. Assumes
-- nothing.
use Rattle.std.specs.Prelude.{[], ◌∷◌, ◌≡◌, refl}
use Rattle.answer.specs.Answer.{bytes_of, outcome, refused, answered, answer_words}

-- question 3 at place 19: 19 × 256 + 3, and the area as it was
a_no : refused 3 19 (7 ∷ 8 ∷ 9 ∷ []) ≡ outcome 4867 (7 ∷ 8 ∷ 9 ∷ [])
unfolding refused
a_no = refl

-- two words into an area of eleven bytes: 2 × 256, and its last three bytes as they were
two_words : answered (0x12345678 ∷ 0x9abcdef0 ∷ []) (1 ∷ 2 ∷ 3 ∷ 4 ∷ 5 ∷ 6 ∷ 7 ∷ 8 ∷ 9 ∷ 10 ∷ 11 ∷ [])
    ≡ outcome 512 (0x78 ∷ 0x56 ∷ 0x34 ∷ 0x12 ∷ 0xf0 ∷ 0xde ∷ 0xbc ∷ 0x9a ∷ 9 ∷ 10 ∷ 11 ∷ [])
unfolding bytes_of answered
two_words = refl

-- the words of a verdict or a run in version 1 and 2: 96 and 112 bytes
lengths : (answer_words 4 ∷ answer_words 8 ∷ []) ≡ 24 ∷ 28 ∷ []
lengths = refl
