-- The structs of the code as headers and sets of eight words, and the sets that stand in the file as such (document 02, 2.6).
use Rattle.std.specs.Prelude.{Option, Some, None, List, ◌++◌, ◌≡◌, ℕ, ◌+◌, ◌-◌, ◌*◌, ◌≤◌, take}
use Rattle.std.proofs.Math.Option as maybe
use Rattle.headers.specs.Sets.{Header, Set, Rewrite, beside, padded, padded_rewrite}
use Rattle.sets.specs.Forms.{set_of}
use Rattle.layout.specs.Words.{words_in}
use Rattle.layout.specs.Records.{half, Width, set_words, set_from, rewrite_from}
use Rattle.wide.specs.declared.WideHeader.{WideHeader}
use Rattle.wide.specs.declared.WideSet.{WideSet}

-- the words of a header in version 2
abbrev pub wide_words : ℕ
wide_words = 2 * half

abbrev pub words_of : WideHeader → Header
words_of h = h.low ++ h.high

abbrev pub wide_of : WideSet → Set
wide_of s = beside (set_of s.low) (set_of s.high)

abbrev pub maybe_wide_of : Option WideSet → maybe.Option Set
maybe_wide_of None = maybe.none
maybe_wide_of (Some s) = maybe.some (wide_of s)

-- ---- in a file whose headers have w words

-- a set of w words as one of eight
abbrev pub widest : ℕ → Set → Set
widest w s = padded (wide_words - w) s

-- the first w words of a set
abbrev pub narrowed : ℕ → Set → Set
narrowed w s = record { care = take w s.care; value = take w s.value }

-- of eight words only the first w are cared for
abbrev pub Fits : ℕ → Set → Type 0
Fits w s = s ≡ widest w (narrowed w s)

-- what stands in some bytes from word k on, a set or a rewrite, as one of eight words
abbrev pub stored_at : ℕ → List ℕ → ℕ → Set
stored_at w x k = widest w (set_from w x k)

abbrev pub rewrite_stored : ℕ → List ℕ → ℕ → Rewrite
rewrite_stored w x k = padded_rewrite (wide_words - w) (rewrite_from w x k)

-- all of it is there
pub record Stored (x : List ℕ) (k w : ℕ) : Type 0 where
  pub width : Width w
  pub inside : k + set_words w ≤ words_in x
