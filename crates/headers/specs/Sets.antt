-- Header sets and rewrites over n words: document 01, "Header sets". Assumes nothing.
use Rattle.std.specs.Prelude.{Bool, true, false, cond, List, ◌++◌, ◌≡◌, ℕ, ◌*◌, ◌<◌, eqb}
use Rattle.std.proofs.Math.Option.{Option, some, none}
use Rattle.std.specs.Int.Bits.{bit_and, bit_or}
use Rattle.headers.specs.Bits.{word, words, every, Words, complement, bit_at}

abbrev pub Header : Type 0
Header = List ℕ

-- "A header set is one record: a care mask of four words and a value of four words."
pub record Set : Type 0 where
  pub care : List ℕ
  pub value : List ℕ

-- "A rewrite is a mask and a value of four words each"
pub record Rewrite : Type 0 where
  pub mask : List ℕ
  pub value : List ℕ

-- two words are the same on the bits of a mask
abbrev pub same_on : ℕ → ℕ → ℕ → Bool
same_on m a b = eqb (bit_and a m) (bit_and b m)

-- a word with the bits of a mask taken from x
abbrev pub overwrite : ℕ → ℕ → ℕ → ℕ
overwrite m x a = bit_or (bit_and a (complement m)) (bit_and x m)

-- ---- the same word by word

abbrev pub agree : ℕ → List ℕ → List ℕ → List ℕ → Bool
agree n m a b = every n (λ w. same_on (word m w) (word a w) (word b w))

abbrev pub overwritten : ℕ → List ℕ → List ℕ → List ℕ → List ℕ
overwritten n m x l = words n (λ w. overwrite (word m w) (word x w) (word l w))

-- the bits outside a mask
abbrev pub outside : ℕ → List ℕ → List ℕ → List ℕ
outside n m l = words n (λ w. bit_and (word l w) (complement (word m w)))

abbrev pub both : ℕ → List ℕ → List ℕ → List ℕ
both n a b = words n (λ w. bit_and (word a w) (word b w))

abbrev pub either : ℕ → List ℕ → List ℕ → List ℕ
either n a b = words n (λ w. bit_or (word a w) (word b w))

-- ---- sets

-- "A header is in it if it equals the value on every care bit."
abbrev pub contains : ℕ → Set → Header → Bool
contains n s h = agree n s.care h s.value

-- "Value bits outside care are 0."
abbrev pub tidy : ℕ → Set → Bool
tidy n s = every n (λ w. eqb (bit_and (word s.value w) (complement (word s.care w))) 0)

-- a header set as document 01 has them
pub record WellFormed (n : ℕ) (s : Set) : Type 0 where
  pub care : Words n s.care
  pub value : Words n s.value
  pub is_tidy : tidy n s ≡ true

-- the mask and the value of a rewrite are words of 32 bits
pub record Written (n : ℕ) (r : Rewrite) : Type 0 where
  pub mask : Words n r.mask
  pub value : Words n r.value

-- the set that cares for no bit
abbrev pub all_wild : ℕ → Set
all_wild n = record { care = words n (λ w. 0); value = words n (λ w. 0) }

-- the rewrite that masks no bit
abbrev pub no_rewrite : ℕ → Rewrite
no_rewrite n = record { mask = words n (λ w. 0); value = words n (λ w. 0) }

-- ---- more words: document 02, 2.6

-- two sets side by side: the words of the first, then those of the second
abbrev pub beside : Set → Set → Set
beside a b = record { care = a.care ++ b.care; value = a.value ++ b.value }

abbrev pub rewrite_beside : Rewrite → Rewrite → Rewrite
rewrite_beside a b = record { mask = a.mask ++ b.mask; value = a.value ++ b.value }

-- a set with k more words, all of them wild
abbrev pub padded : ℕ → Set → Set
padded k s = beside s (all_wild k)

-- a rewrite that leaves k more words as they are
abbrev pub padded_rewrite : ℕ → Rewrite → Rewrite
padded_rewrite k r = rewrite_beside r (no_rewrite k)

-- ---- intersection

-- the two values differ on no bit that both care for
abbrev pub overlaps : ℕ → Set → Set → Bool
overlaps n a b =
    every n (λ w. same_on (bit_and (word a.care w) (word b.care w)) (word a.value w) (word b.value w))

-- "care is the OR, value the OR"
abbrev pub joined : ℕ → Set → Set → Set
joined n a b = record { care = either n a.care b.care; value = either n a.value b.value }

-- "empty if the two values differ on a bit that both care for"; `none` is document 01's 'empty'
unfoldable pub intersection : ℕ → Set → Set → Option Set
intersection n a b = cond (overlaps n a b) (some (joined n a b)) none

-- is a header in the set, if there is one?
abbrev pub among : ℕ → Option Set → Header → Bool
among n none h = false
among n (some s) h = contains n s h

-- ---- rewriting, and undoing it

-- "masked bits become the value's, others stay"
abbrev pub rewritten : ℕ → Rewrite → Header → Header
rewritten n r h = overwritten n r.mask r.value h

-- the headers that have what a rewrite writes
abbrev pub writes : Rewrite → Set
writes r = record { care = r.mask; value = r.value }

-- a set with all bits of a mask wild
abbrev pub widened : ℕ → List ℕ → Set → Set
widened n m t = record { care = outside n m t.care; value = outside n m t.value }

-- "empty if T cares for a masked bit and wants another value; else T with all masked bits wild"
unfoldable pub undone : ℕ → Rewrite → Set → Option Set
undone n r t = cond (overlaps n t (writes r)) (some (widened n r.mask t)) none

-- ---- the lowest header

-- "lowest header (wild bits 0)"
abbrev pub lowest : ℕ → Set → Header
lowest n s = both n s.value s.care

-- g comes before h in document 01's bit order: at the first bit where they differ, g has 0
pub record Lower (n : ℕ) (g h : Header) : Type 0 where
  pub at : ℕ
  pub inside : at < n * 32
  pub same_before : (j : ℕ) → j < at → bit_at g j ≡ bit_at h j
  pub g_has : bit_at g at ≡ false
  pub h_has : bit_at h at ≡ true
