-- `entry_at` meets its contract: an accepted file has all of its entries' bytes.
use mathlib.Core.List.{List}
use mathlib.Core.Path.{◌≡◌, refl, ap, ◌∙◌}
use Prim.Native.Nat.{ℕ, ◌+◌, ◌*◌, ◌≤◌, ◌<◌}
use native.Mathlib.Omega.{arith}
use lib.ListN.{length}
use Rattle.layout.specs.Records.{width_in, entry_words}
use Rattle.layout.proofs.Widths.{width_is}
use Rattle.model.specs.Model.{fabric_in}
use Rattle.entries.specs.Entries.{EntriesFrom}
use Rattle.entries.proofs.Entries.{entry_room, entry_part}
use Rattle.entries.proofs.entry_at.Goals as goal

-- n is an entry's words
module _ (f : List ℕ) (base w n : ℕ) (from : EntriesFrom f base w) (is : n ≡ entry_words w) where
  size_is : 4 * n ≡ 4 * entry_words (width_in f)
  size_is = ap (λ (k : ℕ). 4 * k) (is ∙ ap entry_words from.width_is)

  room : (e : ℕ) → e < (fabric_in f).entries → base + e * (4 * n) + 4 * n ≤ length f
  room e l = omega (arith, from.base_is, entry_room from.fabric l _ size_is)

pub overflow_mul-size : goal.overflow_mul-size
overflow_mul-size c =
    omega (arith, size_is _ _ _ _ c.requires.entries_from c.entry_words-size.ensures, (width_is c.args.file.now).high)

pub overflow_mul-a : goal.overflow_mul-a
overflow_mul-a c = omega (arith, room _ _ _ _ c.requires.entries_from c.entry_words-size.ensures _ c.requires.e_bound)

pub overflow_add-a : goal.overflow_add-a
overflow_add-a c = omega (arith, room _ _ _ _ c.requires.entries_from c.entry_words-size.ensures _ c.requires.e_bound)

pub overflow_add-result : goal.overflow_add-result
overflow_add-result c = omega (arith, room _ _ _ _ c.requires.entries_from c.entry_words-size.ensures _ c.requires.e_bound)

pub slice_bounds-result-end : goal.slice_bounds-result-end
slice_bounds-result-end c = omega (arith, room _ _ _ _ c.requires.entries_from c.entry_words-size.ensures _ c.requires.e_bound)

pub returns : goal.returns
returns c =
    let from = c.requires.entries_from in
    record {
      entry =
          entry_part from.fabric c.requires.e_bound _ (size_is _ _ _ _ from c.entry_words-size.ensures) _
          (ap (λ (k : ℕ). k + c.args.e * (4 * c.entry_words-size.result)) from.base_is);
      same_version = refl;
    }
