-- The parts that are left to carve: each turn of `put_parts` takes one of them.
use Rattle.std.proofs.Common.{◌≡◌, ℕ, ◌<◌, List, false, length, sym, ap, ap₂, ◌∙◌, arith}
use Rattle.headers.specs.Bits.{Words, first_bit, no_bit}
use Rattle.headers.specs.Sets.{Set, outside}
use Rattle.headers.specs.Carving.{free, taking, parts}
use Rattle.sets.specs.Forms.{set_of, form_of}
use Rattle.sets.specs.declared.HeaderSet.{HeaderSet}
use Rattle.headers.proofs.SetBits.{first_bit_fits}
use Rattle.headers.proofs.Carved.{parts_first, like_cares, free_later}

-- these are the free bits of what is left to carve by b
pub record Free (b rest : HeaderSet) (bits : List ℕ) : Type 0 where
  pub b_care : Words 4 b.care
  pub b_value : Words 4 b.value
  pub care : Words 4 rest.care
  pub are : bits ≡ free 4 (set_of rest) (set_of b)

abbrev pub parts_left : HeaderSet → HeaderSet → ℕ
parts_left b rest = length (parts 4 (set_of rest) (set_of b))

-- a turn
module _ (b rest next : HeaderSet) (bits bit later : List ℕ) (x : Free b rest bits) (first : bit ≡ first_bit 4 bits)
    (like : next ≡ form_of (taking 4 bit (set_of b) (set_of rest))) where
  abbrev mask : List ℕ
  mask = first_bit 4 (free 4 (set_of rest) (set_of b))

  is_mask : bit ≡ mask
  is_mask = first ∙ ap (first_bit 4) x.are

  is_next : set_of next ≡ taking 4 mask (set_of b) (set_of rest)
  is_next = ap set_of like ∙ ap (λ (m : List ℕ). taking 4 m (set_of b) (set_of rest)) is_mask

  pub fewer : no_bit 4 bits ≡ false → parts_left b next < parts_left b rest
  fewer e =
      let p = parts_first 4 (set_of b) x.b_care x.b_value (set_of rest) x.care (ap (no_bit 4) (sym x.are) ∙ e) in
      let l = ap length p in
      let n = ap (λ (s : Set). length (parts 4 s (set_of b))) is_next in
      omega arith

  pub still : later ≡ outside 4 bit bits → Free b next later
  still o = record {
    b_care = x.b_care;
    b_value = x.b_value;
    care = rw like (like_cares 4 (set_of b) x.b_care x.b_value (set_of rest) bit);
    are =
        o ∙ ap₂ (outside 4) is_mask x.are
        ∙ sym (free_later 4 (set_of b) x.b_care x.b_value (set_of rest) x.care mask (first_bit_fits 4 _))
        ∙ ap (λ (s : Set). free 4 s (set_of b)) (sym is_next);
  }
