-- Words written one after the other are written together. Assumes nothing.
use mathlib.Core.List.{List, [], ◌∷◌, ◌++◌, append_assoc, append-nil}
use mathlib.Core.Path.{◌≡◌, refl, sym, ap, ap₂, ◌∙◌, subst}
use Prim.Native.Nat.{ℕ, suc, ◌+◌, ◌-◌, ◌*◌, ◌/◌, ◌%◌, ◌≤◌, ◌<◌}
use native.Mathlib.Numerals.{add-one}
use native.Mathlib.Omega.{arith}
use borrow.Rule.Slice.PartMut.{put_mid, Post-is}
use lib.ListN.{length, take, drop, set, get_or, length-append, length-drop, take-append-drop}
use lib.Seq.{length-take-le, take_all, take_at, drop-drop, sets-eq, drop-append-add, take-suc}
use Rattle.layout.specs.Records.{half, Width}
use Rattle.answer.specs.Answer.{bytes_of, written_at}

pub bytes_append : (us vs : List ℕ) → bytes_of (us ++ vs) ≡ bytes_of us ++ bytes_of vs
unfolding bytes_of
bytes_append [] vs = refl
bytes_append (u ∷ us) vs =
    ap (λ (l : List ℕ). u % 256 ∷ u / 256 % 256 ∷ u / 65536 % 256 ∷ u / 16777216 % 256 ∷ l) (bytes_append us vs)

pub bytes_length : (ws : List ℕ) → length (bytes_of ws) ≡ 4 * length ws
unfolding bytes_of
bytes_length [] = refl
bytes_length (w ∷ ws) = let e = bytes_length ws in omega arith

-- the four bytes of a word, stored one after the other
pub stored_word : (area : List ℕ) (at w : ℕ) → 4 * (at + 1) ≤ length area
    → set (set (set (set area (at * 4) (w % 256)) (at * 4 + 1) (w / 256 % 256)) (at * 4 + 2) (w / 65536 % 256)) (at * 4 + 3)
    (w / 16777216 % 256)
    ≡ written_at at (w ∷ []) area
unfolding written_at bytes_of
stored_word area at w room =
    let a : at * 4 + 1 ≡ suc (at * 4) = omega arith in
    let b : at * 4 + 2 ≡ suc (suc (at * 4)) = omega arith in
    let c : at * 4 + 3 ≡ suc (suc (suc (at * 4))) = omega arith in
    let d : at * 4 ≡ 4 * at = omega arith in
    let e : 4 * at + 4 ≡ 4 * (at + 1) = omega arith in
    rw (a, b, c, d) (sets-eq (w % 256 ∷ w / 256 % 256 ∷ w / 65536 % 256 ∷ w / 16777216 % 256 ∷ []) area (4 * at) (omega arith)
    ∙ rw e)

-- the four bytes of a word, copied to their place
pub copied_word : (area bytes : List ℕ) (at w : ℕ) → bytes ≡ bytes_of (w ∷ [])
    → put_mid (4 * at) (4 * at + 4 - 4 * at) area bytes ≡ written_at at (w ∷ []) area
unfolding written_at
copied_word area bytes at w e =
    let rest : 4 * at + 4 ≡ 4 * (at + 1) = omega arith in
    ap₂ (λ (ys post : List ℕ). take (4 * at) area ++ (ys ++ post)) e
    (Post-is (4 * at) (4 * at + 4) area (omega arith) ∙ ap (λ (k : ℕ). drop k area) rest)
    ∙ sym (append_assoc (take (4 * at) area) (bytes_of (w ∷ [])) (drop (4 * (at + 1)) area))

module _ (at : ℕ) (us vs area : List ℕ) (room : 4 * (at + length us) ≤ length area) where
  pub written_next : written_at (at + length us) vs (written_at at us area) ≡ written_at at (us ++ vs) area
  unfolding written_at
  written_next =
      ap₂ (λ (x y : List ℕ). x ++ bytes_of vs ++ y)
      (take_at (take (4 * at) area ++ bytes_of us) (drop (4 * (at + length us)) area) (4 * (at + length us)) front)
      (ap (λ (k : ℕ). drop k (take (4 * at) area ++ bytes_of us ++ drop (4 * (at + length us)) area)) (let e : 4 *
      (at + length us + length vs) ≡ length (take (4 * at) area ++ bytes_of us) + 4 * length vs = omega (arith, front) in e)
      ∙ drop-append-add (take (4 * at) area ++ bytes_of us) (drop (4 * (at + length us)) area) (4 * length vs)
      ∙ drop-drop (4 * length vs) (4 * (at + length us)) area
      ∙ ap (λ (k : ℕ). drop k area) (let e : 4 * (at + length us) + 4 * length vs ≡ 4 * (at + length (us ++ vs)) =
      omega (arith, length-append us vs) in e))
      ∙ ap (λ (x : List ℕ). x ++ drop (4 * (at + length (us ++ vs))) area)
      (append_assoc (take (4 * at) area) (bytes_of us) (bytes_of vs)
      ∙ ap (λ (x : List ℕ). take (4 * at) area ++ x) (sym (bytes_append us vs)))
    where
      front : length (take (4 * at) area ++ bytes_of us) ≡ 4 * (at + length us)
      front = omega (arith, length-append (take (4 * at) area) (bytes_of us), length-take-le (4 * at) area (omega arith), bytes_length us)

  pub written_length : length (written_at at us area) ≡ length area
  unfolding written_at
  written_length = omega (
    arith,
    length-append (take (4 * at) area ++ bytes_of us) (drop (4 * (at + length us)) area),
    length-append (take (4 * at) area) (bytes_of us),
    length-take-le (4 * at) area (omega arith),
    bytes_length us,
    length-drop (4 * (at + length us)) area,
  )

pub written_none : (at : ℕ) (area : List ℕ) → 4 * at ≤ length area → written_at at [] area ≡ area
unfolding written_at bytes_of
written_none at area room =
    rw (append-nil, let e : at + 0 ≡ at = omega arith in e) (take-append-drop (4 * at) area)

-- one more of the words, of which i are written
pub written_more : (at i : ℕ) (ws area now : List ℕ) → i < length ws → 4 * (at + length ws) ≤ length area
    → now ≡ written_at at (take i ws) area
    → written_at (at + i) (get_or ws i 0 ∷ []) now ≡ written_at at (take (i + 1) ws) area
written_more at i ws area now l room e =
    let k : length (take i ws) ≡ i = length-take-le i ws (omega arith) in
    ap (written_at (at + i) (get_or ws i 0 ∷ [])) e
    ∙ ap (λ (m : ℕ). written_at (at + m) (get_or ws i 0 ∷ []) (written_at at (take i ws) area)) (sym k)
    ∙ written_next at (take i ws) (get_or ws i 0 ∷ []) area (omega arith)
    ∙ ap (λ (l : List ℕ). written_at at l area) (sym (rw (add-one i) (take-suc ws i 0 l)))

-- three runs of words, one after the other
pub written_three : (a b c area : List ℕ) (m n : ℕ) → length a ≡ m → length b ≡ n → 4 * (m + n + length c) ≤ length area
    → written_at (m + n) c (written_at m b (written_at 0 a area)) ≡ written_at 0 (a ++ (b ++ c)) area
written_three a b c area m n la lb room =
    let ab : length (a ++ b) ≡ m + n = omega (arith, length-append a b) in
    let z : 0 + length a ≡ m = omega arith in
    let y : 0 + length (a ++ b) ≡ m + n = omega arith in
    ap (written_at (m + n) c)
    (subst (λ (k : ℕ). written_at k b (written_at 0 a area) ≡ written_at 0 (a ++ b) area) z (written_next 0 a b area (omega arith)))
    ∙ subst (λ (k : ℕ). written_at k c (written_at 0 (a ++ b) area) ≡ written_at 0 (a ++ b ++ c) area) y
    (written_next 0 (a ++ b) c area (omega arith))
    ∙ ap (λ (l : List ℕ). written_at 0 l area) (append_assoc a b c)

-- the first w words of a header, its first four and then, if there are more, its last four
module _ (at w : ℕ) (low high area : List ℕ) (d : Width w) (ll : length low ≡ half) (lh : length high ≡ half) where
  pub written_both : 4 * (at + w) ≤ length area → (w ≡ half → ⊥)
      → written_at (at + half) high (written_at at low area) ≡ written_at at (take w (low ++ high)) area
  written_both room n =
      ap (λ (m : ℕ). written_at (at + m) high (written_at at low area)) (sym ll)
      ∙ written_next at low high area (omega (arith, d.low))
      ∙ ap (λ (l : List ℕ). written_at at l area)
      (sym (take_all w (low ++ high) (let h : half < w = omega arith in omega (arith, length-append low high))))
