-- Sixteen places for entries, unused ones 0: one more entry is stored in the first unused place; what each place holds. Assumes nothing.
use mathlib.Core.List.{List, [], ◌∷◌, ◌++◌, append_assoc}
use mathlib.Core.Path.{◌≡◌, sym, ap, ◌∙◌}
use Prim.Native.Nat.{ℕ, ◌+◌, ◌-◌, ◌≤◌, ◌<◌}
use native.Mathlib.Omega.{arith}
use lib.ListN.{length, get_or, take, set, replicate, length-append, length-take, get_or-replicate, get_or-append}
use lib.Seq.{take-set-lt, set-append_seam, take-append-le, append_snoc, get_or-take, get_or-append-add}
use Rattle.answer.specs.Answer.{sixteen}

pub sixteen_more : (l : List ℕ) (e : ℕ) → length l < 16 → set (sixteen l) (length l) e ≡ sixteen (l ++ (e ∷ []))
unfolding sixteen
sixteen_more l e short =
    sym (take-set-lt 16 (l ++ replicate 16 0) (length l) e short)
    ∙ ap (take 16) (set-append_seam l 0 (replicate 15 0) e ∙ sym (append_snoc l e (replicate 15 0)))
    ∙ sym (take-append-le 16 (l ++ (e ∷ []) ++ replicate 15 0) (0 ∷ [])
    (omega (arith, length-append (l ++ (e ∷ [])) (replicate 15 0), length-append l (e ∷ []))))
    ∙ ap (take 16) (append_assoc (l ++ (e ∷ [])) (replicate 15 0) (0 ∷ []))

pub sixteen_long : (l : List ℕ) → length (sixteen l) ≡ 16
unfolding sixteen
sixteen_long l = omega (arith, length-take 16 (l ++ replicate 16 0), length-append l (replicate 16 0))

-- a place that is used holds its entry, and an unused one 0
pub sixteen_used : (l : List ℕ) (i : ℕ) → i < length l → i < 16 → get_or (sixteen l) i 0 ≡ get_or l i 0
unfolding sixteen
sixteen_used l i used inside = get_or-take 16 (l ++ replicate 16 0) i 0 inside ∙ get_or-append l (replicate 16 0) 0 i used

pub sixteen_unused : (l : List ℕ) (i : ℕ) → length l ≤ i → i < 16 → get_or (sixteen l) i 0 ≡ 0
unfolding sixteen
sixteen_unused l i past inside =
    get_or-take 16 (l ++ replicate 16 0) i 0 inside
    ∙ ap (λ (k : ℕ). get_or (l ++ replicate 16 0) k 0) (let e : i ≡ length l + (i - length l) = omega arith in e)
    ∙ get_or-append-add l (replicate 16 0) (i - length l) 0
    ∙ get_or-replicate 16 (i - length l) 0 0 (omega arith)
