-- The path from a place on: kept by what leaves it as it was, and with an entry put at the last free place. Assumes nothing.
use mathlib.Core.List.{List, ◌∷◌}
use mathlib.Core.Path.{◌≡◌, refl, sym, ap, ◌∙◌}
use Prim.Native.Nat.{ℕ, suc, ◌+◌, ◌-◌, ◌≤◌, ◌<◌}
use native.Mathlib.Decide.{ℕ_discrete}
use native.Mathlib.Omega.{arith}
use lib.ListN.{length, get_or, set, drop, length-set}
use lib.Seq.{get_or-set_same, get_or-set_other, get_or-drop, drop-drop, drop-cons, drop-set-lt}
use Rattle.events.specs.Asked.{Path}
use Rattle.backtrace.specs.Cycle.{Kept}

pub kept_same : {d : ℕ} (path : List ℕ) → length path ≡ 16 → Kept d path path
kept_same path l = record { long = l; later = refl }

pub kept_on : {d : ℕ} {path₀ path path' : List ℕ} → Kept d path₀ path → Kept d path path' → Kept d path₀ path'
kept_on a b = record { long = b.long; later = b.later ∙ a.later }

-- and so a path still
pub path_kept : {d : ℕ} {path₀ path : List ℕ} → Path path₀ d → Kept d path₀ path → Path path d
path_kept {d} {path₀} {path} p k = record { long = k.long; within = p.within; entries = at }
  where
    at : (i : ℕ) → d ≤ i → i < 16 → get_or path i 0 < 512
    at i l m =
        let e : d + (i - d) ≡ i = omega arith in
        let same : get_or path i 0 ≡ get_or path₀ i 0 =
        rw e at (sym (get_or-drop d path (i - d) 0) ∙ ap (λ (l : List ℕ). get_or l (i - d) 0) k.later
        ∙ get_or-drop d path₀ (i - d) 0) in
        rw same (p.entries i l m)

-- an entry put at the last free place
module _ (path : List ℕ) (d e : ℕ) (some-free : 0 < d) (long : length path ≡ 16) where
  pub pushed_drop : d ≤ 16 → drop (d - 1) (set path (d - 1) e) ≡ e ∷ drop d path
  pushed_drop w =
      let l : length (set path (d - 1) e) ≡ 16 = length-set path (d - 1) e ∙ long in
      let n : suc (d - 1) ≡ d = omega arith in
      drop-cons (set path (d - 1) e) (d - 1) 0 (omega arith)
      ∙ rw (get_or-set_same path (d - 1) e 0 (omega arith), n, drop-set-lt d path (d - 1) e (omega arith))

  -- what keeps it keeps what was there before
  pub kept_pushed : {path' : List ℕ} → Kept (d - 1) (set path (d - 1) e) path' → Kept d path path'
  kept_pushed {path'} k = record {
    long = k.long;
    later =
        let n : d - 1 + 1 ≡ d = omega arith in
        rw n at (sym (drop-drop 1 (d - 1) path') ∙ ap (drop 1) k.later ∙ drop-drop 1 (d - 1) (set path (d - 1) e))
        ∙ drop-set-lt d path (d - 1) e (omega arith);
  }

  -- and is a path with one place fewer free
  pub path_pushed : Path path d → e < 512 → Path (set path (d - 1) e) (d - 1)
  path_pushed p l = record {
    long = length-set path (d - 1) e ∙ long;
    within = omega (arith, p.within);
    entries =
        λ i a b. at i a b (ℕ_discrete i (d - 1));
  }
    where
      at : (i : ℕ) → d - 1 ≤ i → i < 16 → Dec (i ≡ d - 1) → get_or (set path (d - 1) e) i 0 < 512
      at i a b (yes z) = rw (z, get_or-set_same path (d - 1) e 0 (omega arith)) l
      at i a b (no z) = rw (get_or-set_other path (d - 1) i e 0 z) (p.entries i (omega arith) b)
