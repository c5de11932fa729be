-- `entries_at` meets its contract: an accepted file's shape is small, and the entries stand after the edges and the links.
use mathlib.Core.List.{List}
use mathlib.Core.Path.{sym, ap, ◌∙◌, subst}
use Prim.Native.Nat.{ℕ, ◌*◌, ◌≤◌}
use native.Mathlib.Omega.{arith}
use Rattle.layout.specs.Records.{width_in, place_of}
use Rattle.layout.specs.Limits.{most_words}
use Rattle.layout.specs.Shape.{Shape}
use Rattle.layout.specs.Versions.{shape_counted}
use Rattle.layout.proofs.Widths.{by_width, width_said}
use Rattle.file.specs.Accepted.{Accepted}
use Rattle.file.proofs.Accepted.{words_said, few_edges, few_links}
use Rattle.model.specs.Model.{entries_at}
use Rattle.model.proofs.Shapes.{shape_is}
use Rattle.entries.proofs.entries_at.Goals as goal

-- in either width
within-file : (f : List ℕ) (s : Shape) → Accepted f s → place_of s.words s.edges s.links 0 ≤ most_words
within-file f s ok =
    by_width (λ w. place_of w s.edges s.links 0 ≤ most_words)
    (omega (arith, few_edges f s ok, few_links f s ok)) (omega (arith, few_edges f s ok, few_links f s ok))
    s.words (width_said f (words_said f s ok))

pub place-requires : goal.place-requires
place-requires c = within-file _ _ c.args.fabric.now.accepted

pub overflow_mul-result : goal.overflow_mul-result
overflow_mul-result c =
    let inside = within-file _ _ c.args.fabric.now.accepted in
    let small : c.place.result ≤ most_words = subst (λ (n : ℕ). n ≤ most_words) (sym c.place.ensures) inside in
    omega (arith, small)

pub overflow_cast-result : goal.overflow_cast-result
overflow_cast-result c =
    let inside = within-file _ _ c.args.fabric.now.accepted in
    let small : c.place.result ≤ most_words = subst (λ (n : ℕ). n ≤ most_words) (sym c.place.ensures) inside in
    omega (arith, small)

pub returns : goal.returns
unfolding entries_at
returns c =
    let fabric = c.args.fabric.now in
    let s = shape_counted fabric.counts in
    ap (λ (n : ℕ). 4 * n) c.place.ensures
    ∙ ap (λ (w : ℕ). 4 * place_of w s.edges s.links 0) (words_said _ _ fabric.accepted)
    ∙ ap (λ (t : Shape). 4 * place_of (width_in fabric.file.now) t.edges t.links 0) (sym (shape_is fabric.file.now s fabric.accepted))
