-- `better` meets its contract: entry i is the first candidate, or outranks the best so far, or is outranked by it, or neither.
use mathlib.Core.List.{List}
use mathlib.Core.Path.{sym, subst, ◌∙◌}
use Prim.Native.Nat.{ℕ, ◌<◌}
use Rattle.layout.specs.Shape.{Shape}
use Rattle.file.specs.Accepted.{Accepted}
use Rattle.model.specs.Model.{wide_in}
use Rattle.model.specs.Taking.{AmongEntries, Better}
use Rattle.model.specs.declared.Takers.{Takers}
use Rattle.model.proofs.EntryRead.{entries_are}
use Rattle.model.proofs.Candidates.{named_below, better_first, better_take, better_keep, better_tie}
use Rattle.model.proofs.better.Goals as goal

module _ (f : List ℕ) (s : Shape) (ok : Accepted f s) where
  below : (i : ℕ) → i < s.entries → i < (wide_in f).entries
  below i l = subst (λ (n : ℕ). i < n) (sym (entries_are f s ok)) l

  within : (b : Takers) → AmongEntries s.entries b → AmongEntries (wide_in f).entries b
  within b l = subst (λ (n : ℕ). AmongEntries n b) (sym (entries_are f s ok)) l

pub returns-in-Nobody : goal.returns-in-Nobody
returns-in-Nobody c =
    let ok = c.args.fabric.now.accepted in
    λ x h d. better_first _ x h _ (below _ _ ok _ c.requires.i_lt_entries) _ c.in-Nobody.is d

pub priority-p-requires : goal.priority-p-requires
priority-p-requires c = named_below _ _ _ c.in-One.is c.requires.best_lt_entries

pub returns-then-outranks : goal.returns-then-outranks
returns-then-outranks c =
    let ok = c.args.fabric.now.accepted in
    λ x h d. better_take _ x h _ (below _ _ ok _ c.requires.i_lt_entries) _ _ c.in-One.is (within _ _ ok _ c.requires.best_lt_entries)
    c.priority-p.ensures c.priority-q.ensures d (sym c.outranks.ensures ∙ c.if-outranks.true)

pub returns-then-outranks-2 : goal.returns-then-outranks-2
returns-then-outranks-2 c =
    let ok = c.args.fabric.now.accepted in
    let a = c.args in
    λ x h d. subst (λ (r : Takers). Better (wide_in a.fabric.now.file.now) x h a.i a.best r) (sym c.in-One.best-is)
    (better_keep _ x h _ (below _ _ ok _ c.requires.i_lt_entries) _ _ c.in-One.is (within _ _ ok _ c.requires.best_lt_entries)
    c.priority-p.ensures c.priority-q.ensures (sym c.outranks-else-outranks.ensures ∙ c.if-outranks-2.true))

pub returns-else-outranks-2 : goal.returns-else-outranks-2
returns-else-outranks-2 c =
    let ok = c.args.fabric.now.accepted in
    λ x h d. better_tie _ x h _ (below _ _ ok _ c.requires.i_lt_entries) _ _ c.in-One.is (within _ _ ok _ c.requires.best_lt_entries)
    c.priority-p.ensures c.priority-q.ensures d
    (sym c.outranks.ensures ∙ c.if-outranks.false) (sym c.outranks-else-outranks.ensures ∙ c.if-outranks-2.false)
