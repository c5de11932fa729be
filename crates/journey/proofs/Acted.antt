-- What an entry makes of a header, by the rewrite and the transfer that stand in its own bytes.
use mathlib.Core.List.{List}
use mathlib.Core.Path.{◌≡◌, sym, ap, ap₂, ◌∙◌}
use Prim.Native.Nat.{ℕ, ◌-◌}
use Rattle.headers.specs.Sets.{Header}
use Rattle.headers.specs.Actions.{Act, acted, padded_act}
use Rattle.headers.specs.declared.Transfer.{Transfer}
use Rattle.layout.specs.Records.{width_in, rewrite_at, entry_transfer, entry_action}
use Rattle.layout.specs.Shape.{Shape}
use Rattle.wide.specs.Forms.{wide_words, rewrite_stored}
use Rattle.file.specs.Accepted.{Accepted}
use Rattle.file.proofs.Accepted.{words_said}
use Rattle.forwarding.specs.Fabric.{applied}
use Rattle.model.specs.Model.{fabric_in, wide_in}
use Rattle.model.proofs.EntryRead.{EntryRead, words_are}

module _ (f : List ℕ) (s : Shape) (ok : Accepted f s) where
  pub applied_stored : (e : ℕ) (x : List ℕ) → EntryRead (width_in f) (fabric_in f) e x → (k : ℕ) → k ≡ rewrite_at s.words
      → (t : Transfer) → t ≡ entry_transfer x → (h g : Header)
      → g ≡ acted wide_words (record { transfer = t; rewrite = rewrite_stored s.words x k }) h → applied (wide_in f) e h ≡ g
  unfolding applied
  applied_stored e x read k at t is h g made =
      let said = words_said f s ok in
      ap (λ (a : Act). acted wide_words (padded_act (wide_words - (fabric_in f).words) a) h) (sym read.action)
      ∙ ap₂ (λ (n m : ℕ). acted wide_words (padded_act (wide_words - n) (entry_action m x)) h) (words_are f s ok ∙ sym said)
      (sym said)
      ∙ ap₂ (λ (u : Transfer) (j : ℕ). acted wide_words (record { transfer = u; rewrite = rewrite_stored s.words x j }) h)
      (sym is) (sym at)
      ∙ sym made
