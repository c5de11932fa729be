-- An entry's own bytes say what the fabric has of it. Assumes nothing.
use mathlib.Core.List.{List}
use mathlib.Core.Path.{◌≡◌, sym, ap, ◌∙◌, subst}
use Prim.Native.Nat.{ℕ, ◌<◌}
use Rattle.layout.specs.Records.{width_in, entry_priority, entry_in, entry_out, entry_match, entry_action, entry_bytes, EntryLong}
use Rattle.layout.specs.Shape.{Shape}
use Rattle.layout.proofs.Widths.{width_said}
use Rattle.file.specs.Accepted.{Accepted}
use Rattle.file.specs.Accepted as Known
use Rattle.file.proofs.Accepted.{entry_of, words_said}
use Rattle.forwarding.specs.Fabric as Forwarding
use Rattle.forwarding.specs.Fabric.{in_port_of, out_port_of, priority_of}
use Rattle.model.specs.Model.{entry_from, fabric_of, fabric_in}
use Rattle.model.proofs.Shapes.{fabric_is, entry_is}

pub entries_are : (f : List ℕ) (s : Shape) → Accepted f s → (fabric_in f).entries ≡ s.entries
unfolding fabric_of
entries_are f s ok = ap (λ (F : Forwarding.Fabric). F.entries) (fabric_is f s ok)

pub words_are : (f : List ℕ) (s : Shape) → Accepted f s → (fabric_in f).words ≡ width_in f
unfolding fabric_of
words_are f s ok = ap (λ (F : Forwarding.Fabric). F.words) (fabric_is f s ok)

-- x is the bytes of entry e
pub record EntryRead (w : ℕ) (F : Forwarding.Fabric) (e : ℕ) (x : List ℕ) : Type 0 where
  pub number : e < F.entries
  pub bytes : Known.Entry w x
  pub in_port_lem : entry_in x ≡ in_port_of F e
  pub out_port_lem : entry_out x ≡ out_port_of F e
  pub priority : entry_priority x ≡ priority_of F e
  pub matches : entry_match w x ≡ (F.entry e).matches
  pub action : entry_action w x ≡ (F.entry e).action

pub entry_read : (f : List ℕ) (s : Shape) → Accepted f s → (e : ℕ) → e < s.entries → (x : List ℕ) → x ≡ entry_bytes f s e
    → EntryRead (width_in f) (fabric_in f) e x
entry_read f s ok e l x is =
    let same : (fabric_in f).entry e ≡ entry_from (width_in f) x =
    ap (λ (F : Forwarding.Fabric). F.entry e) (fabric_is f s ok) ∙ entry_is f s e l ∙ ap (entry_from (width_in f)) (sym is) in
    record {
      number = subst (λ (n : ℕ). e < n) (sym (entries_are f s ok)) l;
      bytes = subst (Known.Entry (width_in f)) (sym is) (entry_of f s ok e l);
      in_port_lem = sym (ap (λ (y : Forwarding.Entry). y.in_port) same);
      out_port_lem = sym (ap (λ (y : Forwarding.Entry). y.out_port) same);
      priority = sym (ap (λ (y : Forwarding.Entry). y.priority) same);
      matches = sym (ap (λ (y : Forwarding.Entry). y.matches) same);
      action = sym (ap (λ (y : Forwarding.Entry). y.action) same);
    }

pub bytes_long : (f : List ℕ) (s : Shape) → Accepted f s → {x : List ℕ} → Known.Entry (width_in f) x → EntryLong s.words x
bytes_long f s ok e = record {
  width = width_said f (words_said f s ok);
  long = rw (words_said f s ok) e.long;
}
