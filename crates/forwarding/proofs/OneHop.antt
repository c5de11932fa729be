-- What one entry makes of a header, and that undone. Only this file opens `applied` and `undoes`. Assumes nothing.
use mathlib.Core.Option.{some, map}
use mathlib.Core.Path.{◌≡◌}
use Prim.Native.Nat.{ℕ}
use lib.ListN.{length}
use Rattle.headers.specs.Bits.{Words}
use Rattle.headers.specs.Sets.{Header, Set, contains, WellFormed, among, padded}
use Rattle.headers.specs.Actions.{before}
use Rattle.headers.proofs.Positions.{words_long}
use Rattle.headers.proofs.Members.{no_bits}
use Rattle.headers.proofs.Acting.{acted_fits, unacted_exact, unacted_well_formed}
use Rattle.headers.proofs.Beside.{well_formed_long, written_long}
use Rattle.headers.proofs.ActsBeside.{acted_padded, before_padded}
use Rattle.forwarding.specs.Fabric.{Fabric, Sound, applied, undoes}
use Rattle.forwarding.specs.BackTrace.{back}
use Rattle.forwarding.specs.Wider.{wider, longer}

pub applied_long : (f : Fabric) (e : ℕ) (h : Header) → length (applied f e h) ≡ f.words
unfolding applied
applied_long f e h = words_long f.words _

module _ (f : Fabric) (sound : Sound f) (e : ℕ) where
  -- a header is in the undone set exactly if entry e makes it into a header of the set
  pub undoes_exact : (t : Set) → WellFormed f.words t → (h : Header) → Words f.words h
      → among f.words (undoes f e t) h ≡ contains f.words t (applied f e h)
  unfolding applied undoes
  undoes_exact t wt h w = unacted_exact f.words sound.two_words (f.entry e).action t (sound.rewrite_written e).mask wt h

  pub undoes_well_formed : (t : Set) → WellFormed f.words t → (s : Set) → undoes f e t ≡ some s → WellFormed f.words s
  unfolding undoes
  undoes_well_formed t wt = unacted_well_formed f.words sound.two_words (f.entry e).action t (sound.rewrite_written e).mask wt

  pub applied_fits : (h : Header) → Words f.words h → Words f.words (applied f e h)
  unfolding applied
  applied_fits h w = acted_fits f.words (f.entry e).action (sound.rewrite_written e) h

  -- ---- with k more words

  pub applied_wider : (k : ℕ) (h : Header) → length h ≡ f.words → applied (wider k f) e (longer k h) ≡ longer k (applied f e h)
  unfolding applied
  applied_wider k h lh =
      acted_padded f.words k sound.two_words h _ lh (words_long k _)
      (f.entry e).action (written_long (sound.rewrite_written e)) (no_bits k)

  pub back_wider : (k : ℕ) (t : Set) → WellFormed f.words t → back (wider k f) e (padded k t) ≡ map (padded k) (back f e t)
  unfolding back undoes before
  back_wider k t wt =
      before_padded f.words k sound.two_words (f.entry e).action (sound.rewrite_written e) t wt
      (f.entry e).matches (well_formed_long (sound.match_well_formed e))
