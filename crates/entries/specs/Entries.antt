-- What is promised of an entry of an accepted file: its own bytes, and what it takes back to; and the entries of its in-port that a part
-- is tried against.
use Rattle.std.specs.Prelude.{Bool, true, false, ◌&&◌, List, ◌≡◌, ℕ, ◌-◌, ◌≤◌, ◌<◌, eqb, leb}
use Rattle.std.proofs.Math.Option.{Option}
use Rattle.headers.specs.Bits.{positions, those}
use Rattle.headers.specs.Sets.{Set}
use Rattle.headers.specs.Actions.{padded_act, before}
use Rattle.headers.specs.declared.Transfer.{Transfer}
use Rattle.headers.specs.declared.Transfer.TheVariants.{Keep, Copy, Swap}
use Rattle.layout.specs.Records.{width_in, match_at, entry_action, entry_bytes}
use Rattle.wide.specs.Forms.{wide_words, stored_at}
use Rattle.forwarding.specs.Fabric.{Fabric, in_port_of, priority_of}
use Rattle.model.specs.Model.{AFabric, fabric_in, shape_in, entries_at}
use Rattle.index.specs.Chains.{no_entry}

-- ---- one entry

-- the entries of an accepted file begin at byte `base`, and its headers have w words
pub record EntriesFrom (f : List ℕ) (base w : ℕ) : Type 0 where
  pub fabric : AFabric f
  pub base_is : base ≡ entries_at f
  pub width_is : w ≡ width_in f

-- x is entry e's own bytes
pub record IsEntry (f : List ℕ) (e : ℕ) (x : List ℕ) : Type 0 where
  pub within : e < (fabric_in f).entries
  pub bytes : x ≡ entry_bytes f (shape_in f) e

-- an action that leaves the addresses where they are
abbrev pub keeps : Transfer → Bool
keeps Keep = true
keeps Copy = false
keeps Swap = false

-- T4: the headers that an entry takes and makes into headers of t, of eight words, from its own bytes
abbrev pub back_from : ℕ → List ℕ → Set → Option Set
back_from w x t = before wide_words (stored_at w x match_at) (padded_act (wide_words - w) (entry_action w x)) t

-- ---- the entries of one in-port

-- j is an entry, or stands for the end of a chain
pub record OfChain (n j : ℕ) : Type 0 where
  pub within : j ≤ no_entry
  pub is_entry : j < no_entry → j < n

-- entry e has the port p, or e stands for the end of the chain of p
pub record InChain (port_of : ℕ → ℕ) (n p e : ℕ) : Type 0 where
  pub of_chain : OfChain n e
  pub has_port : e < no_entry → port_of e ≡ p

-- the entries at in-port x of priority q or higher, from entry j on, in file order
abbrev pub ranked_from : Fabric → ℕ → ℕ → ℕ → List ℕ
ranked_from f x q j = those (λ b. eqb (in_port_of f b) x && leb q (priority_of f b)) (positions (f.entries - j) j)

-- those at the in-port of entry j itself; none where j stands for the end of a chain
abbrev pub chained : Fabric → ℕ → ℕ → List ℕ
chained f q j = ranked_from f (in_port_of f j) q j
