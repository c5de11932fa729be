-- What an entry does to a header, over n words, and undoing it: document 02, 2.5. Word 0 is nw_src and word 1 nw_dst, so n is at least 2.
use Rattle.std.specs.Prelude.{cond, ℕ, zero, suc, eqb}
use Rattle.std.proofs.Math.Option.{Option, some, bind}
use Rattle.headers.specs.Bits.{word, words}
use Rattle.headers.specs.Sets.{Header, Set, Rewrite, intersection, rewritten, undone, no_rewrite, rewrite_beside}
use Rattle.headers.specs.declared.Transfer.{Transfer}
use Rattle.headers.specs.declared.Transfer.TheVariants.{Keep, Copy, Swap}

-- H17: a transfer, and then a rewrite
pub record Act : Type 0 where
  pub transfer : Transfer
  pub rewrite : Rewrite

-- ---- acting

-- the header whose word w is word `from w` of h
abbrev pub moved : ℕ → (ℕ → ℕ) → Header → Header
moved n from h = words n (λ w. word h (from w))

-- nw_dst is the old nw_src
abbrev pub copied : ℕ → ℕ
copied zero = 0
copied (suc zero) = 0
copied (suc (suc w)) = suc (suc w)

-- each of the two is the other one
abbrev pub swapped : ℕ → ℕ
swapped zero = 1
swapped (suc zero) = 0
swapped (suc (suc w)) = suc (suc w)

-- H17: what a transfer makes of a header
abbrev pub transferred : ℕ → Transfer → Header → Header
transferred n Keep h = h
transferred n Copy h = moved n copied h
transferred n Swap h = moved n swapped h

-- H17: what an action makes of a header, the transfer before the rewrite
abbrev pub acted : ℕ → Act → Header → Header
acted n a h = rewritten n a.rewrite (transferred n a.transfer h)

-- H8: the action that leaves every header as it is
abbrev pub no_action : ℕ → Act
no_action n = record { transfer = Keep; rewrite = no_rewrite n }

-- an action, and a rewrite of more words
abbrev pub act_beside : Act → Rewrite → Act
act_beside a r = record { transfer = a.transfer; rewrite = rewrite_beside a.rewrite r }

-- an action that leaves k more words as they are
abbrev pub padded_act : ℕ → Act → Act
padded_act k a = act_beside a (no_rewrite k)

-- ---- undoing

-- a set with word v all wild
abbrev pub wild_at : ℕ → ℕ → Set → Set
wild_at n v t = record {
  care = words n (λ w. cond (eqb w v) 0 (word t.care w));
  value = words n (λ w. cond (eqb w v) 0 (word t.value w));
}

-- what a set wants of word v, wanted of word u, and nothing else
abbrev pub wanted_of : ℕ → ℕ → ℕ → Set → Set
wanted_of n u v t = record {
  care = words n (λ w. cond (eqb w u) (word t.care v) 0);
  value = words n (λ w. cond (eqb w u) (word t.value v) 0);
}

-- a set with the words of care and value moved
abbrev pub moved_set : ℕ → (ℕ → ℕ) → Set → Set
moved_set n from t = record { care = moved n from t.care; value = moved n from t.value }

-- what a copy leaves in nw_dst was in nw_src: nw_dst becomes wild, and what t wants of it joins what t wants of nw_src; empty if the two
-- disagree
abbrev pub uncopied : ℕ → Set → Option Set
uncopied n t = intersection n (wild_at n 1 t) (wanted_of n 0 1 t)

-- H18: the headers that a transfer takes into a set
abbrev pub untransferred : ℕ → Transfer → Set → Option Set
untransferred n Keep t = some t
untransferred n Copy t = uncopied n t
untransferred n Swap t = some (moved_set n swapped t)

-- H18: the headers that an action takes into a set; what was done last is undone first
unfoldable pub unacted : ℕ → Act → Set → Option Set
unacted n a t = bind (undone n a.rewrite t) (untransferred n a.transfer)

-- T4: the headers of a match that a transfer takes into a set
unfoldable pub met_before : ℕ → Set → Transfer → Set → Option Set
met_before n matches transfer s = bind (untransferred n transfer s) (λ s. intersection n s matches)

-- T4: the headers of a match that an action takes into a set
unfoldable pub before : ℕ → Set → Act → Set → Option Set
before n matches a t = bind (unacted n a t) (λ s. intersection n s matches)
