-- The finds of the trace with the units left out: entry by entry and back-traced part by back-traced part. Assumes nothing.
use mathlib.Core.Bool.{Bool, true, false, cond}
use mathlib.Core.List.{List, [], ◌∷◌, ◌++◌, map, flat_map, reverse_aux, append-nil, map-map}
use mathlib.Core.List.Memᴰ
use mathlib.Core.List.{Memᴰ}
use mathlib.Core.Option.{Option, some, none, Option-elim}
use mathlib.Core.Path.{◌≡◌, refl, sym, ap, ◌∙◌, subst}
use Prim.Native.Nat.{ℕ, zero, suc}
use lib.Dec.{eqb}
use Rattle.headers.specs.Sets.{Set, WellFormed}
use Rattle.headers.specs.Carving.{carve}
use Rattle.forwarding.specs.Fabric.{Fabric, Sound, in_port_of, out_port_of, entries_where}
use Rattle.forwarding.specs.BackTrace.{back, beaters, survivors, back_traced}
use Rattle.forwarding.specs.Trace.{Find, Event, unit, find, carved, from_port, at_in_port, taken_up, stop, finds}
use Rattle.forwarding.proofs.Lists.{flat_map_same, flat_map_member, flat_map_flat_map, map_flat_map}
use Rattle.forwarding.proofs.BackTraced.{back_traced_well_formed}

-- ---- the finds alone

pub finds_append : (a b : List Event) → finds (a ++ b) ≡ finds a ++ finds b
unfolding finds
finds_append [] b = refl
finds_append (unit ∷ a) b = finds_append a b
finds_append (find d ∷ a) b = ap (λ (l : List Find). d ∷ l) (finds_append a b)

pub finds_flat_map : {A : Type 0} (g : A → List Event) (l : List A) → finds (flat_map g l) ≡ flat_map (λ a. finds (g a)) l
unfolding finds flat_map
finds_flat_map g [] = refl
finds_flat_map g (a ∷ l) = finds_append (g a) (flat_map g l) ∙ ap (λ (m : List Find). finds (g a) ++ m) (finds_flat_map g l)

module _ (f : Fabric) where
  -- carving hands on just the parts that survive, in their order
  pub finds_carved : (next : Set → List Event) (bs : List ℕ) (p : Set)
      → finds (carved f next bs p) ≡ flat_map (λ s. finds (next s)) (survivors f bs p)
  unfolding carved survivors finds flat_map
  finds_carved next [] p = sym (append-nil (finds (next p)))
  finds_carved next (b ∷ bs) p =
      finds_flat_map (carved f next bs) parts
      ∙ flat_map_same _ _ (finds_carved next bs) parts
      ∙ sym (flat_map_flat_map (λ s. finds (next s)) (survivors f bs) parts)
    where
      parts : List Set
      parts = carve f.words p (f.entry b).matches

  finds_taken_up : (next : ℕ → Set → List ℕ → List Event) (t : Set) (path : List ℕ) (e : ℕ)
      → finds (taken_up f next t path e) ≡ flat_map (λ s. finds (at_in_port f next (in_port_of f e) (e ∷ path) s))
      (back_traced f e t)
  unfolding taken_up back_traced finds Option-elim flat_map
  finds_taken_up next t path e = go (back f e t)
    where
      go : (o : Option Set) → finds (Option-elim o [] (carved f (at_in_port f next (in_port_of f e) (e ∷ path)) (beaters f e)))
          ≡ flat_map (λ s. finds (at_in_port f next (in_port_of f e) (e ∷ path) s)) (Option-elim o [] (survivors f (beaters f e)))
      go none = refl
      go (some s) = finds_carved _ (beaters f e) s

  -- ---- the same with each path the latest entry first

  -- one entry more was taken later
  abbrev pub later : ℕ → Find → Find
  later e d = record { port = d.port; path = e ∷ d.path; set = d.set }

  abbrev pub over_link : (ℕ → Set → List Find) → ℕ → Set → List Find
  over_link next zero s = []
  over_link next (suc y) s = next (suc y) s

  -- the finds of a part s at in-port x
  unfoldable pub found_at : (ℕ → Set → List Find) → ℕ → Set → List Find
  found_at next x s = cond (f.is_edge x) (record { port = x; path = []; set = s } ∷ []) (over_link next (f.link_from x) s)

  -- the finds through entry e, which is not yet in their paths
  abbrev pub found_before : (ℕ → Set → List Find) → Set → ℕ → List Find
  found_before next t e = flat_map (found_at next (in_port_of f e)) (back_traced f e t)

  -- the finds of a stop
  unfoldable pub ways_back : ℕ → ℕ → Set → List Find
  ways_back zero o t = []
  ways_back (suc k) o t = flat_map (λ e. map (later e) (found_before (ways_back k) t e)) (entries_where f (λ e. eqb (out_port_of f e) o))

-- the path in travelling order, with what is taken afterwards
abbrev pub onto : List ℕ → Find → Find
onto path d = record { port = d.port; path = reverse_aux d.path path; set = d.set }

module _ (f : Fabric) where
  finds_at : (k : ℕ) → ((o : ℕ) (t : Set) (path : List ℕ) → finds (stop f k o t path) ≡ map (onto path) (ways_back f k o t))
      → (x : ℕ) (path : List ℕ) (s : Set) → finds (at_in_port f (stop f k) x path s) ≡ map (onto path)
      (found_at f (ways_back f k) x s)
  unfolding at_in_port found_at finds
  finds_at k ih x path s = go (f.is_edge x) (f.link_from x)
    where
      go : (b : Bool) (y : ℕ)
          → finds (cond b (find (record { port = x; path = path; set = s }) ∷ []) (from_port f (stop f k) y path s))
          ≡ map (onto path) (cond b (record { port = x; path = []; set = s } ∷ []) (over_link f (ways_back f k) y s))
      go true y = refl
      go false zero = refl
      go false (suc y) = ih (suc y) s path

  pub finds_stop : (k o : ℕ) (t : Set) (path : List ℕ) → finds (stop f k o t path) ≡ map (onto path) (ways_back f k o t)
  unfolding stop ways_back finds
  finds_stop zero o t path = refl
  finds_stop (suc k) o t path =
      finds_flat_map (taken_up f (stop f k) t path) es
      ∙ flat_map_same _ _ (one_entry_lem (finds_stop k)) es
      ∙ sym (map_flat_map (onto path) (λ e. map (later f e) (found_before f (ways_back f k) t e)) es)
    where
      es : List ℕ
      es = entries_where f (λ e. eqb (out_port_of f e) o)

      one_entry_lem : ((o : ℕ) (t : Set) (path : List ℕ) → finds (stop f k o t path) ≡ map (onto path) (ways_back f k o t))
          → (e : ℕ) → finds (taken_up f (stop f k) t path e) ≡ map (onto path)
          (map (later f e) (found_before f (ways_back f k) t e))
      one_entry_lem ih e =
          finds_taken_up f (stop f k) t path e
          ∙ flat_map_same _ _ (finds_at k ih (in_port_of f e) (e ∷ path)) (back_traced f e t)
          ∙ sym (map_flat_map (onto (e ∷ path)) (found_at f (ways_back f k) (in_port_of f e)) (back_traced f e t))
          ∙ sym (map-map (onto path) (later f e) (found_before f (ways_back f k) t e))

  -- the finds of a part at an in-port
  pub finds_part : (k x : ℕ) (path : List ℕ) (s : Set)
      → finds (at_in_port f (stop f k) x path s) ≡ map (onto path) (found_at f (ways_back f k) x s)
  finds_part k = finds_at k (finds_stop k)

-- ---- what every find is

-- a well-formed set at an edge port
pub record EdgeSet (f : Fabric) (d : Find) : Type 0 where
  pub edge : f.is_edge d.port ≡ true
  pub well_formed : WellFormed f.words d.set

module _ (f : Fabric) (sound : Sound f) where
  -- every find of the stop with k hops left is one
  abbrev EdgeSets : ℕ → Type 0
  EdgeSets k = (o : ℕ) (t : Set) → WellFormed f.words t → (d : Find) → Memᴰ d (ways_back f k o t) → EdgeSet f d

  pub found_edge_set : (k : ℕ) → EdgeSets k → (x : ℕ) (s : Set) → WellFormed f.words s
      → (d : Find) → Memᴰ d (found_at f (ways_back f k) x s) → EdgeSet f d
  unfolding found_at
  found_edge_set k ih x s ws d m = go (f.is_edge x) (f.link_from x) refl m
    where
      go : (b : Bool) (y : ℕ) → f.is_edge x ≡ b
          → Memᴰ d (cond b (record { port = x; path = []; set = s } ∷ []) (over_link f (ways_back f k) y s)) → EdgeSet f d
      go true y i m = subst (EdgeSet f) (sym (Memᴰ.eq_of_singleton m)) (record { edge = i; well_formed = ws })
      go false zero i m = absurd (Memᴰ.not-nil m)
      go false (suc y) i m = ih (suc y) s ws d m

  pub find_edge_set : (k : ℕ) → EdgeSets k
  unfolding ways_back
  find_edge_set zero o t wt d m = absurd (Memᴰ.not-nil m)
  find_edge_set (suc k) o t wt d m =
      let through = flat_map_member _ (entries_where f (λ e. eqb (out_port_of f e) o)) m in
      let e : ℕ = through.0 in
      let found = Memᴰ.of_map (later f e) (found_before f (ways_back f k) t e) through.2 in
      let part = flat_map_member _ (back_traced f e t) found.1 in
      let wp = back_traced_well_formed f sound e t wt part.0 part.1 in
      let is = found_edge_set k (find_edge_set k) (in_port_of f e) part.0 wp found.0 part.2 in
      subst (EdgeSet f) found.2 (record { edge = is.edge; well_formed = is.well_formed })
