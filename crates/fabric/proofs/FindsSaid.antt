-- The words of finds, read by their layout (A13), are those finds. Assumes nothing.
use mathlib.Core.Bool.{Bool, true, ◌&&◌, cond}
use mathlib.Core.List.{List, [], ◌∷◌, ◌++◌, map, append_assoc, Memᴰ}
use mathlib.Core.Option
use mathlib.Core.Option.{Option, some, none}
use mathlib.Core.Path.{◌≡◌, refl, sym, ap, ap₂, ◌∙◌}
use Prim.Native.Nat.{ℕ, zero, suc, ◌+◌, ◌*◌, ◌^◌, ◌≤◌, ◌<◌}
use native.Mathlib.Omega.{arith}
use borrow.Author.Tests.{eq-eqb, le-leb}
use lib.Dec.{eqb, leb}
use lib.ListN.{length, drop, length-append, length-map, get_or-append}
use lib.Seq.{drop_at, get_or-append-add}
use Rattle.headers.specs.Bits.{Words, word, words, every}
use Rattle.headers.proofs.Positions.{every_of}
use Rattle.layout.specs.Words.{bits}
use Rattle.layout.specs.Records.{set_words}
use Rattle.forwarding.specs.Trace.{Find}
use Rattle.forwarding.proofs.Lists.{All}
use Rattle.events.specs.Play.{find_words, list_words}
use Rattle.fabric.specs.Demands.{find_size, find_read, is_find, finds_read}
use Rattle.fabric.proofs.Said.{Fit, fit_append, fit_words, words_read}

-- what the words of a find have room for
pub record Sayable (n : ℕ) (d : Find) : Type 0 where
  pub port : d.port < 2 ^ 12
  pub hops : length d.path < 2 ^ 16
  pub entries : All (λ e. e < 2 ^ 28) d.path
  pub care : Words n d.set.care
  pub value : Words n d.set.value

-- ---- fields of a word

first_kind : (n p : ℕ) → n < 2 ^ 16 → p < 2 ^ 12 → bits 31 28 (6 * 2 ^ 28 + n * 2 ^ 12 + p) ≡ 6
first_kind n p a b = omega arith

first_hops : (n p : ℕ) → n < 2 ^ 16 → p < 2 ^ 12 → bits 27 12 (6 * 2 ^ 28 + n * 2 ^ 12 + p) ≡ n
first_hops n p a b = omega arith

first_port : (n p : ℕ) → n < 2 ^ 16 → p < 2 ^ 12 → bits 11 0 (6 * 2 ^ 28 + n * 2 ^ 12 + p) ≡ p
first_port n p a b = omega arith

entry_kind : (e : ℕ) → e < 2 ^ 28 → bits 31 28 (7 * 2 ^ 28 + e) ≡ 7
entry_kind e l = omega arith

entry_number : (e : ℕ) → e < 2 ^ 28 → bits 27 0 (7 * 2 ^ 28 + e) ≡ e
entry_number e l = omega arith

-- ---- words by their place

-- the words of entries
abbrev entry_words : List ℕ → List ℕ
entry_words path = map (λ e. 7 * 2 ^ 28 + e) path

entries_long : (path : List ℕ) → length (entry_words path) ≡ length path
entries_long path = length-map path (λ (e : ℕ). 7 * 2 ^ 28 + e)

all_at : (P : ℕ → Type 0) (l : List ℕ) → All P l → (k : ℕ) → k < length l → P (word l k)
all_at P [] a k l = absurd (omega arith)
all_at P (x ∷ xs) a zero l = a.0
all_at P (x ∷ xs) a (suc k) l = all_at P xs a.1 k (omega arith)

entry_word : (path rest : List ℕ) (k : ℕ) → k < length path → word (entry_words path ++ rest) k ≡ 7 * 2 ^ 28 + word path k
entry_word [] rest k l = absurd (omega arith)
entry_word (e ∷ path) rest zero l = refl
entry_word (e ∷ path) rest (suc k) l = entry_word path rest k (omega arith)

-- ---- one find

module _ (n : ℕ) (d : Find) (s : Sayable n d) (rest : List ℕ) where
  abbrev hops : ℕ
  hops = length d.path

  abbrev first : ℕ
  first = 6 * 2 ^ 28 + hops * 2 ^ 12 + d.port

  abbrev later : List ℕ
  later = entry_words d.path ++ (d.set.care ++ (d.set.value ++ rest))

  find_said : find_words d ++ rest ≡ first ∷ later
  unfolding find_words
  find_said =
      ap (λ (l : List ℕ). first ∷ l)
      (append_assoc (entry_words d.path) (d.set.care ++ d.set.value) rest
      ∙ ap (λ (l : List ℕ). entry_words d.path ++ l) (append_assoc d.set.care d.set.value rest))

  hops_said_lem : bits 27 12 first ≡ hops
  hops_said_lem = first_hops hops d.port s.hops s.port

  -- a word after the first
  later_word : (k : ℕ) → word (first ∷ later) (1 + k) ≡ word later k
  later_word k = ap (word (first ∷ later)) (let e : 1 + k ≡ suc k = omega arith in e)

  entry_said : (k : ℕ) → k < hops → word (first ∷ later) (1 + k) ≡ 7 * 2 ^ 28 + word d.path k
  entry_said k l = later_word k ∙ entry_word d.path _ k l

  low : (k : ℕ) → k < hops → word d.path k < 2 ^ 28
  low k l = all_at _ d.path s.entries k l

  set_word : (w : ℕ) → word (first ∷ later) (1 + hops + w) ≡ word (d.set.care ++ (d.set.value ++ rest)) w
  set_word w =
      ap (word (first ∷ later))
      (let e : 1 + hops + w ≡ 1 + (length (entry_words d.path) + w) = omega (arith, entries_long d.path) in e)
      ∙ later_word (length (entry_words d.path) + w)
      ∙ get_or-append-add (entry_words d.path) _ w 0

  care_said : (w : ℕ) → w < n → word (first ∷ later) (1 + hops + w) ≡ word d.set.care w
  care_said w l = set_word w ∙ get_or-append d.set.care (d.set.value ++ rest) 0 w (omega (arith, s.care.long))

  value_said : (w : ℕ) → w < n → word (first ∷ later) (1 + hops + n + w) ≡ word d.set.value w
  value_said w l =
      ap (word (first ∷ later))
      (let e : 1 + hops + n + w ≡ 1 + hops + (length d.set.care + w) = omega (arith, s.care.long) in e)
      ∙ set_word (length d.set.care + w)
      ∙ get_or-append-add d.set.care _ w 0
      ∙ get_or-append d.set.value rest 0 w (omega (arith, s.value.long))

  -- the find read, with as many hops as are said
  abbrev read_by : ℕ → Find
  read_by m = record {
    port = bits 11 0 first;
    path = words m (λ k. bits 27 0 (word (first ∷ later) (1 + k)));
    set = record {
      care = words n (λ w. word (first ∷ later) (1 + m + w));
      value = words n (λ w. word (first ∷ later) (1 + m + n + w));
    };
  }

  find_back : find_read n (first ∷ later) ≡ d
  find_back = ap read_by hops_said_lem ∙ λ i. record {
    port = first_port hops d.port s.hops s.port i;
    path = words_read hops _ d.path refl (λ k l. ap (bits 27 0) (entry_said k l) ∙ entry_number (word d.path k) (low k l)) i;
    set = record {
      care = words_read n _ d.set.care s.care.long care_said i;
      value = words_read n _ d.set.value s.value.long value_said i;
    };
  }

  words_long : length (first ∷ later) ≡ 1 + hops + set_words n + length rest
  words_long = omega (
    arith,
    length-append (entry_words d.path) (d.set.care ++ (d.set.value ++ rest)),
    length-append d.set.care (d.set.value ++ rest),
    length-append d.set.value rest,
    entries_long d.path,
    s.care.long,
    s.value.long,
  )

  abbrev is_by : ℕ → Bool
  is_by m =
      eqb (bits 31 28 first) 6 && every m (λ k. eqb (bits 31 28 (word (first ∷ later) (1 + k))) 7)
      && leb (1 + m + set_words n) (length (first ∷ later))

  is_find_lem : is_find n (first ∷ later) ≡ true
  is_find_lem =
      ap is_by hops_said_lem
      ∙ ap₂ ◌&&◌
      (ap₂ ◌&&◌ (eq-eqb _ 6 (first_kind hops d.port s.hops s.port))
      (every_of hops _ (λ k l. eq-eqb _ 7 (ap (bits 31 28) (entry_said k l) ∙ entry_kind (word d.path k) (low k l)))))
      (le-leb (1 + hops + set_words n) (length (first ∷ later)) (omega (arith, words_long)))

  after_find : drop (find_size n (first ∷ later)) (first ∷ later) ≡ rest
  after_find =
      ap (λ (l : List ℕ). drop (find_size n (first ∷ later)) l) (sym find_said)
      ∙ drop_at (find_words d) rest (find_size n (first ∷ later))
      (omega (arith, length-append (find_words d) rest, ap length find_said, words_long, hops_said_lem))

  -- so the find is read, and then what is left
  pub read_one : (k : ℕ) → finds_read n (suc k) (find_words d ++ rest) ≡ Option.map (λ l. d ∷ l) (finds_read n k rest)
  unfolding finds_read
  read_one k =
      ap (finds_read n (suc k)) find_said
      ∙ ap (λ (b : Bool). cond b (Option.map (λ l. find_read n (first ∷ later) ∷ l) left_then) none) is_find_lem
      ∙ ap₂ (λ (x : Find) (l : List ℕ). Option.map (λ m. x ∷ m) (finds_read n k l)) find_back after_find
    where
      left_then : Option (List Find)
      left_then = finds_read n k (drop (find_size n (first ∷ later)) (first ∷ later))

  pub some_word : 1 ≤ length (find_words d)
  unfolding find_words
  some_word = omega arith

-- ---- all finds

abbrev pub AllSayable : ℕ → List Find → Type 0
AllSayable n ds = (d : Find) → Memᴰ d ds → Sayable n d

pub finds_back : (n : ℕ) (ds : List Find) → AllSayable n ds → (k : ℕ) → length (list_words ds) ≤ k
    → finds_read n k (list_words ds) ≡ some ds
unfolding list_words finds_read
finds_back n [] s zero l = refl
finds_back n [] s (suc k) l = refl
finds_back n (d ∷ ds) s zero l =
    let h = s d (Memᴰ.head refl) in
    absurd (omega (arith, length-append (find_words d) (list_words ds), some_word n d h []))
finds_back n (d ∷ ds) s (suc k) l =
    let h = s d (Memᴰ.head refl) in
    read_one n d h (list_words ds) k
    ∙ ap (Option.map (λ l. d ∷ l)) (finds_back n ds (λ x m. s x (Memᴰ.tail m)) k
    (omega (arith, length-append (find_words d) (list_words ds), some_word n d h [])))

-- ---- their words have 32 bits

fit_entries : (path : List ℕ) → All (λ e. e < 2 ^ 28) path → Fit (entry_words path)
fit_entries [] a = tt
fit_entries (e ∷ path) a = (let l : e < 2 ^ 28 = a.0 in omega arith, fit_entries path a.1)

fit_find : (n : ℕ) (d : Find) → Sayable n d → Fit (find_words d)
unfolding find_words
fit_find n d s = (
  omega (arith, s.hops, s.port),
  fit_append (entry_words d.path) _ (fit_entries d.path s.entries)
      (fit_append d.set.care d.set.value (fit_words n _ s.care) (fit_words n _ s.value)),
)

pub fit_finds : (n : ℕ) (ds : List Find) → AllSayable n ds → Fit (list_words ds)
unfolding list_words
fit_finds n [] s = tt
fit_finds n (d ∷ ds) s =
    fit_append (find_words d) (list_words ds) (fit_find n d (s d (Memᴰ.head refl))) (fit_finds n ds (λ x m. s x (Memᴰ.tail m)))
