-- What the words of an answer say, 24 or 28, a verdict's or a run's, read back from the area: two words, the port, the hops, the header,
-- and the entries in travelling order.
use mathlib.Core.List.{List, [], ◌∷◌, ◌++◌}
use mathlib.Core.Path.{◌≡◌, refl, ap, ◌∙◌}
use Prim.Native.Nat.{ℕ, zero, suc, ◌+◌, ◌-◌, ◌*◌, ◌^◌, ◌≤◌, ◌<◌}
use native.Mathlib.Omega.{arith}
use lib.ListN.{length, take, drop, replicate, length-append, get_or-append}
use lib.Seq.{get_or-append-add}
use Rattle.headers.specs.Bits.{Words, word}
use Rattle.headers.specs.Sets.{Header}
use Rattle.answer.specs.Answer.{answer_words, Outcome, answered, sixteen}
use Rattle.answer.proofs.Sixteen.{sixteen_long, sixteen_used, sixteen_unused}
use Rattle.layout.specs.Words.{word_at, words_from}
use Rattle.fabric.specs.Demands.{words_written, said, port_said, hops_said, header_said, entries_said}
use Rattle.fabric.proofs.Said.{Fit, fit_append, fit_words, words_read, word_back}

-- ---- words of 32 bits

pub fit_zeros : (n : ℕ) → Fit (replicate n 0)
fit_zeros zero = tt
fit_zeros (suc n) = (omega arith, fit_zeros n)

fit_take : (n : ℕ) (l : List ℕ) → Fit l → Fit (take n l)
fit_take zero l f = tt
fit_take (suc n) [] f = tt
fit_take (suc n) (w ∷ l) f = (f.0, fit_take n l f.1)

fit_sixteen : (path : List ℕ) → Fit path → Fit (sixteen path)
unfolding sixteen
fit_sixteen path f = fit_take 16 (path ++ replicate 16 0) (fit_append path (replicate 16 0) f (fit_zeros 16))

pub said_word : (ws area : List ℕ) → Fit ws → (k : ℕ) → k < length ws → said (answered ws area) k ≡ word ws k
unfolding answered
said_word ws area fit k l = word_back ws (drop (4 * length ws) area) fit k l

-- ---- the words of an answer, of headers of n words

abbrev pub filled_by : ℕ → ℕ → ℕ → List ℕ → Header → List ℕ
filled_by a b p path h = a ∷ b ∷ p ∷ length path ∷ (h ++ sixteen path)

module _ (n a b p : ℕ) (path : List ℕ) (h : Header) (area : List ℕ) (first : a < 2 ^ 32) (second : b < 2 ^ 32) (port : p < 2 ^ 32)
    (short : length path ≤ 16) (entries : Fit path) (header : Words n h) where
  abbrev o : Outcome
  o = answered (filled_by a b p path h) area

  answer_fit : Fit (filled_by a b p path h)
  answer_fit = (
    first,
    (
      second,
      (
        port,
        (
          omega arith,
          fit_append h (sixteen path) (fit_words n h header) (fit_sixteen path entries),
        ),
      ),
    ),
  )

  answer_long : length (filled_by a b p path h) ≡ answer_words n
  answer_long = omega (arith, length-append h (sixteen path), sixteen_long path, header.long)

  answer_word : (k : ℕ) → k < answer_words n → said o k ≡ word (filled_by a b p path h) k
  answer_word k l = said_word (filled_by a b p path h) area answer_fit k (omega (arith, answer_long))

  first_said : said o 0 ≡ a
  first_said = answer_word 0 (omega arith)

  second_said : said o 1 ≡ b
  second_said = answer_word 1 (omega arith)

  port_said_lem : said o 2 ≡ p
  port_said_lem = answer_word 2 (omega arith)

  hops_said_lem : said o 3 ≡ length path
  hops_said_lem = answer_word 3 (omega arith)

  -- the words after the first four: the header, then the entries
  later_word : (k : ℕ) → 4 + k < answer_words n → said o (4 + k) ≡ word (h ++ sixteen path) k
  later_word k l =
      let e : 4 + k ≡ suc (suc (suc (suc k))) = omega arith in
      answer_word (4 + k) l ∙ ap (word (filled_by a b p path h)) e

  header_said_lem : header_said o n ≡ h
  header_said_lem = words_read n _ h header.long
      (λ w l. later_word w (omega arith) ∙ get_or-append h (sixteen path) 0 w (omega (arith, header.long)))

  place_word : (k : ℕ) → k < 16 → said o (4 + n + k) ≡ word (sixteen path) k
  place_word k l =
      ap (word_at o.area) (let e : 4 + n + k ≡ 4 + (length h + k) = omega (arith, header.long) in e)
      ∙ later_word (length h + k) (omega (arith, header.long))
      ∙ get_or-append-add h (sixteen path) k 0

  entries_said_lem : entries_said o n ≡ path
  entries_said_lem =
      ap (λ (m : ℕ). words_from m o.area (4 + n)) hops_said_lem
      ∙ words_read (length path) _ path refl (λ k l. place_word k (omega arith) ∙ sixteen_used path k l (omega arith))

  rest_said : (k : ℕ) → 4 + n + length path ≤ k → k < answer_words n → said o k ≡ 0
  rest_said k l m =
      let at : ℕ = k - (4 + n) in
      ap (word_at o.area) (let e : k ≡ 4 + n + at = omega arith in e)
      ∙ place_word at (omega arith)
      ∙ sixteen_unused path at (omega arith) (omega arith)

-- all of it at once
pub record Says (n a b p : ℕ) (path : List ℕ) (h : Header) (o : Outcome) : Type 0 where
  pub fills : words_written o ≡ answer_words n
  pub first : said o 0 ≡ a
  pub second : said o 1 ≡ b
  pub port : port_said o ≡ p
  pub hops : hops_said o ≡ length path
  pub header : header_said o n ≡ h
  pub entries : entries_said o n ≡ path
  pub rest : (k : ℕ) → 4 + n + length path ≤ k → k < answer_words n → said o k ≡ 0

pub answer_says : (n a b p : ℕ) (path : List ℕ) (h : Header) (area : List ℕ) → a < 2 ^ 32 → b < 2 ^ 32 → p < 2 ^ 32
    → length path ≤ 16 → Fit path → Words n h → Says n a b p path h (answered (filled_by a b p path h) area)
unfolding answered
answer_says n a b p path h area first second port short entries header = record {
  fills = omega (arith, answer_long n a b p path h area first second port short entries header);
  first = first_said n a b p path h area first second port short entries header;
  second = second_said n a b p path h area first second port short entries header;
  port = port_said_lem n a b p path h area first second port short entries header;
  hops = hops_said_lem n a b p path h area first second port short entries header;
  header = header_said_lem n a b p path h area first second port short entries header;
  entries = entries_said_lem n a b p path h area first second port short entries header;
  rest = rest_said n a b p path h area first second port short entries header;
}
