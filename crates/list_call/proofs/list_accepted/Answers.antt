-- `list_accepted` meets its contract: the questions are asked in turn, and the words copied or written if there is room.
use mathlib.Core.Bool.{true}
use mathlib.Core.List.{List, ◌++◌}
use mathlib.Core.Path.{◌≡◌, refl, sym, ◌∙◌}
use Prim.Native.Nat.{ℕ, ◌*◌, ◌/◌, ◌^◌, ◌≤◌, ◌<◌}
use borrow.Author.Rules.{rules}
use lib.ListN.{length, take, drop, replicate, length-replicate}
use native.Mathlib.Omega.{arith}
use Rattle.headers.specs.Sets.{WellFormed}
use Rattle.answer.specs.Answer.{outcome}
use Rattle.layout.specs.Records.{width_in}
use Rattle.layout.specs.Shape.{Shape}
use Rattle.layout.specs.Versions.{shape_counted}
use Rattle.wide.specs.Forms.{wide_words, wide_of, narrowed, Fits}
use Rattle.wide.specs.declared.WideSet.{WideSet}
use Rattle.wide.proofs.Halves.{Fours}
use Rattle.wide.proofs.Arrays.{query_fours}
use Rattle.questions.specs.Questions.{first_no}
use Rattle.questions.specs.Read as Reads
use Rattle.questions.specs.Refusals.{number}
use Rattle.file.specs.Accepted.{Accepted}
use Rattle.forwarding.specs.Fabric.{Fabric}
use Rattle.forwarding.specs.Trace.{finds}
use Rattle.model.specs.Model.{fabric_in, wide_in}
use Rattle.events.specs.Play.{Played}
use Rattle.events.proofs.ListPlayed.{ListedAll}
use Rattle.events.specs.Pass.{begin, played_then}
use Rattle.queries.specs.Queries.{list_target, trace_questions}
use Rattle.calls.specs.Questions.{Query, query}
use Rattle.calls.specs.Codes.{code_of}
use Rattle.calls.specs.List.{list_asked, words_asked, list_pass_of, list_answer}
use Rattle.calls.proofs.Asking.{trace_yeses, some_number}
use Rattle.list_call.proofs.Copying.{words_copied}
use Rattle.calls.proofs.OwnWidth.{questions_own, own_formed, listed_own}
use Rattle.calls.proofs.Listing.{within_budget, few_words, all_listed, through_within, else_over}
use Rattle.calls.proofs.Listing.{first_answered, over_answered, no_room_answered, words_answered}
use Rattle.list_call.proofs.list_accepted.Goals as goal

-- ---- the moments of the call

-- the first questions got a yes
record Begun (f : List ℕ) (s : Shape) (set : WideSet) (q : Query) : Type 0 where
  ok : Accepted f s
  none : first_no (trace_questions (fabric_in f).words (list_target (fabric_in f) q.port) q.limit q.asked) ≡ 0
  target_right : list_target (fabric_in f) q.port ≡ true
  limit_right : (1 ≤ q.limit) × (q.limit ≤ 16)
  low_budget : q.budget < 2 ^ 32
  formed : WellFormed (fabric_in f).words q.asked
  -- a pass over what is asked is one over the file's own set
  own_pass : (area : List ℕ) (p : Played)
      → p ≡ list_pass_of (width_in f) (wide_in f) (query q.port q.limit q.budget (wide_of set)) area
      → p ≡ list_pass_of (fabric_in f).words (fabric_in f) q area

module _
    (f : List ℕ) (s : Shape) (ok : Accepted f s) (set : WideSet) (fits : Fits s.words (wide_of set)) (fours : Fours set)
    (target limit budget : ℕ)
    {no : ℕ} (said : no ≡ first_no (trace_questions wide_words (list_target (fabric_in f) target) limit (wide_of set)))
  where
    abbrev F : Fabric
    F = fabric_in f

    abbrev q : Query
    q = query target limit budget (narrowed s.words (wide_of set))

    -- the first questions were asked
    asked_no : no ≡ first_no (trace_questions F.words (list_target F target) limit q.asked)
    asked_no = said ∙ questions_own f s ok set fits fours (list_target F target) limit

    first_refused : (no ≡ 0 → ⊥) → (area : List ℕ) → outcome no area ≡ list_answer f q (Reads.Fabric s) area
    first_refused some area = first_answered f q area no asked_no some

    begun : no ≡ 0 → budget < 2 ^ 32 → Begun f s set q
    begun zero low =
        -- the target is right, the limit 1 to 16, and what is asked clean
        let yes = trace_yeses F.words (list_target F target) limit q.asked (sym asked_no ∙ zero) in
        let formed = own_formed f s ok set fits fours yes.2 in
        record {
          ok = ok;
          none = sym asked_no ∙ zero;
          target_right = yes.0;
          limit_right = yes.1;
          low_budget = low;
          formed = formed;
          own_pass = λ area p e. e ∙ listed_own f s ok set fits fours formed target limit budget area;
        }

-- the bytes for the first pass
abbrev own₀ : List ℕ
own₀ = replicate 16384 0

-- after the first pass, which was played as p
module _ {f : List ℕ} {s : Shape} {set : WideSet} {q : Query} (x : Begun f s set q) (area : List ℕ) (p : Played)
    (is : p ≡ list_pass_of (width_in f) (wide_in f) (query q.port q.limit q.budget (wide_of set)) own₀)
  where
    -- the words that are asked for
    abbrev ws : List ℕ
    ws = words_asked (fabric_in f) q

    first_pass : p ≡ list_pass_of (fabric_in f).words (fabric_in f) q own₀
    first_pass = x.own_pass own₀ p is

    over_refused : (p.status ≡ 0 → ⊥) → outcome 13 area ≡ list_answer f q (Reads.Fabric s) area
    over_refused over =
        over_answered f q area x.none (else_over f s x.ok q x.limit_right.1 x.low_budget x.formed own₀ p first_pass over)

    module _ (through : p.status ≡ 0) where
      within : within_budget f q ≡ true
      within = through_within f s x.ok q x.limit_right.1 x.low_budget x.formed own₀ p first_pass through

      few : length ws < 2 ^ 46
      few = few_words f s x.ok q x.limit_right.1 x.low_budget x.formed within

      listed : ListedAll (begin own₀) (finds (list_asked (fabric_in f) q)) p
      listed = all_listed f s x.ok q x.limit_right.1 x.low_budget x.formed own₀ p first_pass within

      words_are : p.world.words ≡ length ws
      words_are = omega (arith, listed.counted)

      few_counted : p.world.words < 2 ^ 46
      few_counted = omega (arith, few, words_are)

      room_refused : length area / 4 < p.world.words → outcome 12 area ≡ list_answer f q (Reads.Fabric s) area
      room_refused short = no_room_answered f q area x.none within words_are short

      module _ (enough : p.world.words ≤ length area / 4) where
        copied_answered : {last : List ℕ} → p.world.words ≤ 4096
            → last ≡ take (4 * p.world.words) p.world.area ++ drop (4 * p.world.words) area
            → outcome (p.world.words * 256) last ≡ list_answer f q (Reads.Fabric s) area
        copied_answered {last = last} held copied =
            words_answered f q area x.none within words_are enough
            (words_copied ws own₀ area words_are (listed.written (omega (arith, words_are, length-replicate {A = ℕ} 16384 0))) copied)

        -- the second pass writes to the area
        traced_answered : (again : Played)
            → again ≡ list_pass_of (width_in f) (wide_in f) (query q.port q.limit q.budget (wide_of set)) area
            → outcome (p.world.words * 256) again.world.area ≡ list_answer f q (Reads.Fabric s) area
        traced_answered again second =
            words_answered f q area x.none within words_are enough
            ((all_listed f s x.ok q x.limit_right.1 x.low_budget x.formed area again
            (x.own_pass area again second) within).written (omega (arith, enough, words_are)))

-- ---- the needs

pub returns-in_err-trace_asked-clause-answers : goal.returns-in_err-trace_asked-clause-answers
returns-in_err-trace_asked-clause-answers c =
    let a = c.args in
    let ok : Accepted a.edges.now.fabric.file.now (shape_counted a.edges.now.fabric.counts) = search rules in
    let fours = query_fours a.query c.well_formed.1.1.0 in
    let r = c.in_err-trace_asked.field-0.0 in
    let is : code_of c.from_residual.result ≡ number r = search rules in
    first_refused a.edges.now.fabric.file.now (shape_counted a.edges.now.fabric.counts) ok a.query.asked c.requires fours
    a.query.port a.query.limit a.query.budget
    {no = code_of c.from_residual.result} (is ∙ search rules) (some_number r is) a.area.now

pub list_pass-counted-requires-clause-target : goal.list_pass-counted-requires-clause-target
list_pass-counted-requires-clause-target c =
    let a = c.args in
    let ok : Accepted a.edges.now.fabric.file.now (shape_counted a.edges.now.fabric.counts) = search rules in
    let fours = query_fours a.query c.well_formed.1.1.0 in
    let x =
    begun a.edges.now.fabric.file.now (shape_counted a.edges.now.fabric.counts) ok a.query.asked c.requires fours
    a.query.port a.query.limit a.query.budget
    {no = 0} (search rules) refl (search rules) in
    x.target_right

pub returns-then-is_err-clause-answers : goal.returns-then-is_err-clause-answers
returns-then-is_err-clause-answers c =
    let a = c.args in
    let ok : Accepted a.edges.now.fabric.file.now (shape_counted a.edges.now.fabric.counts) = search rules in
    let fours = query_fours a.query c.well_formed.1.1.0 in
    let x =
    begun a.edges.now.fabric.file.now (shape_counted a.edges.now.fabric.counts) ok a.query.asked c.requires fours
    a.query.port a.query.limit a.query.budget
    {no = 0} (search rules) refl (search rules) in
    let p = played_then c.list_pass-counted.result c.list_pass-counted.new.area in
    let first = c.list_pass-counted.ensures in
    over_refused x a.area.now p first (search rules)

pub returns-then-room-words-clause-answers : goal.returns-then-room-words-clause-answers
returns-then-room-words-clause-answers c =
    let a = c.args in
    let ok : Accepted a.edges.now.fabric.file.now (shape_counted a.edges.now.fabric.counts) = search rules in
    let fours = query_fours a.query c.well_formed.1.1.0 in
    let x =
    begun a.edges.now.fabric.file.now (shape_counted a.edges.now.fabric.counts) ok a.query.asked c.requires fours
    a.query.port a.query.limit a.query.budget
    {no = 0} (search rules) refl (search rules) in
    let p = played_then c.list_pass-counted.result c.list_pass-counted.new.area in
    let first = c.list_pass-counted.ensures in
    room_refused x a.area.now p first (search rules) c.if-room-words.true

pub returns-then-words-clause-answers : goal.returns-then-words-clause-answers
returns-then-words-clause-answers c =
    let a = c.args in
    let ok : Accepted a.edges.now.fabric.file.now (shape_counted a.edges.now.fabric.counts) = search rules in
    let fours = query_fours a.query c.well_formed.1.1.0 in
    let x =
    begun a.edges.now.fabric.file.now (shape_counted a.edges.now.fabric.counts) ok a.query.asked c.requires fours
    a.query.port a.query.limit a.query.budget
    {no = 0} (search rules) refl (search rules) in
    let p = played_then c.list_pass-counted.result c.list_pass-counted.new.area in
    let first = c.list_pass-counted.ensures in
    copied_answered x a.area.now p first (search rules) c.if-room-words.false c.if-words.true c.copy_words.ensures

pub returns-clause-answers : goal.returns-clause-answers
returns-clause-answers c =
    let a = c.args in
    let ok : Accepted a.edges.now.fabric.file.now (shape_counted a.edges.now.fabric.counts) = search rules in
    let fours = query_fours a.query c.well_formed.1.1.0 in
    let x =
    begun a.edges.now.fabric.file.now (shape_counted a.edges.now.fabric.counts) ok a.query.asked c.requires fours
    a.query.port a.query.limit a.query.budget
    {no = 0} (search rules) refl (search rules) in
    let p = played_then c.list_pass-counted.result c.list_pass-counted.new.area in
    let first = c.list_pass-counted.ensures in
    traced_answered x a.area.now p first (search rules) c.if-room-words.false
    (played_then c.list_pass.result c.list_pass.new.area) c.list_pass.ensures

pub returns-clause-few : goal.returns-clause-few
returns-clause-few c =
    let a = c.args in
    let ok : Accepted a.edges.now.fabric.file.now (shape_counted a.edges.now.fabric.counts) = search rules in
    let fours = query_fours a.query c.well_formed.1.1.0 in
    let x =
    begun a.edges.now.fabric.file.now (shape_counted a.edges.now.fabric.counts) ok a.query.asked c.requires fours
    a.query.port a.query.limit a.query.budget
    {no = 0} (search rules) refl (search rules) in
    let p = played_then c.list_pass-counted.result c.list_pass-counted.new.area in
    let first = c.list_pass-counted.ensures in
    let few = few_counted x a.area.now p first (search rules) in
    omega arith
