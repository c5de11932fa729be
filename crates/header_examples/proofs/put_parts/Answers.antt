use Rattle.std.proofs.Common.{sym, ◌∙◌, rules}
use Rattle.headers.proofs.Positions.{array_words}
use Rattle.header_examples.proofs.Parts.{fewer, still}
use Rattle.header_examples.proofs.put_parts.Goals as goal

pub loop-b-init : goal.loop-b-init
loop-b-init g c = record {
  b_care = array_words 4 _ (search rules) (λ w. search rules);
  b_value = array_words 4 _ (search rules) (λ w. search rules);
  care = array_words 4 _ (search rules) (λ w. search rules);
  are = c.free-free.ensures;
}

pub loop-b-smaller : goal.loop-b-smaller
loop-b-smaller g c =
    fewer _ _ _ _ _ c.outside-later.result c.loop-b.invariant c.first_bit-bit.ensures c.like-rest.ensures
    (sym c.none_set.ensures ∙ c.loop-b-test.true)

pub loop-b-preserved : goal.loop-b-preserved
loop-b-preserved g c =
    still _ _ _ _ _ _ c.loop-b.invariant c.first_bit-bit.ensures c.like-rest.ensures c.outside-later.ensures
