-- `put_word` meets its contract: the word's four bytes are copied into their place.
use mathlib.Core.Path.{◌∙◌}
use Rattle.answer.specs.Answer.{bytes_of}
use Rattle.answer.proofs.Written.{copied_word}
use Rattle.answer.proofs.put_word.Goals as goal

pub returns : goal.returns
unfolding bytes_of
returns c = copied_word c.args.area.now _ c.args.at c.args.w (c.copy_from_slice.ensures.after ∙ c.to_le_bytes.ensures)
