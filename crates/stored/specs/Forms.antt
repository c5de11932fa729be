-- What stands in some bytes, as the code has it: a set, or a rewrite, of eight words.
use Rattle.headers.specs.Sets.{Set, Rewrite}
use Rattle.layout.specs.Versions.{header_words}
use Rattle.wide.specs.Forms.{stored_at, rewrite_stored}
use Rattle.stored.specs.declared.StoredSet.{StoredSet}

abbrev pub set_there : StoredSet → Set
set_there s = stored_at (header_words s.version) s.bytes.now s.at

abbrev pub rewrite_there : StoredSet → Rewrite
rewrite_there s = rewrite_stored (header_words s.version) s.bytes.now s.at
