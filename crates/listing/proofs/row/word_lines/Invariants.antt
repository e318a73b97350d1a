use Rattle.std.proofs.Common.{◌≡◌, ◌++◌, drop, vec_items}
use Rattle.listing.specs.Words.{word_lines}
use Rattle.listing.proofs.row.word_lines.Given as goal

-- written so far and still to come are the whole
abbrev pub invariant-loop-word : goal.invariant-loop-word
invariant-loop-word l = vec_items l.lines ++ word_lines (drop l.word-index l.words) ≡ word_lines l.words
