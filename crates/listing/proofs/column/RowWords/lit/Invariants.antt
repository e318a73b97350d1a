use Rattle.std.proofs.Common.{◌≡◌, ◌-◌}
use Rattle.listing.specs.Looks.{lit_lines, lines_from}
use Rattle.listing.specs.Summary.{summary}
use Rattle.listing.proofs.column.RowWords.lit.Given as goal

-- the lines below have been seen
abbrev pub invariant-loop-line : goal.invariant-loop-line
invariant-loop-line l = l.lit ≡ summary (lit_lines (lines_from l.line (l.self.composition.now.lines - l.line) l.width l.column l.self.words.now))
