-- What was received so far has no line feed, and stands in the line.
use Rattle.lines.specs.ReadingLaws.{Going}
use Rattle.lines.proofs.read_on.Given as goal

abbrev pub invariant-loop : goal.invariant-loop
invariant-loop g l = Going (g.R.Read.remaining l.fn.reader) (g.R.Read.remaining l.reader) l.fn.line l.line
