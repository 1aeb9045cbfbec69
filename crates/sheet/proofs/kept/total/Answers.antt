-- `sheet::kept::total` meets its contract.
use borrow.Author.Rules.{rules}
use Rattle.std.proofs.iter.runs.Sources.{sums}
use Rattle.sheet.proofs.kept.total.Goals as goal

pub sum-requires-clause-fits : goal.sum-requires-clause-fits
sum-requires-clause-fits c = search (rules, sums)
