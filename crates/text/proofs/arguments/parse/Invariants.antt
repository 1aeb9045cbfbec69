-- `text::arguments::parse` meets its contract.
use Rattle.text.specs.ArgumentsLaws.{GatheringNumbers}
use Rattle.text.proofs.arguments.parse.Given as goal

abbrev pub invariant-loop-count : goal.invariant-loop-count
invariant-loop-count l = GatheringNumbers l.line l.start l.values l.count l.at
