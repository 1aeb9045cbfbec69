-- `sheet::kept::is_possible` meets its contract: where a bound is asked for, all tests before it held.
use Rattle.sheet.specs.ValidLaws.{bounded_greatest, bounded_least}
use Rattle.sheet.proofs.kept.is_possible.Goals.{then-is_occurrence, else-is_occurrence, then-is_occurrence-2, else-is_occurrence-2}
use Rattle.sheet.proofs.kept.is_possible.Goals.{then-in_order, else-in_order}
use Rattle.sheet.proofs.kept.is_possible.Goals as goal

pub sum_bound-requires-clause-bounded : goal.sum_bound-requires-clause-bounded
sum_bound-requires-clause-bounded c =
    elim c.if-is_occurrence-2.branch [
      | then-is_occurrence-2 w ↦ elim c.if-is_occurrence.branch [
        | then-is_occurrence v ↦ bounded_least c.args.scans c.args.greatest c.args.least (cc) (cc) (cc)
        | else-is_occurrence v ↦ cc
      ]
      | else-is_occurrence-2 w ↦ cc
    ]

pub sum_bound-requires-then-sum_bound-sum-clause-bounded : goal.sum_bound-requires-then-sum_bound-sum-clause-bounded
sum_bound-requires-then-sum_bound-sum-clause-bounded c =
    elim c.if-in_order.branch [
      | then-in_order u ↦ elim c.if-is_occurrence-2.branch [
        | then-is_occurrence-2 w ↦ elim c.if-is_occurrence.branch [
          | then-is_occurrence v ↦ bounded_greatest c.args.scans c.args.greatest c.args.least (cc) (cc) (cc)
          | else-is_occurrence v ↦ cc
        ]
        | else-is_occurrence-2 w ↦ cc
      ]
      | else-in_order u ↦ cc
    ]
