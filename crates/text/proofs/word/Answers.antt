-- `text::word` meets its contract.
use mathlib.Core.Bool.{true, false}
use native.Mathlib.Omega.{arith}
use lib.ListN.{drop, length-drop}
use Rattle.text.specs.Words.{leading_most}
use Rattle.text.proofs.word.Goals as goal

pub returns-clause-at_le_from : goal.returns-clause-at_le_from
returns-clause-at_le_from c =
    let line = c.args.line.now in
    let at = c.args.at in
    let from = c.run_end-from.result in
    let blanks = leading_most true (drop at line) in
    let others = leading_most false (drop from line) in
    let behind = length-drop at line in
    let end = length-drop from line in
    let first = c.run_end-from.ensures in
    let second = c.run_end-to.ensures in
    (omega arith, omega arith, omega arith)
