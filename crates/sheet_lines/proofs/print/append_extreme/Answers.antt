-- `sheet_lines::print::append_extreme` meets its contract.
use native.Mathlib.Omega.{arith}
use Rattle.sheet_lines.specs.Appended.{text_of, text_then, text_most}
use Rattle.sheet_lines.specs.SheetText.{extreme_text}
use Rattle.sheet_lines.proofs.print.append_extreme.Goals as goal

pub returns-in-None : goal.returns-in-None
unfolding extreme_text
returns-in-None g c =
    let none_of = text_of 4 c.push_all.ensures (omega arith) in
    let all = text_then c.append_name.ensures none_of in
    rw c.in-None.is (text_most all (omega arith))

pub returns-in-Some : goal.returns-in-Some
unfolding extreme_text
returns-in-Some g c =
    let all = text_then c.append_name.ensures c.append_occurrence.ensures in
    rw c.in-Some.is (text_most all (omega arith))
