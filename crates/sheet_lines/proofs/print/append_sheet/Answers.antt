-- `sheet_lines::print::append_sheet` meets its contract.
use mathlib.Core.Path.{◌∙◌, ap}
use native.Mathlib.Omega.{arith}
use mir.Syntax.{w64}
use Rattle.integers.specs.Machine.{back}
use Rattle.sheet_lines.specs.Appended.{text_of, text_then, text_is}
use Rattle.sheet_lines.specs.SheetText.{sheet_text, number_text, sum_text}
use Rattle.sheet_lines.proofs.print.append_sheet.Goals as goal

pub returns : goal.returns
unfolding sheet_text
returns g c =
    let scans-of = text_is c.append_number.ensures (ap (number_text _) c.scans.ensures) in
    let alarms-of = text_is c.append_number-2.ensures (ap (number_text _) c.scans_with_alarm.ensures) in
    let sumpv-of = text_is c.append_sum.ensures (ap (sum_text _) (back w64 c.sum_pv.result c.sum_pv.type_inv ∙ c.sum_pv.ensures)) in
    let sumop-of = text_is c.append_sum-2.ensures (ap (sum_text _) (back w64 c.sum_op.result c.sum_op.type_inv ∙ c.sum_op.ensures)) in
    let two = text_then (text_of 5 c.push_all.ensures (omega arith)) scans-of in
    let three = text_then two c.append_counts.ensures in
    let four = text_then three c.append_extremes.ensures in
    text_then (text_then (text_then four alarms-of) sumpv-of) sumop-of
