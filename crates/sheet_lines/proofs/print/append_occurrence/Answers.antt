-- `sheet_lines::print::append_occurrence` meets its contract.
use mathlib.Core.Path.{ap, ◌∙◌}
use native.Mathlib.Omega.{arith}
use mir.Syntax.{w32, w64}
use mir.Val.{SFits}
use borrow.Author.Rules.{rules}
use Rattle.integers.specs.Machine.{back}
use Rattle.numerals.specs.Numerals.{decimal}
use Rattle.formatting.specs.Buffer.{append_all}
use Rattle.sheet_lines.specs.Appended.{number_length, pv_length, text_of, text_then}
use Rattle.sheet_lines.specs.SheetText.{occurrence_text}
use Rattle.sheet_lines.proofs.print.append_occurrence.Goals as goal

pub returns : goal.returns
unfolding occurrence_text
returns g c =
    let first = c.args.first in
    let fits : SFits w32 first.pv = search rules in
    let e = back w64 c.from.result c.from.type_inv ∙ c.from.ensures ∙ back w32 first.pv fits.sfits in
    let pv_of = text_of 11 (c.push_signed.ensures ∙ ap (append_all _) (ap decimal e)) (pv_length first.pv fits.sfits) in
    let number_of_lem = text_of 10 c.push_decimal.ensures (number_length first.number (omega arith)) in
    text_then (text_then pv_of (text_of 1 c.push.ensures (omega arith))) number_of_lem
