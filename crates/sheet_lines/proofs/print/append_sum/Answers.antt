-- `sheet_lines::print::append_sum` meets its contract.
use mathlib.Core.Path.{ap, ◌∙◌}
use native.Mathlib.Omega.{arith}
use mir.Facts.{to_z-of_z}
use Rattle.numerals.specs.Numerals.{decimal}
use Rattle.formatting.specs.Buffer.{append_all}
use Rattle.sheet_lines.specs.Appended.{sum_length, text_of, text_then, text_most}
use Rattle.sheet_lines.specs.SheetText.{sum_text}
use Rattle.sheet_lines.proofs.print.append_sum.Goals as goal

pub returns : goal.returns
unfolding sum_text
returns g c =
    let fits = c.ranges.sum in
    let e = c.push_signed.ensures ∙ ap (append_all _) (ap decimal (to_z-of_z fits)) in
    let sum_of = text_of 20 e (sum_length c.args.sum fits.sfits) in
    text_most (text_then c.append_name.ensures sum_of) (omega arith)
