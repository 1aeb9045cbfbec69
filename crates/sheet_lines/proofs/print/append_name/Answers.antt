-- `sheet_lines::print::append_name` meets its contract.
use native.Mathlib.Omega.{arith}
use lib.ListN.{length}
use Rattle.sheet_lines.specs.Appended.{text_of, text_then, text_most}
use Rattle.sheet_lines.specs.SheetText.{named}
use Rattle.sheet_lines.proofs.print.append_name.Goals as goal

pub returns : goal.returns
unfolding named
returns g c =
    let before = text_of 1 c.push.ensures (omega arith) in
    let name_of = text_of (length c.args.name.now) c.push_all.ensures (omega arith) in
    text_most (text_then (text_then before name_of) (text_of 1 c.push-2.ensures (omega arith))) (omega arith)
