-- `terminal::reply::whole` meets its contract.
use mathlib.Core.Path.{◌≡◌, ◌∙◌}
use mir.Facts.{to_z-of_z}
use mir.Syntax.{w64}
use mir.Val.{to_z, of_z}
use Rattle.std.proofs.Common.{replicate, arith}
use Rattle.integers.specs.Machine.{back}
use Rattle.formatting.specs.Buffer.{buffer}
use Rattle.formatting.specs.Laws.{then}
use Rattle.terminal.specs.TerminalLaws.{reply_written, reply_length}
use Rattle.terminal.proofs.reply.whole.Goals as goal

pub returns : goal.returns
returns c =
    let o = buffer (replicate 9 0) 0 in
    let first = rw (c.letter.ensures, c.new-text.ensures) at c.push.ensures in
    let second = rw c.letter-2.ensures at c.push-2.ensures in
    let value_is : to_z w64 (of_z w64 c.from.result) ≡ c.args.value =
    back w64 c.from.result c.from.type_inv ∙ c.from.ensures ∙ to_z-of_z c.ranges.value in
    let displayed = rw (c.number.ensures.value, value_is) at c.append_value.ensures in
    let whole = then o _ _ (then o _ _ (then o _ _ first second) c.push-3.ensures) displayed in
    let number = c.args.parameter in
    let value = c.args.value in (
      (reply_written number value c.number.ensures.range.0 c.number.ensures.range.1 _ _ c.requires (omega arith) whole).1,
      reply_length number value c.number.ensures.range.0 c.number.ensures.range.1 c.requires,
    )
