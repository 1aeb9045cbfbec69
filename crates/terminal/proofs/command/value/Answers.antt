-- `terminal::command::value` meets its contract. Five digits fit 32 bits.
use mathlib.Core.Path.{sym, ap, ◌∙◌}
use native.Mathlib.Omega.{arith}
use mir.Syntax.{w32, w64}
use borrow.Author.Rules.{rules}
use Rattle.std.specs.Prelude.{Some}
use Rattle.integers.specs.Machine.{back, cast_back}
use Rattle.integers.specs.Operations.{number}
use Rattle.terminal.specs.CommandLaws.{word_value, no_word, decimal_value, no_decimal}
use Rattle.terminal.proofs.command.value.Goals as goal

pub returns-in_err-word : goal.returns-in_err-word
returns-in_err-word c =
    c.from_residual.ensures ∙ no_word c.args.number c.args.bytes.now (sym c.if-is_word.ensures) c.in_err-word.ensures

pub returns-then-is_word : goal.returns-then-is_word
returns-then-is_word c =
    ap Some (cast_back w32 c.in_ok-word.word (search rules)) ∙
    word_value c.args.number c.args.bytes.now (sym c.if-is_word.ensures) _ c.in_ok-word.ensures

pub returns-in_err-decimal : goal.returns-in_err-decimal
returns-in_err-decimal c =
    c.from_residual-in_err-decimal.ensures ∙
    no_decimal c.args.number c.args.bytes.now (sym c.if-is_word.ensures) c.in_err-decimal.ensures

pub overflow_cast-result-2 : goal.overflow_cast-result-2
overflow_cast-result-2 c =
    let v = c.in_ok-decimal.decimal in
    let small = decimal_value c.args.number c.args.bytes.now (sym c.if-is_word.ensures) v c.in_ok-decimal.ensures in
    rw (back w64 v (search rules)) (record { sfits = omega (arith, small.1, number v) })

pub returns : goal.returns
returns c =
    let v = c.in_ok-decimal.decimal in
    let small = decimal_value c.args.number c.args.bytes.now (sym c.if-is_word.ensures) v c.in_ok-decimal.ensures in
    rw (back w64 v (search rules), back w32 v (omega (arith, small.1, number v))) small.0
