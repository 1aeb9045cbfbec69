-- `terminal::command::parse` meets its contract.
use native.Mathlib.Omega.{arith}
use mir.Syntax.{w32}
use borrow.Author.Rules.{rules}
use Rattle.std.proofs.Common.{length, ltb-true}
use Rattle.integers.specs.Machine.{back}
use Rattle.terminal.specs.CommandLaws.{none_named, read_asked, other_asked, write_asked, no_value_asked}
use Rattle.terminal.specs.MnemonicLaws.{named_range, name_found}
use Rattle.terminal.proofs.command.parse.Goals.{in_default-line-via-then-line-lt2}
use Rattle.terminal.proofs.command.parse.Goals.{in_default-line-via-else-line-lt2+else-line-lt3+in_default-1}
use Rattle.terminal.proofs.command.parse.Goals as goal

pub returns-in_default : goal.returns-in_default
returns-in_default c = none_named c.args.line.now c.in_default.ensures

pub returns-in-len2 : goal.returns-in-len2
returns-in-len2 c = read_asked c.args.line.now c.in-Some.parameter c.in-Some.ensures (omega arith)

pub returns-in-Some-value : goal.returns-in-Some-value
returns-in-Some-value c =
    let v = c.in-Some-value.value in
    rw (back w32 v (search rules))
    (write_asked c.args.line.now c.in-Some.parameter c.in-Some.ensures (omega arith) (search rules) v
    (rw c.number.ensures.value at c.in-Some-value.ensures))

pub returns-in-None : goal.returns-in-None
returns-in-None c =
    no_value_asked c.args.line.now c.in-Some.parameter c.in-Some.ensures (omega arith) (search rules)
    (rw c.number.ensures.value at c.in-None.ensures)

pub returns-in_default-line : goal.returns-in_default-line
returns-in_default-line c =
    let r = named_range c.args.line.now _ (name_found _ _ c.in-Some.ensures) in
    elim c.in_default-line.branch [
      | in_default-line-via-then-line-lt2 w ↦ absurd (omega (arith, r.two, ltb-true (length c.args.line.now) 2 (cc)))
      | in_default-line-via-else-line-lt2+else-line-lt3+in_default-1 w ↦
          other_asked c.args.line.now c.in-Some.parameter c.in-Some.ensures (grind arith) (search rules)
    ]
