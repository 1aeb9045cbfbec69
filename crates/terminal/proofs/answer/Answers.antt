-- `terminal::answer` meets its contract.
use mathlib.Core.Path.{sym, ap, ◌∙◌}
use mir.Syntax.{w32}
use Rattle.integers.specs.Machine.{back}
use Rattle.terminal.specs.Terminal.{answered, answered_to}
use Rattle.terminal.specs.Commands.{Write}
use Rattle.terminal.specs.TerminalLaws.{read_asked, write_asked, refused_asked}
use borrow.Author.Rules.{rules}
use Rattle.terminal.proofs.answer.Goals as goal

pub returns-in-Read : goal.returns-in-Read
unfolding answered answered_to
returns-in-Read c =
    let asks = rw c.in-Read.is at c.in-Ok.ensures in
    c.read.ensures ∙ ap (answered_to c.args.controller c.args.writer _) (sym (read_asked c.args.line.now c.in-Read.parameter asks))

pub returns-in-Write : goal.returns-in-Write
unfolding answered answered_to
returns-in-Write c =
    let n = c.in-Write.parameter in
    let v = c.in-Write.value in
    let asks = rw c.in-Write.is at c.in-Ok.ensures in
    let held = back w32 v (search rules) in
    c.write.ensures ∙
    ap (answered_to c.args.controller c.args.writer _) (ap (Write n) held ∙ sym (write_asked c.args.line.now n v asks))

pub returns-in-Err : goal.returns-in-Err
unfolding answered
returns-in-Err c =
    rw c.refused.ensures (refused_asked c.args.controller c.args.writer c.args.reply.now _ _ c.in-Err.ensures)
