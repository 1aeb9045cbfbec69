-- `terminal::show` meets its contract.
use mathlib.Core.Path.{◌≡◌, refl, sym, ap, ◌∙◌}
use mir.Syntax.{w32}
use mir.Val.{to_z, of_z}
use Rattle.integers.specs.Machine.{back}
use Rattle.controller.specs.Answers.{reply_of_read}
use Rattle.terminal.specs.Terminal.{present_value, replied}
use Rattle.terminal.specs.TerminalLaws.{value_read, never_refused, value_few}
use borrow.Author.Rules.{rules}
use Rattle.terminal.proofs.show.Goals.{In-Ok}
use Rattle.terminal.proofs.show.Goals as goal

-- the value that was read is the present one
displayed : (k : In-Ok) → let a = k.args in
    to_z w32 (of_z w32 k.in-Ok.value) ≡ present_value a.controller a.parameter
displayed k =
    back w32 k.in-Ok.value (search rules) ∙
    value_read k.args.parameter k.number.ensures.range.0 k.number.ensures.range.1 k.args.controller k.in-Ok.value
    (ap reply_of_read (sym k.in-Ok.is) ∙ rw k.number.ensures.value at k.read-present.ensures)

pub write-requires : goal.write-requires
write-requires c =
    let few = value_few c.args.controller c.args.parameter c.valid.ensures in
    ((λ e. rw (displayed (goal.at.write-requires c).In-Ok) (few e)), search rules)

pub returns-in-Ok : goal.returns-in-Ok
unfolding replied
returns-in-Ok c =
    let e = c.write.ensures in
    rw (e.0, e.1, displayed (goal.at.returns-in-Ok c).In-Ok) refl

pub returns-in-Err : goal.returns-in-Err
unfolding replied
returns-in-Err c =
    absurd (never_refused c.args.parameter c.number.ensures.range.0 c.number.ensures.range.1 c.args.controller _
    (ap reply_of_read (sym c.in-Err.is) ∙ rw c.number.ensures.value at c.read-present.ensures))
