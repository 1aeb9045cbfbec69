-- `terminal::write` meets its contract.
use mathlib.Core.Path.{refl, sym, ap, ◌∙◌}
use mir.Facts.{to_z-of_z}
use borrow.Author.Tests.{lt-ltb, le-ltb}
use Rattle.controller.specs.Answers.{Response, reply_of_verdict}
use Rattle.controller.specs.WriteLaws.{write_accepted_lem, write_refused}
use Rattle.terminal.specs.Terminal.{written_to}
use Rattle.terminal.proofs.write.Goals as goal

pub returns-then-reply-lt-REPLY_LENGTH : goal.returns-then-reply-lt-REPLY_LENGTH
unfolding written_to
returns-then-reply-lt-REPLY_LENGTH c = rw c.refused.ensures (simp (lt-ltb _ _ c.if-reply-lt-REPLY_LENGTH.true))

pub returns-in-Err : goal.returns-in-Err
unfolding written_to
returns-in-Err c =
    let is = rw (c.number.ensures.value, to_z-of_z c.ranges.value) at c.write-result.ensures.0 in
    let refusal = write_refused c.args.controller c.args.writer c.args.parameter c.args.value _
    (sym (ap (λ (r' : Response). r'.answer) is) ∙ ap reply_of_verdict c.in-Err.is) in
    rw c.refused-in-Err.ensures (simp (le-ltb _ _ c.if-reply-lt-REPLY_LENGTH.false, refusal))

pub returns-in-Ok : goal.returns-in-Ok
unfolding written_to
returns-in-Ok c =
    let is = rw (c.number.ensures.value, to_z-of_z c.ranges.value) at c.write-result.ensures.0 in
    let accepted = write_accepted_lem c.args.controller c.args.writer c.args.parameter c.args.value
    (sym (ap (λ (r' : Response). r'.answer) is) ∙ ap reply_of_verdict c.in-Ok.is) in
    let next = ap (λ (r' : Response). r'.next) is in
    simp (le-ltb _ _ c.if-reply-lt-REPLY_LENGTH.false, accepted) (c.show.ensures ∙ rw next refl)
