-- `controller_calls::perform` meets its contract.
use mathlib.Core.Path.{◌≡◌, refl, ap, ◌∙◌}
use mir.Syntax.{w32}
use borrow.Author.Rules.{rules}
use Rattle.integers.specs.Machine.{back}
use Rattle.signals.specs.Clock.{ClockReading}
use Rattle.controller.specs.declared.Controller.{Controller}
use Rattle.controller_calls.specs.Calls.{reply_to, unchanged_with, performed, buffer_after}
use Rattle.replies.specs.declared.Reply.TheVariants.{Accepted, Clock}
use Rattle.controller_calls.specs.declared.Step.{Step}
use Rattle.controller_calls.proofs.perform.Goals.{Start}
use Rattle.controller_calls.proofs.perform.Goals as goal

-- that a step is what the call gives
abbrev IsStep : Start → Step → Type 0
IsStep s step = step ≡ performed s.args.controller s.args.call s.args.buffer.now

pub returns-in-Fresh : goal.returns-in-Fresh
unfolding performed buffer_after
returns-in-Fresh c =
    let e = c.in-Fresh.is in
    let r : IsStep (goal.at.returns-in-Fresh c).Start (unchanged_with c.fresh.result Accepted) =
    rw e (ap (λ (x : Controller). unchanged_with x Accepted) c.fresh.ensures.0) in
    (r, rw e refl)

pub returns-in-Scan : goal.returns-in-Scan
unfolding performed buffer_after
returns-in-Scan c =
    let e = c.in-Scan.is in
    let r : IsStep (goal.at.returns-in-Scan c).Start c.scan.result =
    rw e c.scan.ensures in
    (r, rw e refl)

pub returns-in-Write : goal.returns-in-Write
unfolding performed buffer_after
returns-in-Write c =
    let e = c.in-Write.is in
    let r : IsStep (goal.at.returns-in-Write c).Start c.write.result =
    rw e (rw (back w32 c.in-Write.value (search rules)) at c.write.ensures) in
    (r, rw e refl)

pub returns-in-Access : goal.returns-in-Access
unfolding performed buffer_after
returns-in-Access c =
    let e = c.in-Access.is in
    let r : IsStep (goal.at.returns-in-Access c).Start c.access.result =
    rw e c.access.ensures in
    (r, rw e refl)

pub returns-in-Read : goal.returns-in-Read
unfolding performed buffer_after
returns-in-Read c =
    let e = c.in-Read.is in
    let r : IsStep (goal.at.returns-in-Read c).Start (unchanged_with c.args.controller c.reply_to_read.result) =
    rw e (ap (unchanged_with c.args.controller) (c.reply_to_read.ensures ∙ ap reply_to c.read-answer.ensures)) in
    (r, rw e refl)

pub returns-in-Restart : goal.returns-in-Restart
unfolding performed buffer_after
returns-in-Restart c =
    let e = c.in-Restart.is in
    let r : IsStep (goal.at.returns-in-Restart c).Start c.restart.result =
    rw e c.restart.ensures in
    (r, rw e refl)

pub returns-in-Save : goal.returns-in-Save
unfolding performed buffer_after
returns-in-Save c =
    let e = c.in-Save.is in
    let r : IsStep (goal.at.returns-in-Save c).Start (unchanged_with c.args.controller c.save-reply.result) =
    rw e (ap (unchanged_with c.args.controller) c.save-reply.ensures.0) in
    (r, rw e c.save-reply.ensures.1)

pub returns-in-Line : goal.returns-in-Line
unfolding performed buffer_after
returns-in-Line c =
    let e = c.in-Line.is in
    let r : IsStep (goal.at.returns-in-Line c).Start c.perform.result =
    rw e c.perform.ensures.0 in
    (r, rw e c.perform.ensures.1)

pub returns-in-Clock : goal.returns-in-Clock
unfolding performed buffer_after
returns-in-Clock c =
    let e = c.in-Clock.is in
    let r : IsStep (goal.at.returns-in-Clock c).Start (unchanged_with c.args.controller (Clock c.last_reading.result)) =
    rw e (ap (λ (reading : ClockReading). unchanged_with c.args.controller (Clock reading)) c.last_reading.ensures) in
    (r, rw e refl)
