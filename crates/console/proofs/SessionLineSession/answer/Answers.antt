-- A session of the console answers a line as its contract says.
use Rattle.std.proofs.Common.{◌≤◌, ◌∙◌, ap, arith, length}
use Rattle.lines.specs.Lines.{with_room}
use Rattle.lines.specs.LinesLaws.{room_made, room_kept}
use Rattle.console.specs.Lines.{line_saved, line_step}
use Rattle.replies.specs.ReplyLaws.{reply_fits}
use Rattle.console.specs.declared.session.SessionStep.{SessionStep}
use Rattle.console.proofs.SessionLineSession.answer.Goals as goal

pub returns : goal.returns
returns g c =
    let line = c.args.line.now in
    let session = c.args.self.now in
    let before = c.args.out.now in
    let step = line_step session line in
    let parsed = c.parse-command.ensures in
    let result = rw (parsed.command, parsed.bytes_after) at c.perform-step.ensures in
    let reply = ap (λ (s : SessionStep). s.reply) result.step in
    let sheet = ap (λ (s : SessionStep). s.session.sheet.sheet) result.step in
    let short : length (line_saved session line) ≤ 346 =
    rw (← result.buffer) (omega (arith, c.perform-step.auto.buffer, c.parse-command.auto.bytes)) in
    let o = rw (c.room.ensures, reply, sheet, result.buffer) at c.append_reply.ensures.0 in
    record {
      session = ap (λ (s : SessionStep). s.session) result.step;
      output = o;
      whole = λ size.
          o ∙
          reply_fits step.reply (line_saved session line) step.session.sheet.sheet (with_room before)
          (rw (reply, sheet) at c.append_reply.ensures.1) short (room_made before) (rw (room_kept before) size);
    }
