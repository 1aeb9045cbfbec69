-- A session of the terminal answers a line as its contract says.
use Rattle.std.proofs.Common.{◌≤◌, ◌∙◌, ap, arith, length}
use Rattle.formatting.specs.Buffer.{append_all}
use Rattle.lines.specs.Lines.{with_room}
use Rattle.lines.specs.LinesLaws.{room_made, room_kept}
use Rattle.handheld.specs.Answers.{answer_line}
use Rattle.handheld.specs.AnswerLaws.{answer_fits}
use Rattle.handheld.specs.Sessions.{SessionOutcome}
use Rattle.handheld.proofs.SessionLineSession.answer.Goals as goal

pub returns : goal.returns
returns g c =
    let before = c.args.out.now in
    let o = rw c.as_slice.ensures at c.answer-result.ensures in
    let text = ap (λ (x : SessionOutcome). answer_line x.answer x.buffer) o in
    let output = rw c.room.ensures at c.append_answer.ensures in
    let short : length c.answer-result.new.reply ≤ 9 = omega (arith, c.answer-result.auto.reply) in
    record {
      session = ap (λ (x : SessionOutcome). x.session) o;
      output = output ∙ ap (append_all (with_room before)) text;
      whole = λ size.
          rw (← text)
          (output ∙
          answer_fits c.answer-result.result.answer c.answer-result.new.reply (with_room before) short (room_made before)
          (rw (room_kept before) size));
    }
