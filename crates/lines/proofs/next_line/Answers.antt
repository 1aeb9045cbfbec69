-- `lines::next_line` meets its contract: the line was pending, or is read, or the input had ended before.
use Rattle.std.proofs.Common.{sym, ap, ◌∙◌}
use Rattle.lines.specs.Reading.{Reading}
use Rattle.lines.specs.ReadingLaws.{next_pending, next_ended, next_read}
use Rattle.lines.proofs.next_line.Goals as goal

pub returns-then-advance : goal.returns-then-advance
returns-then-advance g c =
    next_pending _ _ _ _ _ _ c.advance.result (rw c.clear.ensures at c.advance.ensures) c.if-advance.true

pub returns-then-input : goal.returns-then-input
returns-then-input g c =
    let more = ap (λ (p : Reading). p.more) (sym c.input.view_is) ∙ c.if-input.true in
    rw c.flush.ensures
    (next_read
    _ _ _ _ _ _ c.advance.result (rw c.clear.ensures at c.advance.ensures) c.if-advance.false _ _ _ _ more c.read_on.ensures)

pub returns : goal.returns
returns g c =
    let over = ap (λ (p : Reading). p.more) (sym c.input.view_is) ∙ c.if-input.false in
    rw c.len.ensures
    (next_ended _ _ _ _ _ _ c.advance.result (rw c.clear.ensures at c.advance.ensures) c.if-advance.false over)
