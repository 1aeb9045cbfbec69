-- `lines::answering::answer_each` meets its contract.
use Rattle.std.proofs.Common.{rules, arith}
use Rattle.lines.specs.Answering.{place, Over, none_yet, one_more, no_line, counted}
use Rattle.lines.proofs.answering.answer_each.Goals.{else-loop-test, then-loop-test+then-not-next_line}
use Rattle.lines.proofs.answering.answer_each.Goals as goal

pub loop-init : goal.loop-init
loop-init g c = none_yet

pub loop-preserved : goal.loop-preserved
loop-preserved g c =
    let asked = rw c.if-not-next_line.false at c.next_line.ensures in
    search (rules, one_more)

pub returns : goal.returns
returns g c =
    let p = place (g.R.Read.remaining c.loop.reader) c.loop.input c.loop.line c.loop.session c.loop.out in
    let after = place (g.R.Read.remaining c.loop-test.reader) c.loop-test.input c.loop-test.line c.loop.session c.loop-test.out in
    let over : Over g.S.LineSession.answers c.loop.counter p after =
    elim c.loop-test.branch [
      | else-loop-test w ↦
          rw (w.reader-is, w.line-is, w.input-is, w.out-is)
          (counted (omega (arith, w.loop-test.false, c.loop.auto.counter-end)))
      | then-loop-test+then-not-next_line w ↦
          rw (w.reader-is, w.line-is, w.input-is, w.out-is) (no_line (rw w.if-not-next_line.true at w.next_line.ensures))
    ] in
    record { count = c.loop.counter; before = p; lines = c.loop.invariant; after = after; over = over; end = search rules }
