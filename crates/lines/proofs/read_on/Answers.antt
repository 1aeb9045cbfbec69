-- `lines::read_on` meets its contract.
use Rattle.lines.specs.ReadingLaws.{going_starts, going_stops, going_more, going_complete}
use Rattle.lines.proofs.read_on.Goals.{else-loop-test, then-loop-test+else-advance+then-not-input}
use Rattle.lines.proofs.read_on.Goals as goal

pub loop-init : goal.loop-init
loop-init g c = going_starts _ _

pub returns-then-advance : goal.returns-then-advance
returns-then-advance g c =
    going_complete
    _ _ _ _ _ c.loop.invariant c.refill.new.self c.refill.ensures _ _ c.advance.result c.advance.ensures c.if-advance.true

pub loop-preserved : goal.loop-preserved
loop-preserved g c =
    going_more
    _ _ _ _ _ c.loop.invariant c.refill.new.self c.refill.ensures _ _ c.advance.result c.advance.ensures c.if-advance.false

pub returns : goal.returns
returns g c =
    rw (c.len.ensures, c.finish.ensures) (going_stops _ _ _ _ (elim c.loop-test.branch [
      | else-loop-test w ↦ rw (w.reader-is, w.line-is) c.loop.invariant
      | then-loop-test+else-advance+then-not-input w ↦
          rw (w.reader-is, w.line-is)
          (going_more
          _ _ _ _ _ c.loop.invariant w.refill.new.self w.refill.ensures _ _ w.advance.result w.advance.ensures w.if-advance.false)
    ]))
