-- `controller_calls::filled::is_unchanged` meets its contract. The bytes passed are filled, so what holds of those
-- behind holds of all.
use native.Mathlib.Omega.{arith}
use mathlib.Core.Path.{refl, sym, ◌∙◌}
use Rattle.controller_calls.specs.CallLaws.{filled_more, filled_fails, filled_ends}
use Rattle.controller_calls.proofs.filled.is_unchanged.Goals as goal

pub loop-i-init : goal.loop-i-init
loop-i-init c = refl

pub returns-then-buffer-i : goal.returns-then-buffer-i
returns-then-buffer-i c =
    let l = c.loop-i in
    sym (filled_fails _ l.i (omega arith) c.if-buffer-i.true) ∙ l.invariant

pub loop-i-preserved : goal.loop-i-preserved
loop-i-preserved c =
    let l = c.loop-i in
    filled_more _ l.i (omega arith) c.if-buffer-i.false ∙ l.invariant

pub returns : goal.returns
returns c =
    let l = c.loop-i in
    sym (filled_ends _ l.i (omega arith)) ∙ l.invariant
