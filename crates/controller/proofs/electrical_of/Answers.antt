-- `controller::electrical_of` meets its contract.
use mathlib.Core.Path.{◌≡◌, sym, ap, ◌∙◌}
use mir.Facts.{to_z-of_z}
use Rattle.signals.specs.Signals.{switches_of}
use Rattle.signals.specs.declared.Switches.{Switches}
use Rattle.controller.specs.Answers.{op_of, electrical_of}
use Rattle.controller.proofs.electrical_of.Goals.{After-op_of-op, After-switches_of-s}
use Rattle.controller.proofs.electrical_of.Goals as goal

switch_is : (c : After-switches_of-s) → (switches_of c.args.sw).displayinversion ≡ c.switches_of-s.result.displayinversion
switch_is c = ap (λ (s' : Switches). s'.displayinversion) (sym c.switches_of-s.ensures)

op_is : (c : After-op_of-op) → c.op_of-op.result ≡ op_of c.args.output
op_is c = c.op_of-op.ensures.0 ∙ ap op_of (to_z-of_z c.ranges.output)

pub returns-then-s : goal.returns-then-s
unfolding electrical_of
returns-then-s c = simp
    (op_is (goal.at.returns-then-s c).After-op_of-op, switch_is (goal.at.returns-then-s c).After-switches_of-s ∙ c.if-s.true)

pub returns-else-s : goal.returns-else-s
unfolding electrical_of
returns-else-s c = simp
    (op_is (goal.at.returns-else-s c).After-op_of-op, switch_is (goal.at.returns-else-s c).After-switches_of-s ∙ c.if-s.false)
