-- `controller::Core::setpoint_verdict` meets its contract.
use mathlib.Core.List.{[], ◌∷◌}
use mathlib.Core.Path.{◌≡◌}
use Rattle.signals.specs.Refusals.{refused_by}
use Rattle.controller.specs.Write.{setpoint_tests}
use Rattle.controller.proofs.Core.setpoint_verdict.Goals.{After-sets_setpoint}
use Rattle.controller.proofs.Core.setpoint_verdict.Goals as goal

-- the test, by what the code found
test_is : (c : After-sets_setpoint) → setpoint_tests c.args.self.now ≡ (c.sets_setpoint.result, 8) ∷ []
unfolding setpoint_tests
test_is c = simp c.sets_setpoint.ensures (simp (c.mode.ensures, c.switches_of-switches.ensures))

pub returns-then-sets_setpoint : goal.returns-then-sets_setpoint
unfolding refused_by
returns-then-sets_setpoint c = simp (test_is (goal.at.returns-then-sets_setpoint c).After-sets_setpoint, c.if-sets_setpoint.true)

pub returns : goal.returns
unfolding refused_by
returns c = simp (test_is (goal.at.returns c).After-sets_setpoint, c.if-sets_setpoint.false)
