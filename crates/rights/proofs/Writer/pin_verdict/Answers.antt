-- `rights::Writer::pin_verdict` meets its contract.
use mathlib.Core.Bool.{not, ◌&&◌}
use mathlib.Core.Path.{◌≡◌, ◌∙◌}
use Rattle.signals.specs.Refusals.{refused_by}
use Rattle.signals.specs.Signals.{computer_pin}
use Rattle.rights.specs.Rights.{needs_pin, pin_tests}
use Rattle.rights.proofs.Writer.pin_verdict.Goals.{After-computer_pin-present}
use Rattle.rights.proofs.Writer.pin_verdict.Goals as goal

-- the test by what the code found
test_is : (c : After-computer_pin-present) → (needs_pin c.args.self && not (computer_pin c.args.pins))
    ≡ (c.needs_pin-needed.result && not c.computer_pin-present.result)
test_is c = simp (c.needs_pin-needed.ensures, c.computer_pin-present.ensures)

pub returns-then-needed-present : goal.returns-then-needed-present
unfolding refused_by pin_tests
returns-then-needed-present c = simp (test_is (goal.at.returns-then-needed-present c).After-computer_pin-present ∙ c.if-needed-present.true)

pub returns : goal.returns
unfolding refused_by pin_tests
returns c = simp (test_is (goal.at.returns c).After-computer_pin-present ∙ c.if-needed-present.false)
