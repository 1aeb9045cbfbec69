-- `controller::Controller::settings` meets its contract.
use Rattle.outputs.specs.OutputLaws.{stored_back}
use Rattle.controller.specs.Save.{settings_of, settings_now}
use Rattle.controller.proofs.Controller.settings.Goals as goal

pub returns : goal.returns
unfolding settings_now settings_of
returns c = (
  rw (← c.self.view_is) (simp (c.op_of.ensures.0, c.values.ensures.0, stored_back c.self.invariant.stored)),
  rw c.values.ensures.0 c.self.invariant.legal,
)
