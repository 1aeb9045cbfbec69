-- `controller::restart::repaired_settings` meets its contract.
use Rattle.controller.specs.Restart.{repaired_settings}
use Rattle.controller.proofs.restart.repaired_settings.Goals as goal

pub returns : goal.returns
unfolding repaired_settings
returns c = simp (c.repaired-parameters.ensures, c.legal_user_bits-userbits.ensures) (simp c.parameters_in-decoded.ensures)
