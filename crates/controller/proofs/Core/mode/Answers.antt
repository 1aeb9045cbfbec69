-- `controller::Core::mode` meets its contract.
use Rattle.controller.specs.Scan.{mode_now}
use Rattle.controller.proofs.Core.mode.Goals as goal

pub returns : goal.returns
unfolding mode_now
returns c = simp (c.mode.ensures, c.switches_of.ensures)
