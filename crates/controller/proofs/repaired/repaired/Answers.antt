-- `controller::repaired::repaired` meets its contract.
use Rattle.parameters.specs.Repaired.{widest_output, setpoint_and_ratio_limited, repaired}
use Rattle.controller.proofs.repaired.repaired.Goals as goal

pub returns : goal.returns
unfolding repaired setpoint_and_ratio_limited widest_output
returns c = cc
