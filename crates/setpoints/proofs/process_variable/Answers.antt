-- `setpoints::process_variable` meets its contract.
use Rattle.setpoints.specs.ComputationLaws.{range1}
use Rattle.setpoints.proofs.process_variable.Goals as goal

pub channel-requires : goal.channel-requires
channel-requires c =
    rw c.values.ensures.0 (range1 c.args.p c.values.ensures.1 c.first_sample-sample.result c.first_sample-sample.ensures.1)
