-- `setpoints::third_channel` meets its contract.
use Rattle.setpoints.specs.ComputationLaws.{range3}
use Rattle.setpoints.proofs.third_channel.Goals as goal

pub channel-requires : goal.channel-requires
channel-requires c = rw c.values.ensures.0 (range3 c.args.p c.values.ensures.1 c.accepted.inside.input.sample3 c.accepted.invariant.third)
