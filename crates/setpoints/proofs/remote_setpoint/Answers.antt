-- `setpoints::remote_setpoint` meets its contract.
use mathlib.Core.Path.{◌∙◌}
use mir.Facts.{to_z-of_z}
use mir.Syntax.{w64}
use Rattle.setpoints.specs.ComputationLaws.{range1, reading_small, scaled_reading}
use Rattle.integers.specs.Machine.{back, sum_fits}
use Rattle.setpoints.specs.Setpoints.{remote_setpoint}
use Rattle.setpoints.proofs.remote_setpoint.Goals as goal

pub channel-requires : goal.channel-requires
channel-requires c =
    rw c.values.ensures.0 (range1 c.args.p c.values.ensures.1 c.accepted.inside.input.sample2 c.accepted.invariant.second)

pub overflow_add-result : goal.overflow_add-result
overflow_add-result c =
    let range = range1 c.args.p c.values.ensures.1 c.accepted.inside.input.sample2 c.accepted.invariant.second in
    simp (back w64 c.channel.result c.channel.type_inv, to_z-of_z c.ranges.trim)
    (sum_fits c.channel.result c.args.trim
    (rw (c.channel.ensures, c.values.ensures.0) (reading_small _ (scaled_reading range))) c.requires)

pub returns : goal.returns
unfolding remote_setpoint
returns c =
    rw (← c.accepted.view_is)
    (to_z-of_z (overflow_add-result c) ∙
    simp (back w64 c.channel.result c.channel.type_inv, to_z-of_z c.ranges.trim) (simp (c.channel.ensures, c.values.ensures.0)))
