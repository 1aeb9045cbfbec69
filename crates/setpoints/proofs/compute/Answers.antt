-- `setpoints::compute` meets its contract.
use mathlib.Core.Path.{◌≡◌}
use mir.Facts.{to_z-of_z}
use mir.Syntax.{w64}
use Rattle.integers.specs.Machine.{back, difference_fits}
use Rattle.local_setpoint.specs.LocalSetpointLaws.{ratio_inside, setpoint_inside, setpoint_limited}
use Rattle.setpoints.specs.ComputationLaws.{reading_small, setpoint_read, ratio_read, trim_reading, pv_reading}
use Rattle.setpoints.specs.ComputationLaws.{computed_legal}
use Rattle.setpoints.specs.Computation.{computed}
use Rattle.setpoints.specs.Setpoints.{setpoint_of}
use Rattle.setpoints.proofs.compute.Goals.{After-with-both}
use Rattle.setpoints.proofs.compute.Goals as goal

pub setpoint_in-unlimited-requires : goal.setpoint_in-unlimited-requires
setpoint_in-unlimited-requires c =
    let p = c.args.p in
    let legal = c.values-values.ensures.1 in
    simp (
      back w64 c.trim_of-trim.result c.trim_of-trim.type_inv,
      back w64 c.ratio_after-rs.result c.ratio_after-rs.type_inv,
      back w64 c.setpoint_after-sl.result c.setpoint_after-sl.type_inv,
    ) (
      rw c.setpoint_after-sl.ensures (reading_small _ (setpoint_read p legal (setpoint_inside p legal _ _ _ _))),
      rw c.ratio_after-rs.ensures (reading_small _ (ratio_read p legal (ratio_inside p legal _ _))),
      rw c.trim_of-trim.ensures (reading_small _ (trim_reading p legal _ c.input-input.ensures.1 _ _)),
    )

pub overflow_sub-er : goal.overflow_sub-er
overflow_sub-er c =
    let p = c.args.p in
    let legal = c.values-values.ensures.1 in
    simp (
      back w64 c.limited_setpoint-sp.result c.limited_setpoint-sp.type_inv,
      back w64 c.process_variable-pv.result c.process_variable-pv.type_inv,
    )
    (difference_fits c.process_variable-pv.result c.limited_setpoint-sp.result
    (rw c.process_variable-pv.ensures (reading_small _ (pv_reading p legal _ c.input-input.ensures.1)))
    (rw (rw c.values-values.ensures.0 at c.limited_setpoint-sp.ensures)
    (reading_small _ (setpoint_read p legal (setpoint_limited p legal _)))))

pub following_setpoint-to-requires : goal.following_setpoint-to-requires
following_setpoint-to-requires c =
    let p = c.args.p in
    let legal = c.values-values.ensures.1 in
    simp (back w64 c.limited_setpoint-sp.result c.limited_setpoint-sp.type_inv, back w64 c.trim_of-trim.result c.trim_of-trim.type_inv) (
      rw (rw c.values-values.ensures.0 at c.limited_setpoint-sp.ensures)
          (reading_small _ (setpoint_read p legal (setpoint_limited p legal _))),
      rw c.trim_of-trim.ensures (reading_small _ (trim_reading p legal _ c.input-input.ensures.1 _ _)),
    )

-- the parameters with SL and RS moved, in the definition's words
parameters_are : (c : After-with-both) →
    c.with-both.result ≡ (computed c.args.p c.args.s c.args.measuredpower c.args.mode c.args.accepted).parameters
unfolding computed setpoint_of
parameters_are c =
    simp (c.with-both.ensures, back w64 c.ratio_after-rs.result c.ratio_after-rs.type_inv)
    (simp (
      c.with-moved.ensures,
      c.values-values.ensures.0,
      back w64 c.following_setpoint-to.result c.following_setpoint-to.type_inv,
    )
    (simp (
      c.following_setpoint-to.ensures,
      back w64 c.limited_setpoint-sp.result c.limited_setpoint-sp.type_inv,
      back w64 c.setpoint_after-sl.result c.setpoint_after-sl.type_inv,
      back w64 c.trim_of-trim.result c.trim_of-trim.type_inv,
    )
    (simp (
      c.limited_setpoint-sp.ensures,
      c.values-values.ensures.0,
      back w64 c.setpoint_in-unlimited.result c.setpoint_in-unlimited.type_inv,
    )
    (simp (
      c.setpoint_in-unlimited.ensures,
      back w64 c.trim_of-trim.result c.trim_of-trim.type_inv,
      back w64 c.ratio_after-rs.result c.ratio_after-rs.type_inv,
      back w64 c.setpoint_after-sl.result c.setpoint_after-sl.type_inv,
    )
    (simp c.trim_of-trim.ensures
    (simp (c.ratio_after-rs.ensures, c.input-input.ensures.0)
    (simp (c.setpoint_after-sl.ensures, c.input-input.ensures.0, back w64 c.process_variable-pv.result c.process_variable-pv.type_inv)
    (simp c.process_variable-pv.ensures))))))))

pub legal-requires : goal.legal-requires
legal-requires c = rw (parameters_are c) (computed_legal c.args.p _ _ _ _ c.values-values.ensures.1)

pub returns : goal.returns
unfolding computed setpoint_of
returns c =
    simp (to_z-of_z (overflow_sub-er c.before.before.before.before.before))
    (simp (
      back w64 c.measured_power-mp.result c.measured_power-mp.type_inv,
      back w64 c.limited_setpoint-sp.result c.limited_setpoint-sp.type_inv,
      back w64 c.process_variable-pv.result c.process_variable-pv.type_inv,
    )
    (simp (c.legal.ensures, parameters_are c.before)
    (simp c.measured_power-mp.ensures
    (simp (
      c.limited_setpoint-sp.ensures,
      c.values-values.ensures.0,
      back w64 c.setpoint_in-unlimited.result c.setpoint_in-unlimited.type_inv,
    )
    (simp (
      c.setpoint_in-unlimited.ensures,
      back w64 c.trim_of-trim.result c.trim_of-trim.type_inv,
      back w64 c.ratio_after-rs.result c.ratio_after-rs.type_inv,
      back w64 c.setpoint_after-sl.result c.setpoint_after-sl.type_inv,
    )
    (simp c.trim_of-trim.ensures
    (simp (c.ratio_after-rs.ensures, c.input-input.ensures.0)
    (simp (c.setpoint_after-sl.ensures, c.input-input.ensures.0, back w64 c.process_variable-pv.result c.process_variable-pv.type_inv)
    (simp c.process_variable-pv.ensures)))))))))
