-- `outputs::scanned::Scanned::change_of_difference` meets its contract.
use mathlib.Core.Path.{◌≡◌, ap, ◌∙◌}
use native.Mathlib.Omega.{arith}
use lib.IntN.{◌-ℤ◌}
use mir.Facts.{to_z-of_z}
use mir.Syntax.{w64}
use mir.Val.{to_z, of_z}
use Rattle.integers.specs.Machine.{back, difference_fits}
use Rattle.setpoints.specs.ComputationLaws.{reading_back}
use Rattle.outputs.specs.ControlDifference.{control_difference, earlier_setpoint, change_of_difference}
use Rattle.outputs.specs.OutputLaws.{earlier_reading, control_difference_size, change_most, small_of}
use Rattle.outputs.proofs.scanned.Scanned.change_of_difference.Goals.{After-control_difference-earlier, After-control_difference-now}
use Rattle.outputs.proofs.scanned.Scanned.change_of_difference.Goals.{After-earlier_setpoint-sp}
use Rattle.outputs.proofs.scanned.Scanned.change_of_difference.Goals as goal

earlier_is : (c : After-earlier_setpoint-sp) → let a = c.args.self.now in
    to_z w64 (of_z w64 c.earlier_setpoint-sp.result)
    ≡ earlier_setpoint a.context.switches a.context.mode a.readings c.past-past.result
earlier_is c = back w64 c.earlier_setpoint-sp.result c.earlier_setpoint-sp.type_inv ∙ c.earlier_setpoint-sp.ensures

now_is : (c : After-control_difference-now) → let a = c.args.self.now in
    to_z w64 (of_z w64 c.control_difference-now.result)
    ≡ control_difference a.context.switches.inverseoutput a.readings.sp a.readings.pv
now_is c =
    let read = c.args.self.now.read in
    back w64 c.control_difference-now.result c.control_difference-now.type_inv ∙ c.control_difference-now.ensures ∙
    simp (reading_back read.sp_read, reading_back read.pv_read)

then_is : (c : After-control_difference-earlier) → let a = c.args.self.now in
    let past = c.past-past.result in
    to_z w64 (of_z w64 c.control_difference-earlier.result)
    ≡ control_difference a.context.switches.inverseoutput
    (earlier_setpoint a.context.switches a.context.mode a.readings past) past.pv
then_is c =
    back w64 c.control_difference-earlier.result c.control_difference-earlier.type_inv ∙ c.control_difference-earlier.ensures ∙
    simp (earlier_is c.before.before, reading_back c.past-past.ensures.1.pv_read)

pub overflow_sub-result : goal.overflow_sub-result
overflow_sub-result c =
    let a = c.args.self.now in
    let past = c.past-past.ensures.1 in
    simp (now_is (goal.at.overflow_sub-result c).After-control_difference-now, then_is c)
    (difference_fits _ _
    (small_of (control_difference_size a.context.switches.inverseoutput a.read.sp_read a.read.pv_read) (omega arith))
    (small_of (control_difference_size a.context.switches.inverseoutput
    (earlier_reading a.context.switches a.context.mode a.readings c.past-past.result a.read past) past.pv_read) (omega arith)))

change_is : (c : After-control_difference-earlier) → let a = c.args.self.now in
    to_z w64 (of_z w64 (to_z w64 (of_z w64 c.control_difference-now.result) -ℤ to_z w64 (of_z w64 c.control_difference-earlier.result)))
    ≡ change_of_difference a.context.switches a.context.mode a.readings c.past-past.result
unfolding change_of_difference
change_is c =
    to_z-of_z (overflow_sub-result c) ∙
    simp (now_is (goal.at.overflow_sub-result c).After-control_difference-now, then_is c)

pub returns-clause-value : goal.returns-clause-value
returns-clause-value c =
    let a = c.args.self.now in
    change_is (goal.at.returns-clause-value c).After-control_difference-earlier ∙
    ap (change_of_difference a.context.switches a.context.mode a.readings) c.past-past.ensures.0

pub returns-clause-size : goal.returns-clause-size
returns-clause-size c =
    rw (change_is (goal.at.returns-clause-size c).After-control_difference-earlier)
    (change_most _ _ _ _ c.args.self.now.read c.past-past.ensures.1)
