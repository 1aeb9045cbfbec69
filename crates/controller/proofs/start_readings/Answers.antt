-- `controller::start_readings` meets its contract.
use mir.Facts.{to_z-of_z}
use mir.Syntax.{w64}
use Rattle.integers.specs.Machine.{back, difference_fits}
use Rattle.controller.specs.State.{start_readings}
use Rattle.setpoints.specs.ComputationLaws.{reading_small, low_reading, setpoint_reading}
use Rattle.controller.proofs.start_readings.Goals as goal

pub overflow_sub-er : goal.overflow_sub-er
overflow_sub-er c =
    simp (back w64 c.get-pv.result c.get-pv.type_inv, back w64 c.get-sp.result c.get-sp.type_inv)
    (difference_fits c.get-pv.result c.get-sp.result
    (rw c.get-pv.ensures.0 (reading_small _ (low_reading c.args.p c.get-pv.ensures.1)))
    (rw c.get-sp.ensures.0 (reading_small _ (setpoint_reading c.args.p c.get-sp.ensures.1))))

pub returns : goal.returns
unfolding start_readings
returns c =
    simp (to_z-of_z (overflow_sub-er c))
    (simp (back w64 c.get-sp.result c.get-sp.type_inv, back w64 c.get-pv.result c.get-pv.type_inv)
    (simp c.get-sp.ensures.0
    (simp c.get-pv.ensures.0)))
