-- `outputs::scanned::tuning_of` meets its contract.
use mathlib.Core.Path.{refl, ◌≡◌}
use mir.Facts.{to_z-of_z}
use mir.Syntax.{w64}
use Rattle.integers.specs.Machine.{back, difference_fits}
use Rattle.setpoints.specs.ComputationLaws.{reading_small, low_reading, high_reading}
use Rattle.outputs.specs.ControlDifference.{tuning_of}
use Rattle.outputs.specs.OutputLaws.{tuning_range}
use Rattle.outputs.proofs.scanned.tuning_of.Goals.{After-get-3, After-unsigned_abs-4}
use Rattle.outputs.proofs.scanned.tuning_of.Goals as goal

pub overflow_sub-get : goal.overflow_sub-get
overflow_sub-get c =
    simp (back w64 c.get-2.result c.get-2.type_inv, back w64 c.get-3.result c.get-3.type_inv)
    (difference_fits c.get-2.result c.get-3.result
    (rw c.get-2.ensures.0 (reading_small _ (high_reading c.args.p c.get-2.ensures.1)))
    (rw c.get-3.ensures.0 (reading_small _ (low_reading c.args.p c.get-3.ensures.1))))

-- the fields of the tuning that is returned
fields_are : (c : After-unsigned_abs-4) →
    record {
      xp = c.unsigned_abs.result;
      span = c.unsigned_abs-2.result;
      ti = c.unsigned_abs-3.result;
      td = c.unsigned_abs-4.result;
      minutes = c.args.s.minutes;
      inverted = c.args.s.inverseoutput;
    } ≡ tuning_of c.args.p c.args.s
unfolding tuning_of
fields_are c =
    simp (c.unsigned_abs.ensures.value, c.unsigned_abs-2.ensures.value, c.unsigned_abs-3.ensures.value, c.unsigned_abs-4.ensures.value)
    (simp (
      to_z-of_z (overflow_sub-get (goal.at.returns c).After-get-3),
      back w64 c.get.result c.get.type_inv,
      back w64 c.get-4.result c.get-4.type_inv,
      back w64 c.get-5.result c.get-5.type_inv,
    )
    (simp (back w64 c.get-2.result c.get-2.type_inv, back w64 c.get-3.result c.get-3.type_inv)
    (simp (c.get.ensures.0, c.get-2.ensures.0, c.get-3.ensures.0, c.get-4.ensures.0, c.get-5.ensures.0) refl)))

pub invariant_of-result : goal.invariant_of-result
invariant_of-result c =
    rw (fields_are (goal.at.invariant_of-result c).After-unsigned_abs-4)
    (tuning_range c.args.p c.args.s c.get.ensures.1)

pub returns : goal.returns
returns c = fields_are (goal.at.returns c).After-unsigned_abs-4
