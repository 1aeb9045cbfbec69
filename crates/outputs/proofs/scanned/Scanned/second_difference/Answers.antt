-- `outputs::scanned::Scanned::second_difference` meets its contract.
use mathlib.Core.Path.{◌≡◌}
use native.Mathlib.Omega.{arith}
use lib.IntN.{ℤ, pos, ◌-ℤ◌, ◌*ℤ◌}
use mir.Syntax.{w64}
use mir.Val.{to_z, of_z}
use Rattle.integers.specs.Machine.{back}
use Rattle.integers.specs.Operations.{number, difference, product}
use Rattle.setpoints.specs.ComputationLaws.{InReadingRange, reading_back}
use Rattle.outputs.specs.ControlDifference.{second_difference}
use Rattle.outputs.specs.OutputLaws.{second_most}
use Rattle.outputs.proofs.scanned.Scanned.second_difference.Goals as goal

module _ (pv z : ℤ) (known : InReadingRange pv) (read : InReadingRange z) where
  double_is : to_z w64 (of_z w64 (pos 2 *ℤ z)) ≡ pos 2 *ℤ z
  double_is = back w64 (pos 2 *ℤ z) (omega (arith, product (pos 2) z, number z, number (pos 2 *ℤ z), read.reading))

  first_is : to_z w64 (of_z w64 (pv -ℤ pos 2 *ℤ z)) ≡ pv -ℤ pos 2 *ℤ z
  first_is =
      let double = pos 2 *ℤ z in
      back w64 (pv -ℤ double)
      (omega (arith, difference pv double, product (pos 2) z, number pv, number z, number (pv -ℤ double), known.reading, read.reading))

pub returns-clause-value : goal.returns-clause-value
unfolding second_difference
returns-clause-value c =
    let r = c.args.self.now.readings in
    let read = c.args.self.now.read in
    let past = c.past-past.ensures.1 in
    let second = second_difference r c.past-past.result in
    rw (← c.past-past.ensures.0)
    (simp (reading_back read.pv_read, reading_back past.pv_read, reading_back past.before_read)
    (simp (double_is _ _ read.pv_read past.pv_read)
    (simp (first_is _ _ read.pv_read past.pv_read)
    (back w64 second (omega (arith, second_most _ _ read past, number second))))))
