-- `outputs::scanned::Scanned::with_terms` meets its contract.
use mathlib.Core.Path.{◌≡◌, ◌∙◌}
use native.Mathlib.Omega.{arith}
use lib.IntN.{◌+ℤ◌}
use mir.Facts.{to_z-of_z}
use mir.Syntax.{w64}
use mir.Val.{to_z, of_z}
use Rattle.integers.specs.Machine.{back, sum_fits}
use Rattle.setpoints.specs.ComputationLaws.{reading_back}
use Rattle.outputs.specs.Instruction.{changed, stored_arithmetic}
use Rattle.outputs.specs.Outputs.{terms_of}
use Rattle.outputs.specs.OutputLaws.{stored_back, stored_size, sized, small_of, sum_most}
use Rattle.outputs.proofs.scanned.Scanned.with_terms.Goals.{After-integral, After-proportional}
use Rattle.outputs.proofs.scanned.Scanned.with_terms.Goals as goal

pub overflow_add-result : goal.overflow_add-result
overflow_add-result c =
    let stored = c.args.self.now.stored in
    let proportional = c.proportional in
    simp (stored_back stored, back w64 proportional.result proportional.type_inv)
    (sum_fits _ _ (small_of (stored_size stored) (omega arith)) (small_of (sized _ proportional.ensures.1) (omega arith)))

one_is : (c : After-proportional) →
    to_z w64 (of_z w64 (to_z w64 (of_z w64 c.args.self.now.output) +ℤ to_z w64 (of_z w64 c.proportional.result)))
    ≡ c.args.self.now.output +ℤ c.proportional.result
one_is c =
    to_z-of_z (overflow_add-result c) ∙
    simp (stored_back c.args.self.now.stored, back w64 c.proportional.result c.proportional.type_inv)

pub overflow_add-result-2 : goal.overflow_add-result-2
overflow_add-result-2 c =
    let sum = sum_most (stored_size c.args.self.now.stored) (sized _ c.proportional.ensures.1) in
    simp (one_is c.before, back w64 c.integral.result c.integral.type_inv)
    (sum_fits _ _ (small_of sum (omega arith)) (small_of (sized _ c.integral.ensures.1) (omega arith)))

two_is : (c : After-integral) →
    to_z w64 (of_z w64 (to_z w64 (of_z w64 (to_z w64 (of_z w64 c.args.self.now.output) +ℤ to_z w64 (of_z w64 c.proportional.result)))
    +ℤ to_z w64 (of_z w64 c.integral.result))) ≡ (c.args.self.now.output +ℤ c.proportional.result) +ℤ c.integral.result
two_is c =
    to_z-of_z (overflow_add-result-2 c) ∙ simp (one_is c.before, back w64 c.integral.result c.integral.type_inv)

pub overflow_add-result-3 : goal.overflow_add-result-3
overflow_add-result-3 c =
    let sum = sum_most (stored_size c.args.self.now.stored) (sized _ c.proportional.ensures.1) in
    let sum2 = sum_most sum (sized _ c.integral.ensures.1) in
    simp (two_is c.before, back w64 c.derivative.result c.derivative.type_inv)
    (sum_fits _ _ (small_of sum2 (omega arith)) (small_of (sized _ c.derivative.ensures.1) (omega arith)))

pub returns : goal.returns
unfolding changed stored_arithmetic terms_of
returns c =
    let read = c.args.self.now.read in
    to_z-of_z (overflow_add-result-3 c) ∙
    simp (two_is c.before, back w64 c.derivative.result c.derivative.type_inv)
    (simp (c.proportional.ensures.0, c.integral.ensures.0, c.derivative.ensures.0)
    (simp (
      c.tuning_of-t.ensures,
      back w64 c.change_of_difference-change.result c.change_of_difference-change.type_inv,
      back w64 c.control_difference-c.result c.control_difference-c.type_inv,
      back w64 c.second_difference-d.result c.second_difference-d.type_inv,
    )
    (simp (
      c.change_of_difference-change.ensures.value,
      c.control_difference-c.ensures,
      c.second_difference-d.ensures.value,
    )
    (simp (reading_back read.sp_read, reading_back read.pv_read)))))
