-- `outputs::scanned::Scanned::adjusted` meets its contract.
use native.Mathlib.Omega.{arith}
use mathlib.Core.Path.{◌∙◌}
use mir.Facts.{to_z-of_z}
use mir.Syntax.{w64}
use Rattle.integers.specs.Machine.{back, sum_fits}
use Rattle.terms.specs.Fraction.{stored_units}
use Rattle.outputs.specs.Instruction.{changed, stored_arithmetic}
use Rattle.outputs.specs.OutputLaws.{stored_back, stored_small}
use Rattle.outputs.proofs.scanned.Scanned.adjusted.Goals as goal

pub overflow_add-result : goal.overflow_add-result
unfolding stored_units
overflow_add-result c =
    let stored = c.args.self.now.stored in
    simp (stored_back stored, back w64 c.units.result c.units.type_inv)
    (sum_fits _ _ (stored_small _ stored) (rw c.units.ensures (record { small = omega arith })))

pub overflow_add-result-in-Lower : goal.overflow_add-result-in-Lower
unfolding stored_units
overflow_add-result-in-Lower c =
    let lower = c.units-in-Lower in
    let stored = c.args.self.now.stored in
    simp (stored_back stored, back w64 lower.result lower.type_inv)
    (sum_fits _ _ (stored_small _ stored) (rw lower.ensures (record { small = omega arith })))

pub returns-in-Raise : goal.returns-in-Raise
unfolding changed stored_arithmetic
returns-in-Raise c =
    to_z-of_z (overflow_add-result c) ∙
    simp (stored_back c.args.self.now.stored, back w64 c.units.result c.units.type_inv, c.in-Raise.is) (simp c.units.ensures)

pub returns-in-Lower : goal.returns-in-Lower
unfolding changed stored_arithmetic
returns-in-Lower c =
    let lower = c.units-in-Lower in
    to_z-of_z (overflow_add-result-in-Lower c) ∙
    simp (stored_back c.args.self.now.stored, back w64 lower.result lower.type_inv, c.in-Lower.is) (simp lower.ensures)
