-- `controller::op_of` meets its contract.
use mathlib.Core.Path.{◌≡◌, ap, ◌∙◌}
use Prim.Native.Nat.{ℕ, ◌/◌, ◌≤◌}
use native.Mathlib.Omega.{arith}
use lib.IntN.{nat_abs}
use mir.Facts.{to_z-of_z}
use Rattle.outputs.specs.OutputLaws.{stored_most}
use Rattle.controller.specs.Answers.{op_of}
use Rattle.controller.proofs.op_of.Goals.{After-unsigned_abs}
use Rattle.controller.proofs.op_of.Goals as goal

magnitude_is : (c : After-unsigned_abs) → c.unsigned_abs.result ≡ nat_abs c.args.output
magnitude_is c = c.unsigned_abs.ensures.value ∙ ap nat_abs (to_z-of_z c.ranges.output)

most : (c : After-unsigned_abs) → c.unsigned_abs.result / 65536 ≤ 9999
most c = omega (arith, magnitude_is c, stored_most c.args.output c.requires)

pub overflow_cast-result : goal.overflow_cast-result
overflow_cast-result c = omega (arith, most c)

pub returns : goal.returns
unfolding op_of
returns c = (ap (λ (n' : ℕ). n' / 65536) (magnitude_is c), most c)
