-- `setpoints::ratio_setpoint` meets its contract.
use mathlib.Core.Path.{◌≡◌, ◌∙◌}
use lib.IntN.{nat_abs, ◌+ℤ◌}
use native.Mathlib.Omega.{arith}
use mir.Val.{to_z, of_z}
use mir.Facts.{to_z-of_z}
use mir.Syntax.{w64}
use Rattle.integers.specs.Limit.{limited}
use Rattle.integers.specs.Machine.{back, sum_fits}
use Rattle.scaling.specs.Scale.{scaled}
use Rattle.parameters.specs.Table.{H2, L2, HR, LR}
use Rattle.setpoints.specs.ComputationLaws.{range2, ratio_range, quotient_small, bias_small}
use Rattle.setpoints.specs.Setpoints.{ratio_setpoint}
use Rattle.setpoints.proofs.ratio_setpoint.Goals.{After-channel-q, After-unsigned_abs-s}
use Rattle.setpoints.proofs.ratio_setpoint.Goals as goal

pub channel-q-requires : goal.channel-q-requires
channel-q-requires c =
    rw c.values.ensures.0 (range2 c.args.p c.values.ensures.1 c.accepted.inside.input.sample2 c.accepted.invariant.second)

-- s and q, in the definition's words
s_is : (c : After-unsigned_abs-s) →
    c.unsigned_abs-s.result ≡ nat_abs (limited (LR c.args.p) (HR c.args.p) (c.args.rs +ℤ c.args.trim))
s_is c = grind (arith, to_z-of_z, back, sum_fits)

q_is : (c : After-channel-q) →
    to_z w64 (of_z w64 c.channel-q.result) ≡ scaled (L2 c.args.p) (H2 c.args.p) c.accepted.inside.input.sample2
q_is c = back w64 c.channel-q.result c.channel-q.type_inv ∙ rw c.values.ensures.0 at c.channel-q.ensures

pub ratio_quotient-requires : goal.ratio_quotient-requires
ratio_quotient-requires c =
    rw (q_is c.before.before.before.before, s_is c) (ratio_range c.args.p c.values.ensures.1 c.accepted.inside.input c.accepted.invariant _)

pub overflow_add-result : goal.overflow_add-result
overflow_add-result c =
    simp (back w64 c.ratio_quotient.result c.ratio_quotient.type_inv, back w64 c.get.result c.get.type_inv)
    (sum_fits c.ratio_quotient.result c.get.result
    (rw c.ratio_quotient.ensures (quotient_small c.args.inverse _ _ (ratio_quotient-requires c.before.before)))
    (rw c.get.ensures.0 (bias_small c.args.p c.get.ensures.1)))

pub returns : goal.returns
unfolding ratio_setpoint
returns c =
    rw (← c.accepted.view_is)
    (to_z-of_z (overflow_add-result c) ∙
    simp (back w64 c.ratio_quotient.result c.ratio_quotient.type_inv, back w64 c.get.result c.get.type_inv)
    (simp (c.get.ensures.0, c.ratio_quotient.ensures, q_is c.before.before.before.before.before.before, s_is c.before.before)))
