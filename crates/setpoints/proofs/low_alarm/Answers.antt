-- `setpoints::low_alarm` meets its contract.
use lib.IntN.{pos}
use mir.Facts.{to_z-of_z}
use mir.Syntax.{w64}
use native.Mathlib.Omega.{arith}
use borrow.Author.Rules.{rules}
use Rattle.integers.specs.Machine.{back, difference_fits}
use Rattle.setpoints.specs.Computation.{low_alarm}
use Rattle.setpoints.specs.ComputationLaws.{deviation_small, zero_minus}
use Rattle.setpoints.proofs.low_alarm.Goals.{After-get-2}
use Rattle.setpoints.proofs.low_alarm.Goals as goal

pub overflow_sub-result : goal.overflow_sub-result
overflow_sub-result c =
    simp (back w64 c.get-2.result c.get-2.type_inv)
    (difference_fits (pos 0) c.get-2.result (record { small = omega arith })
    (rw c.get-2.ensures.0 (deviation_small c.args.p c.get-2.ensures.1)))

pub returns : goal.returns
unfolding low_alarm
returns c =
    let pv = to_z-of_z {w = w64} {z = c.args.r.pv} (search rules) in
    let er = to_z-of_z {w = w64} {z = c.args.r.er} (search rules) in
    simp (pv, er, to_z-of_z (overflow_sub-result (goal.at.returns c).After-get-2))
    (simp (back w64 c.get.result c.get.type_inv, back w64 c.get-2.result c.get-2.type_inv)
    (simp (zero_minus, c.get.ensures.0, c.get-2.ensures.0)))
