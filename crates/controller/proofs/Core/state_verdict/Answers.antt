-- `controller::Core::state_verdict` meets its contract.
use native.Mathlib.Omega.{arith}
use mir.Facts.{to_z-of_z}
use borrow.Author.Tests.{ne_eqb}
use Rattle.signals.specs.Refusals.{refused_by}
use Rattle.controller.specs.Write.{state_tests}
use Rattle.controller.proofs.Core.state_verdict.Goals as goal

pub returns-in-20 : goal.returns-in-20
unfolding state_tests
returns-in-20 c = simp (c.setpoint_verdict.ensures, c.in-20.is)

pub returns-in-24 : goal.returns-in-24
unfolding state_tests
returns-in-24 c =
    simp (c.md_verdict.ensures, c.in-24.is)
    (simp (c.word_of.ensures, to_z-of_z c.ranges.v))

pub returns-in_default : goal.returns-in_default
unfolding state_tests refused_by
returns-in_default c = let n = c.args.number in
    simp (ne_eqb n 20 (λ q. omega arith), ne_eqb n 24 (λ q. omega arith))
