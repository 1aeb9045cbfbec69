-- `controller::Core::written` meets its contract.
use native.Mathlib.Omega.{arith}
use mir.Facts.{to_z-of_z}
use borrow.Author.Tests.{ne_eqb}
use Rattle.controller.specs.Write.{core_written}
use Rattle.controller.specs.WriteLaws.{in_parameters}
use Rattle.controller.proofs.Core.written.Goals as goal

pub parameter_written-requires : goal.parameter_written-requires
parameter_written-requires c =
    let h = in_parameters c.args.self.now c.args.number c.args.v c.requires (λ q. omega arith) (λ q. omega arith) in
    rw (to_z-of_z c.ranges.v) (h.0, h.1, c.requires)

pub returns-in-24 : goal.returns-in-24
unfolding core_written
returns-in-24 c =
    simp (c.md_written.ensures, c.in-24.is)
    (simp (c.word_of-word.ensures, to_z-of_z c.ranges.v))

pub returns-in-25 : goal.returns-in-25
unfolding core_written
returns-in-25 c =
    simp (c.ds_written.ensures, c.in-25.is)
    (simp (c.word_of-word.ensures, to_z-of_z c.ranges.v))

pub returns-in_default : goal.returns-in_default
unfolding core_written
returns-in_default c = let n = c.args.number in
    simp (
      c.parameter_written.ensures,
      ne_eqb n 24 (λ q. omega arith),
      ne_eqb n 25 (λ q. omega arith),
      to_z-of_z c.ranges.v,
    )
