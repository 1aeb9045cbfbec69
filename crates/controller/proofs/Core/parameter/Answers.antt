-- `controller::Core::parameter` meets its contract.
use native.Mathlib.Omega.{arith}
use mir.Syntax.{w64}
use Rattle.integers.specs.Machine.{back}
use Rattle.integers.specs.Operations.{number}
use Rattle.parameters.specs.LegalLaws.{value_most}
use Rattle.parameters.specs.Table.{value}
use Rattle.controller.specs.ValidLaws.{reading_narrowed}
use Rattle.controller.proofs.Core.parameter.Goals as goal

pub overflow_cast-result : goal.overflow_cast-result
overflow_cast-result c = let most = value_most c.args.self.now.parameters c.get.ensures.1 c.args.number c.requires.0 c.requires.1 in
    simp (back w64 c.get.result c.get.type_inv)
    (rw c.get.ensures.0 (record { sfits = omega (arith, most, number (value c.args.self.now.parameters c.args.number)) }))

pub returns : goal.returns
returns c =
    let most = value_most c.args.self.now.parameters c.get.ensures.1 c.args.number c.requires.0 c.requires.1 in
    rw c.get.ensures.0 (reading_narrowed (value c.args.self.now.parameters c.args.number) (omega (arith, most)))
