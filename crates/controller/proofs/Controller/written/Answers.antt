-- `controller::Controller::written` meets its contract.
use mir.Facts.{to_z-of_z}
use mathlib.Core.Path.{◌≡◌}
use mir.Syntax.{w64}
use mir.Val.{to_z, of_z}
use Rattle.integers.specs.Machine.{back}
use Rattle.outputs.specs.OutputLaws.{stored_back}
use Rattle.outputs.specs.Instruction.{changed, executed}
use Rattle.controller.specs.WriteLaws.{written_valid}
use Rattle.controller.specs.Write.{write_accepted, controller_written}
use Rattle.controller.specs.Scan.{controller_after}
use Rattle.controller.proofs.Controller.written.Goals.{After-output_written-output}
use Rattle.controller.proofs.Controller.written.Goals as goal

-- the fields of the controller that is returned
fields_are : (c : After-output_written-output) →
    record { core = c.written-core.result; output = to_z w64 (of_z w64 c.output_written-output.result) } ≡
    controller_written (record { core = c.self.inside.core; output = c.self.inside.output }) c.args.number c.args.v
unfolding controller_written controller_after write_accepted executed changed
fields_are c = simp (back w64 c.output_written-output.result c.output_written-output.type_inv)
    (simp (c.output_written-output.ensures, stored_back c.self.invariant.stored)
    (simp (c.mode-mode.ensures, c.written-core.ensures, to_z-of_z c.ranges.v)))

pub invariant_of-result : goal.invariant_of-result
invariant_of-result c =
    rw (fields_are (goal.at.invariant_of-result c).After-output_written-output)
    (written_valid _ c.args.number c.args.v c.self.invariant (rw (← c.self.view_is) at c.requires))

pub returns : goal.returns
returns c = rw (← c.self.view_is) (fields_are (goal.at.returns c).After-output_written-output)
