-- `controller::Core::restarted` meets its contract.
use Rattle.std.specs.Prelude.{ℤ, pos}
use mathlib.Core.Path.{◌≡◌}
use mir.Syntax.{w64}
use mir.Val.{to_z, of_z}
use Rattle.integers.specs.Machine.{back}
use Rattle.outputs.specs.Instruction.{stored_arithmetic, changed, limited_to, executed}
use Rattle.outputs.specs.Outputs.{restart_instruction}
use Rattle.controller.specs.Restart.{restart_accepted, controller_restarted}
use Rattle.controller.specs.RestartLaws.{taken_legal, restarted_valid}
use Rattle.controller.specs.Scan.{controller_after}
use Rattle.controller.proofs.Core.restarted.Goals.{After-output_restarted-output}
use Rattle.controller.proofs.Core.restarted.Goals as goal

-- the fields of the controller that is returned
fields_are : (c : After-output_restarted-output) (output : ℤ) →
    record { core = c.start_core-core.result; output = to_z w64 (of_z w64 c.output_restarted-output.result) } ≡
    controller_restarted (record { core = c.args.self.now; output = output }) c.args.values
unfolding controller_restarted controller_after restart_accepted executed changed limited_to restart_instruction stored_arithmetic
fields_are c output =
    simp (back w64 c.output_restarted-output.result c.output_restarted-output.type_inv)
    (simp (c.start_core-core.ensures, c.output_restarted-output.ensures)
    (simp (c.restarted_request-request.ensures, c.is_sum_right-right.ensures)
    (simp (
      c.legal-parameters.ensures,
      c.restored_settings-restored.ensures,
      c.switches_of-s.ensures,
    ))))

pub legal-parameters-requires : goal.legal-parameters-requires
legal-parameters-requires c = rw c.restored_settings-restored.ensures (taken_legal c.args.values c.requires)

pub invariant_of-result : goal.invariant_of-result
invariant_of-result c =
    rw (fields_are (goal.at.invariant_of-result c).After-output_restarted-output (pos 0)) (restarted_valid _ c.args.values c.requires)

pub returns : goal.returns
returns c = fields_are (goal.at.returns c).After-output_restarted-output
