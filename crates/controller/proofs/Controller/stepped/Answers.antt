-- `controller::Controller::stepped` meets its contract.
use mathlib.Core.Path.{◌≡◌}
use mir.Syntax.{w64}
use mir.Val.{to_z, of_z}
use Rattle.integers.specs.Machine.{back}
use Rattle.modes.specs.Modes.{counted, conditions_after}
use Rattle.outputs.specs.OutputLaws.{earlier_kept, stored_back}
use Rattle.controller.specs.Scan.{controller_after, earlier_scans, context_of, computed_in, accepted, stepped}
use Rattle.controller.specs.ValidLaws.{read, stepped_valid}
use Rattle.controller.proofs.Controller.stepped.Goals.{After-context-x, After-compute-r, After-output_after-output}
use Rattle.controller.proofs.Controller.stepped.Goals as goal

context_is : (c : After-context-x) → c.context-x.result ≡ context_of c.self.inside.core
    (conditions_after counted c.self.inside.core.conditions c.args.accepted) c.args.accepted
context_is c = simp c.context-x.ensures (simp (c.after-conditions.ensures, c.input-input.ensures.0))

computed_is : (c : After-compute-r) → c.context-x.result ≡ context_of c.self.inside.core
    (conditions_after counted c.self.inside.core.conditions c.args.accepted) c.args.accepted →
    c.compute-r.result ≡ computed_in c.self.inside.core c.context-x.result
unfolding context_of computed_in
computed_is c context = simp c.compute-r.ensures (simp context)

pub output_after-output-requires : goal.output_after-output-requires
unfolding context_of
output_after-output-requires c =
    let at = goal.at.output_after-output-requires c in
    let context = context_is at.After-context-x in
    simp (stored_back c.self.invariant.stored) (
      rw (computed_is at.After-compute-r context, context)
          (read c.self.inside.core _ c.self.invariant.legal c.input-input.ensures.1),
      rw c.history_before-history.ensures
          (earlier_kept c.self.inside.core.history _ c.self.invariant.kept),
      c.self.invariant.stored,
    )

-- the fields of the controller that is returned
fields_are : (c : After-output_after-output) → c.context-x.result ≡ context_of c.self.inside.core
    (conditions_after counted c.self.inside.core.conditions c.args.accepted) c.args.accepted →
    c.compute-r.result ≡ computed_in c.self.inside.core c.context-x.result →
    record { core = c.after-next.result; output = to_z w64 (of_z w64 c.output_after-output.result) } ≡
    stepped (record { core = c.self.inside.core; output = c.self.inside.output }) c.args.accepted
unfolding stepped controller_after accepted earlier_scans
fields_are c context computed =
    simp (back w64 c.output_after-output.result c.output_after-output.type_inv)
    (simp (c.output_after-output.ensures, stored_back c.self.invariant.stored)
    (simp c.after-next.ensures (simp computed (simp (
      context,
      c.after-conditions.ensures,
      c.history_before-history.ensures,
      c.is_after_gap-aftergap.ensures,
      c.input-input.ensures.0,
    )))))

pub invariant_of-result : goal.invariant_of-result
invariant_of-result c =
    let at = goal.at.invariant_of-result c in
    let context = context_is at.After-context-x in
    rw (fields_are at.After-output_after-output context (computed_is at.After-compute-r context))
    (stepped_valid _ c.args.accepted c.self.invariant c.input-input.ensures.1)

pub returns : goal.returns
returns c =
    let at = goal.at.returns c in
    let context = context_is at.After-context-x in
    rw (← c.self.view_is) (fields_are at.After-output_after-output context (computed_is at.After-compute-r context))
