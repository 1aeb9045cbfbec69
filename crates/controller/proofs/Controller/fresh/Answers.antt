-- `controller::Controller::fresh` meets its contract.
use Rattle.parameters.specs.LegalLaws.{defaults_legal}
use Rattle.controller.specs.State.{fresh_core, fresh_controller}
use Rattle.controller.specs.ValidLaws.{valid_fresh}
use Rattle.controller.proofs.Controller.fresh.Goals as goal

pub legal-parameters-requires : goal.legal-parameters-requires
legal-parameters-requires c = rw c.of-values.ensures defaults_legal

pub invariant_of-result : goal.invariant_of-result
unfolding fresh_controller fresh_core
invariant_of-result c =
    let is = simp (c.legal-parameters.ensures, c.of-values.ensures) at c.start_core-core.ensures in
    rw is (valid_fresh c.args.sw)

pub returns : goal.returns
unfolding fresh_controller fresh_core
returns c =
    let is = simp (c.legal-parameters.ensures, c.of-values.ensures) at c.start_core-core.ensures in
    (simp is, rw is (valid_fresh c.args.sw))
