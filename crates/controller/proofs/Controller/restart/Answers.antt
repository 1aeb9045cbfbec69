-- `controller::Controller::restart` meets its contract.
use mathlib.Core.Path.{◌≡◌, sym, ap, ◌∙◌}
use mathlib.Core.Option.{none, some}
use Rattle.signals.specs.Refusals.{number_of, number_in, refused_by}
use Rattle.outputs.specs.Instruction.{executed, changed, limited_to}
use Rattle.controller.specs.Restart.{values_in, restart_tests, restart_accepted, restart_core, controller_restarted, restart}
use Rattle.controller.specs.RestartLaws.{taken, restarted_valid}
use Rattle.controller.specs.declared.Controller.{Controller}
use Rattle.controller.specs.Scan.{controller_after, refused, response_from}
use Rattle.controller.proofs.Controller.restart.Goals as goal

pub values_of-requires : goal.values_of-requires
values_of-requires c =
    let e : refused_by (restart_tests c.args.image.now) ≡ none =
    sym c.restart_verdict.ensures ∙ ap number_in c.in-Ok.is in
    (taken c.args.image.now e).size

pub restarted-requires : goal.restarted-requires
restarted-requires c =
    let e : refused_by (restart_tests c.args.image.now) ≡ none =
    sym c.restart_verdict.ensures ∙ ap number_in c.in-Ok.is in
    simp c.values_of.ensures (taken c.args.image.now e).legal

pub returns-in-Err : goal.returns-in-Err
unfolding restart restart_core response_from controller_after refused executed changed limited_to
returns-in-Err c =
    let e : refused_by (restart_tests c.args.image.now)
    ≡ some (number_of c.in-Err.refusal) =
    sym c.restart_verdict.ensures ∙ ap number_in c.in-Err.is in
    (simp e, rw (← c.self.view_is) c.self.invariant)

pub returns-in-Ok : goal.returns-in-Ok
unfolding restart restart_core response_from controller_after controller_restarted restart_accepted
returns-in-Ok c =
    let e : refused_by (restart_tests c.args.image.now) ≡ none =
    sym c.restart_verdict.ensures ∙ ap number_in c.in-Ok.is in
    let args = c.args in
    let is = simp c.values_of.ensures at (c.restarted.ensures c.self.inside.output) in
    let earlier : Controller = record { core = c.self.inside.core; output = c.self.inside.output } in
    (rw (← c.self.view_is) (simp (e, is)), rw is (restarted_valid earlier (values_in args.image.now) (taken args.image.now e).legal))
