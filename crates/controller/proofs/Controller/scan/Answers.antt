-- `controller::Controller::scan` meets its contract.
use mathlib.Core.Path.{◌≡◌, sym, ap, ◌∙◌}
use mathlib.Core.Option.{none, some}
use Rattle.signals.specs.Refusals.{number_of, number_in, refused_by, scan_tests}
use Rattle.controller.specs.Scan.{controller_after, accepted, core_after, scan, scan_core, refused, stepped, response_from}
use Rattle.controller.specs.ValidLaws.{sampled, stepped_valid}
use Rattle.outputs.specs.Instruction.{executed, changed, limited_to}
use Rattle.controller.proofs.Controller.scan.Goals.{In-Ok, In-Err}
use Rattle.controller.proofs.Controller.scan.Goals as goal

-- what an accepted verdict says
none_refuses : (c : In-Ok) → refused_by (scan_tests c.args.self.core.clock c.args.input) ≡ none
none_refuses c = rw (← c.self.view_is) (sym c.scan_verdict.ensures ∙ ap number_in c.in-Ok.is)

pub in_range-requires : goal.in_range-requires
in_range-requires c = sampled c.args.self.core.clock c.args.input (none_refuses c)

some_refuses : (c : In-Err) → refused_by (scan_tests c.args.self.core.clock c.args.input) ≡ some (number_of c.in-Err.refusal)
some_refuses c = rw (← c.self.view_is) (sym c.scan_verdict.ensures ∙ ap number_in c.in-Err.is)

pub returns-in-Err : goal.returns-in-Err
unfolding scan scan_core response_from controller_after refused executed changed limited_to
returns-in-Err c = (simp (some_refuses (goal.at.returns-in-Err c).In-Err), (rw (← c.self.view_is) c.self.invariant))

pub returns-in-Ok : goal.returns-in-Ok
unfolding scan scan_core response_from controller_after stepped accepted core_after
returns-in-Ok c = (
  simp (none_refuses (goal.at.returns-in-Ok c).In-Ok, c.answer.ensures)
      (simp (c.stepped-controller.ensures, c.in_range.ensures)),
  rw (c.stepped-controller.ensures, c.in_range.ensures)
      (stepped_valid c.args.self c.args.input (rw (← c.self.view_is) c.self.invariant)
      (sampled c.args.self.core.clock c.args.input (none_refuses (goal.at.returns-in-Ok c).In-Ok))),
)
