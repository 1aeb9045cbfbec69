-- `controller::Controller::read` meets its contract.
use mathlib.Core.Path.{refl, ap, ◌∙◌}
use mir.Syntax.{w32}
use Rattle.integers.specs.Machine.{back}
use Rattle.signals.specs.RefusalLaws.{refusal_returned}
use Rattle.controller.specs.Answers.{reply_of_read}
use Rattle.controller.specs.Read.{read, read_in}
use Rattle.controller.proofs.Controller.read.Goals as goal

pub returns-in_err-unknown_verdict : goal.returns-in_err-unknown_verdict
unfolding read read_in
returns-in_err-unknown_verdict c =
    ap reply_of_read (refusal_returned _ _ c.from_residual.ensures.1) ∙ rw (← c.rule.ensures, ← c.in_err-unknown_verdict.ensures) refl

pub returns : goal.returns
unfolding read read_in
returns c =
    rw (back w32 c.value.result c.value.type_inv, ← c.rule.ensures, ← c.in_ok-unknown_verdict.ensures, c.value.ensures) refl
