-- `controller::Core::write_verdict` meets its contract.
use mathlib.Core.Path.{refl, ap, ◌∙◌}
use mir.Facts.{to_z-of_z}
use Rattle.signals.specs.Refusals.{number_in}
use Rattle.signals.specs.RefusalLaws.{refusal_returned, refused_append}
use Rattle.controller.specs.Write.{value_tests, access_now, write_tests}
use Rattle.controller.proofs.Core.write_verdict.Goals as goal

pub returns-in_err-access : goal.returns-in_err-access
unfolding write_tests
returns-in_err-access c =
    let start = c.args in
    ap number_in (refusal_returned _ _ c.from_residual.ensures.1) ∙
    rw (
      refused_append (access_now start.self.now start.writer start.number) (value_tests start.self.now start.number start.v),
      ← c.in_err-access.ensures,
    ) refl

pub returns : goal.returns
unfolding write_tests
returns c =
    let start = c.args in
    rw (
      refused_append (access_now start.self.now start.writer start.number) (value_tests start.self.now start.number start.v),
      ← c.in_ok-access.ensures,
    ) (simp (c.value_verdict.ensures, to_z-of_z c.ranges.v))
