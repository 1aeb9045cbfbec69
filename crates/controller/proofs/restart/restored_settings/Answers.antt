-- `controller::restart::restored_settings` meets its contract.
use mathlib.Core.Path.{sym, ◌∙◌}
use Rattle.controller.specs.Restart.{restored_settings}
use Rattle.controller.proofs.restart.restored_settings.Goals as goal

pub returns-then-right : goal.returns-then-right
unfolding restored_settings
returns-then-right c = simp (sym c.is_sum_right-right.ensures ∙ c.if-right.true) c.settings_in.ensures

pub returns : goal.returns
unfolding restored_settings
returns c = simp (sym c.is_sum_right-right.ensures ∙ c.if-right.false) c.repaired_settings.ensures
