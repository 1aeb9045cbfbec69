-- `controller::Core::access` meets its contract.
use Rattle.controller.specs.Write.{access_now}
use Rattle.controller.proofs.Core.access.Goals as goal

pub returns : goal.returns
unfolding access_now
returns c = simp (c.access_verdict.ensures, c.rule-rule.ensures)
