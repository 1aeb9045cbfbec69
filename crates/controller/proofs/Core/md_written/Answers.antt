-- `controller::Core::md_written` meets its contract.
use Rattle.controller.specs.Write.{md_written, core_with}
use Rattle.controller.proofs.Core.md_written.Goals as goal

pub returns : goal.returns
unfolding md_written core_with
returns c = simp (c.power_written.ensures, c.conditions_written.ensures)
