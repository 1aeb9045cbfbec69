-- `controller::Core::after` meets its contract.
use Rattle.controller.specs.Scan.{core_after}
use Rattle.controller.proofs.Core.after.Goals as goal

pub returns : goal.returns
unfolding core_after
returns c = simp (c.history_after.ensures, c.indications_after.ensures, c.is_open-isopen.ensures)
