-- `controller::Core::indications_after` meets its contract.
use Rattle.controller.specs.Scan.{indications_after}
use Rattle.controller.proofs.Core.indications_after.Goals as goal

pub returns : goal.returns
unfolding indications_after
returns c = simp (c.high_alarm.ensures, c.values.ensures.0, c.low_alarm.ensures, c.battery_low.ensures)
