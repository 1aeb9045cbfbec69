-- `controller::Core::context` meets its contract.
use Rattle.controller.specs.Scan.{context_of}
use Rattle.controller.proofs.Core.context.Goals as goal

pub returns : goal.returns
unfolding context_of
returns c = simp (c.goes_to_minimum.ensures, c.mode.ensures, c.switches_of-switches.ensures)
