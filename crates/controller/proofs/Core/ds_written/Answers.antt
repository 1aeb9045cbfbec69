-- `controller::Core::ds_written` meets its contract.
use Rattle.controller.specs.Write.{ds_written, core_with}
use Rattle.controller.proofs.Core.ds_written.Goals as goal

pub returns : goal.returns
unfolding ds_written core_with
returns c = simp c.user_bits_written.ensures
