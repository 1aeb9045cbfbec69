-- `controller::restart::is_legal` meets its contract.
use Rattle.controller.specs.Restart.{is_legal}
use Rattle.controller.proofs.restart.is_legal.Goals as goal

pub returns : goal.returns
unfolding is_legal
returns c = simp (c.are_legal.ensures, c.are_others_legal.ensures) (simp c.parameters_in-parameters.ensures)
