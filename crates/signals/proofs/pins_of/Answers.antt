-- `signals::pins_of` meets its contract.
use Rattle.signals.specs.Signals.{pins_of}
use Rattle.signals.proofs.pins_of.Goals as goal

pub returns : goal.returns
unfolding pins_of
returns c = simp (c.bit-3.ensures, c.bit-2.ensures, c.bit.ensures)
