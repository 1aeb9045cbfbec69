-- `signals::switches_of` meets its contract.
use Rattle.signals.specs.Signals.{switches_of}
use Rattle.signals.proofs.switches_of.Goals as goal

pub returns : goal.returns
unfolding switches_of
returns c =
    simp (
      c.bit-8.ensures,
      c.bit-7.ensures,
      c.bit-6.ensures,
      c.bit-5.ensures,
      c.bit-4.ensures,
      c.bit-3.ensures,
      c.bit-2.ensures,
      c.bit.ensures,
    )
