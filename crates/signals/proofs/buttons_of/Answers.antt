-- `signals::buttons_of` meets its contract.
use Rattle.signals.specs.Signals.{buttons_of}
use Rattle.signals.proofs.buttons_of.Goals as goal

pub returns : goal.returns
unfolding buttons_of
returns c =
    simp (
      c.bit-6.ensures,
      c.bit-5.ensures,
      c.bit-4.ensures,
      c.bit-3.ensures,
      c.bit-2.ensures,
      c.bit.ensures,
    )
