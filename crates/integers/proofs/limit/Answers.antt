-- `integers::limit` meets its contract.
use native.Mathlib.Omega.{arith}
use Rattle.integers.specs.Limit.{limited, at_least, at_most}
use Rattle.integers.specs.Machine.{read_back}
use Rattle.integers.proofs.limit.Goals as goal

pub returns : goal.returns
unfolding limited at_least at_most
returns c = grind (arith, read_back)
