-- `integers::nearest_even` meets its contract.
use mathlib.Core.Path.{◌≡◌}
use Prim.Native.Nat.{◌-◌, ◌%◌}
use borrow.Author.Rules.{rules}
use native.Mathlib.Omega.{arith}
use Rattle.integers.specs.RoundingLaws.{even_below_half, even_above_half, even_at_half}
use Rattle.integers.proofs.nearest_even.Goals as goal

pub returns-in-Less : goal.returns-in-Less
returns-in-Less c = even_below_half c.args.n c.args.d c.requires (search rules)

pub returns-in-Equal : goal.returns-in-Equal
returns-in-Equal c =
    let same : c.args.n % c.args.d ≡ c.args.d - c.args.n % c.args.d = search rules in
    even_at_half c.args.n c.args.d c.requires (omega arith) (omega arith)

pub returns-in-Greater : goal.returns-in-Greater
returns-in-Greater c = even_above_half c.args.n c.args.d c.requires (search rules)
