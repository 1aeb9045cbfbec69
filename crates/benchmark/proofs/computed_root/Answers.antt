-- `benchmark::computed_root` meets its contract. The root is at least `found` and below `beyond`, and each turn
-- halves what lies between.
use Prim.Native.Nat.{◌+◌}
use native.Mathlib.Omega.{arith}
use Rattle.scaling.specs.Root.{squares, root_from, root_is, root_same}
use Rattle.benchmark.proofs.computed_root.Goals as goal

pub returns : goal.returns
returns c =
    let found = c.loop-found.found in
    root_same (root_from (omega arith) (omega (arith, squares c.loop-found.beyond (found + 1) (omega arith))))
    (root_is c.args.sample c.requires)
