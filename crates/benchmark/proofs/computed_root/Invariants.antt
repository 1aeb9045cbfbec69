-- `benchmark::computed_root` meets its contract. The root is at least `found` and below `beyond`, and each turn
-- halves what lies between.
use Prim.Native.Nat.{◌-◌, ◌*◌, ◌≤◌, ◌<◌}
use Rattle.benchmark.proofs.computed_root.Given as goal

abbrev pub invariant-loop-found : goal.invariant-loop-found
invariant-loop-found l =
    (l.found < l.beyond) × (l.beyond ≤ 10001) × (l.found * l.found ≤ 10000 * l.sample) × (10000 * l.sample < l.beyond * l.beyond)

abbrev pub decreases-loop-found : goal.decreases-loop-found
decreases-loop-found l = l.beyond - l.found
