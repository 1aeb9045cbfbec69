-- `text::hexadecimal::write_pairs` meets its contract. The bytes in front of `n` are the first pairs, and the others as
-- they were.
use mathlib.Core.Path.{◌≡◌}
use mathlib.Core.List.{◌++◌}
use Prim.Native.Nat.{◌-◌, ◌≤◌}
use lib.ListN.{length, drop}
use Rattle.text.specs.Hexadecimal.{pairs}
use Rattle.text.proofs.hexadecimal.write_pairs.Given as goal

abbrev pub invariant-loop-n : goal.invariant-loop-n
invariant-loop-n l = (l.n ≤ l.count) × (length l.bytes ≡ length l.initial.bytes) × (l.bytes ≡ pairs l.word l.n ++ drop l.n l.initial.bytes)

abbrev pub decreases-loop-n : goal.decreases-loop-n
decreases-loop-n l = l.count - l.n
