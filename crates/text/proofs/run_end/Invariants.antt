-- `text::run_end` meets its contract. The run from the first place on ends where the one from here on does.
use mathlib.Core.Path.{◌≡◌}
use Prim.Native.Nat.{◌+◌}
use lib.ListN.{drop}
use Rattle.text.specs.Words.{leading}
use Rattle.text.proofs.run_end.Given as goal

abbrev pub invariant-loop-end : goal.invariant-loop-end
invariant-loop-end l = l.at + leading l.blank (drop l.at l.line) ≡ l.end + leading l.blank (drop l.end l.line)
