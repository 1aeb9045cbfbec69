-- `terminal::mnemonic::named` meets its contract. No mnemonic before the number has the two bytes, so the search of
-- those from the number on finds what the search of all of them finds.
use mathlib.Core.Path.{◌≡◌}
use Prim.Native.Nat.{◌-◌}
use lib.ListN.{drop}
use Rattle.terminal.specs.Mnemonics.{mnemonics, numbered}
use Rattle.terminal.proofs.mnemonic.named.Given as goal

abbrev pub invariant-loop-number : goal.invariant-loop-number
invariant-loop-number l =
    numbered 1 mnemonics l.first l.second ≡ numbered l.number (drop (l.number - 1) mnemonics) l.first l.second
