-- `text::after_words` meets its contract. What is left to pass, from here, leads where the whole does from the start.
use mathlib.Core.Path.{◌≡◌}
use Prim.Native.Nat.{◌-◌, ◌≤◌, max}
use lib.ListN.{length}
use Rattle.text.specs.Words.{after_words}
use Rattle.text.proofs.after_words.Given as goal

abbrev pub invariant-loop : goal.invariant-loop
invariant-loop l =
    (after_words l.count l.line l.start ≡ after_words (l.count - l.counter) l.line l.at)
    × (l.start ≤ l.at) × (l.at ≤ max l.start (length l.line))
