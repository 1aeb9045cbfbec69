-- `text::after_words` meets its contract. What is left to pass, from here, leads where the whole does from the start.
use mathlib.Core.Path.{◌≡◌, sym, ◌∙◌}
use Prim.Native.Nat.{◌+◌, ◌-◌}
use native.Mathlib.Omega.{arith}
use Rattle.text.specs.Words.{after_words, words_more}
use Rattle.text.proofs.after_words.Goals as goal

pub loop-preserved : goal.loop-preserved
loop-preserved c =
    let left = c.args.count - c.loop.counter in
    let one = words_more c.args.line.now left c.loop.at (omega arith) in
    let less : left - 1 ≡ c.args.count - (c.loop.counter + 1) = omega arith in
    let word = c.word-at.ensures.at_le_from in
    (c.loop.invariant.0 ∙ rw (← less, c.word-at.ensures.value) one, omega arith, omega arith)

pub returns : goal.returns
unfolding after_words
returns c =
    let none : c.args.count - c.loop.counter ≡ 0 = omega arith in
    (sym (c.loop.invariant.0 ∙ rw none), c.loop.invariant.1, c.loop.invariant.2)
