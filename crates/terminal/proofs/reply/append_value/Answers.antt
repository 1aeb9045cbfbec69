-- `terminal::reply::append_value` meets its contract.
use mathlib.Core.Path.{sym, ◌∙◌}
use mir.Facts.{to_z-of_z}
use Rattle.terminal.specs.Terminal.{value_text}
use Rattle.terminal.proofs.reply.append_value.Goals as goal

pub returns-then-is_word : goal.returns-then-is_word
unfolding value_text
returns-then-is_word g c =
    let word = rw (c.unsigned_abs.ensures.value, to_z-of_z c.ranges.value) at c.push_word.ensures in
    simp (sym c.is_word.ensures ∙ c.if-is_word.true) word

pub returns-else-is_word : goal.returns-else-is_word
unfolding value_text
returns-else-is_word g c =
    let value = rw (to_z-of_z c.ranges.value) at c.push_signed.ensures in
    simp (sym c.is_word.ensures ∙ c.if-is_word.false) value
