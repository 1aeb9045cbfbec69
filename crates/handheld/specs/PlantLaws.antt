-- A law of the plant's and the terminal's lines: the next controller is valid.
use Rattle.std.specs.Prelude.{◌≡◌, refl, List, ℕ, Option, None, Some}
use Rattle.rights.specs.declared.Writer.{Writer}
use Rattle.controller.specs.Answers as answers
use Rattle.controller.specs.Valid.{Valid}
use Rattle.controller.specs.ValidLaws.{valid_scan}
use Rattle.controller.specs.declared.Controller.{Controller}
use Rattle.terminal.specs.TerminalLaws.{valid_line}
use Rattle.handheld.specs.Plant.{pins_in, scan_input, outcome_by, scan_outcome, outcome_of_line, outcome_for}

next_by : (c : Controller) (r : answers.Reply) (bytes : List ℕ) → (outcome_by c r bytes).next ≡ c
unfolding outcome_by
next_by c (answers.words md ds op electrical mode pv) bytes = refl
next_by c (answers.number n) bytes = refl
next_by c (answers.reading v) bytes = refl
next_by c answers.acceptance bytes = refl

module _ (c : Controller) (w : Writer) (line bytes : List ℕ) (valid : Valid c) where
  valid_of : (own : Option ℕ) → Valid (outcome_of_line own c w line bytes).next
  unfolding scan_outcome
  valid_of (Some pins) = rw (next_by _ _ bytes) (valid_scan c (scan_input c.core.clock pins) valid)
  valid_of None = valid_line c w line bytes valid

  pub valid_outcome : Valid (outcome_for c w line bytes).next
  unfolding outcome_for
  valid_outcome = valid_of (pins_in line)
