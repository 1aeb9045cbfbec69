-- Document 01, "The exact controller": the same steps and rules, its own copy of every state item, the output a
-- fraction by its own text, the terms unrounded. It is fed the switch word and the calls, and nothing of ours.
use Rattle.std.specs.Prelude.{Bool, true, false, List, ℕ, ◌+◌, ℤ, pos, if◌then◌else◌}
use Rattle.signals.specs.declared.Input.{Input}
use Rattle.rights.specs.declared.Writer.{Writer}
use Rattle.terms.specs.Fraction.{Fraction, whole}
use Rattle.controller.specs.Restart.{restart_core}
use Rattle.controller.specs.Scan.{Status, status, accepts, refused_with, Outcome, scan_core}
use Rattle.controller.specs.State.{fresh_core}
use Rattle.controller.specs.Write.{write_core}
use Rattle.controller.specs.declared.Core.{Core}
use Rattle.guarantee.specs.ExactOutput.{scan_output, write_output, restart_output}

-- ---- calls, and lists of them, the latest last

-- the four calls are these and start fresh, with which every list begins
pub data Call : Type 0 where
  scan : Input → Call
  -- by this writer, to the parameter with this number, of this value: any natural number, any integer
  write : Writer → ℕ → ℤ → Call
  -- with these bytes: any numbers, and any count of them
  restart : List ℕ → Call

infixl 20 ◌then◌
pub data Calls : Type 0 where
  none : Calls
  ◌then◌ : Calls → Call → Calls

-- what a call does, by the rules. `more` counts one more open scan
unfoldable pub outcome_of : (ℕ → ℕ) → Core → Call → Outcome
outcome_of more c (scan i) = scan_core more c i
outcome_of more c (write w n v) = write_core c w n v
outcome_of more c (restart image) = restart_core c image

-- ---- the exact controller

pub record Exact : Type 0 where
  pub core : Core
  -- "its output is a fraction of two whole numbers"
  pub output : Fraction

-- it counts open scans without stopping
abbrev pub one_more : ℕ → ℕ
one_more n = n + 1

abbrev pub exact_outcome : Exact → Call → Outcome
exact_outcome c x = outcome_of one_more c.core x

abbrev pub is_accepted : Status → Bool
is_accepted (status md ds mode pv) = true
is_accepted accepts = true
is_accepted (refused_with n) = false

-- the output after an accepted call, which was made in the state `before` and left the state `now`
unfoldable pub output_after : Core → Core → Call → Fraction → Fraction
output_after before now (scan i) output = scan_output before now i output
output_after before now (write w n v) output = write_output before now n output
output_after before now (restart image) output = restart_output now image

-- "the same steps and rules, declined calls included, but its output is a fraction of two whole numbers and its
-- limited terms are added unrounded": after a call with this outcome; a declined call leaves the output
abbrev pub after_outcome : Exact → Call → Outcome → Exact
after_outcome c x o =
    record {
      core = o.next;
      output = if is_accepted o.answer then output_after c.core o.next x c.output else c.output;
    }

unfoldable pub exact_after : Exact → Call → Exact
exact_after c x = after_outcome c x (exact_outcome c x)

-- "fed the same switch word and, call by call, the same arguments except the controller"
unfoldable pub exact : ℕ → Calls → Exact
exact word none = record { core = fresh_core word; output = whole (pos 0) }
exact word (xs then x) = exact_after (exact word xs) x

-- its answer to a call made after these, but for OP and electrical output, "which are those of our own stored output"
unfoldable pub exact_answer : ℕ → Calls → Call → Status
exact_answer word xs x = (exact_outcome (exact word xs) x).answer
