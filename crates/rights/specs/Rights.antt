-- Document 02, request 6: who may write which parameter, and the refusals of a write that go by its writer and its
-- number, whatever the value.
use Rattle.std.specs.Prelude.{Bool, true, false, not, ◌&&◌, ◌||◌, List, [], ◌∷◌, ◌++◌, ℕ}
use Rattle.std.proofs.Math.Option.{Option, some, none}
use Rattle.signals.specs.Signals.{computer_pin}
use Rattle.parameters.specs.Legal.{unknown_refusal, read_only_refusal}
use Rattle.parameters.specs.Table.{is_from}
use Rattle.parameters.specs.declared.Rule.{Rule}
use Rattle.rights.specs.declared.Writer.{Writer}
use Rattle.rights.specs.declared.Writer.TheVariants.{Operator, Engineer, Computer}

-- ---- the table, by writer and number: 20 is SL, 21 RS, 22 RB, 24 MD and 25 DS

-- "The operator may write SL, RS, MD and DS. The engineer has every parameter .. The computer may write SL, RS, RB, MD
-- and DS"
unfoldable pub may_write : Writer → (number : ℕ) → Bool
may_write Operator n = is_from n 20 21 || is_from n 24 25
may_write Engineer n = true
may_write Computer n = is_from n 20 22 || is_from n 24 25

-- of the computer: "only while the stored pin byte .. has the Computer pin at 1"
abbrev pub needs_pin : Writer → Bool
needs_pin Operator = false
needs_pin Engineer = false
needs_pin Computer = true

-- ---- the refusals

-- "19 when the computer writes with its pin at 0"
unfoldable pub pin_tests : Writer → (pins : ℕ) → List (Bool × ℕ)
pin_tests w pins = (needs_pin w && not (computer_pin pins), 19) ∷ []

-- "20 when the writer hasn't that parameter"
unfoldable pub right_tests : Writer → (number : ℕ) → List (Bool × ℕ)
right_tests w n = (not (may_write w n), 20) ∷ []

-- a refusal that the row of the number names: a test that always holds
abbrev pub named : Option ℕ → List (Bool × ℕ)
named none = []
named (some n) = (true, n) ∷ []

-- 19 "right after 4"; 20 "right after 19, and both before 5": 4 and 5 are those that the row of the number n names
unfoldable pub access_tests : Rule → Writer → (pins number : ℕ) → List (Bool × ℕ)
access_tests row w pins n = named (unknown_refusal row) ++ (pin_tests w pins ++ (right_tests w n ++ named (read_only_refusal row)))
