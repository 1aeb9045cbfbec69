-- Document 02, request 6, over again: who has the right to write a parameter, told by the parameter's number and by the
-- pin byte that the list tells (`last_pins`, Count.antt). Shared with the rules are the writers and the bits of a byte.
use Rattle.std.specs.Prelude.{◌≡◌, Bool, true, false, not, ◌&&◌, ◌||◌, List, ℕ, eqb, ltb, if◌then◌else◌}
use Rattle.std.proofs.Math.Option.{Option, some}
use Rattle.signals.specs.Bits.{bit}
use Rattle.rights.specs.declared.Writer.{Writer}
use Rattle.rights.specs.declared.Writer.TheVariants.{Operator, Engineer, Computer}
use Rattle.controller.specs.Answers.{Response}
use Rattle.controller.specs.declared.Controller.{Controller}
use Rattle.guarantee.specs.Count.{last_pins}
use Rattle.guarantee.specs.Exact.{Call, scan, write, restart, Calls, none, ◌then◌, exact}
use Rattle.guarantee.specs.Linked.{Linked, ChainTo}

-- ---- whose a parameter is

abbrev pub is_engineer : Writer → Bool
is_engineer Operator = false
is_engineer Engineer = true
is_engineer Computer = false

abbrev pub is_computer : Writer → Bool
is_computer Operator = false
is_computer Engineer = false
is_computer Computer = true

-- SL, RS, MD and DS, numbers 20, 21, 24 and 25, are everybody's; RB, number 22, is the engineer's and the computer's;
-- any other is the engineer's alone
unfoldable pub is_of : (number : ℕ) → Writer → Bool
is_of n w =
    if eqb n 20 || eqb n 21 || eqb n 24 || eqb n 25 then true else
    if eqb n 22 then is_engineer w || is_computer w else is_engineer w

-- the computer "only while the stored pin byte .. has the Computer pin at 1", pin bit 4
unfoldable pub is_shut_out : (pins : ℕ) → Writer → Bool
is_shut_out pins w = is_computer w && not (bit pins 4)

unfoldable pub has_right : (pins : ℕ) → Writer → (number : ℕ) → Bool
has_right pins w n = is_of n w && not (is_shut_out pins w)

-- what a write is refused with whatever the value: "4 number outside 1..32 (reads too); 5 read only", and between them
-- document 02's: "19 when the computer writes with its pin at 0, right after 4. 20 when the writer hasn't that
-- parameter, right after 19, and both before 5."; where none of these applies, what is said of the value
unfoldable pub access_or : (pins : ℕ) → Writer → (number : ℕ) → Option ℕ → Option ℕ
access_or pins w n of_value =
    if eqb n 0 || ltb 32 n then some 4 else
    if is_shut_out pins w then some 19 else
    if not (is_of n w) then some 20 else
    if ltb 25 n then some 5 else of_value

-- so someone without the right gets one of these two, of a number that has a parameter
abbrev pub number_without : (pins : ℕ) → Writer → ℕ
number_without pins w = if is_shut_out pins w then 19 else 20

-- ---- "a write by someone without the right changes nothing": so it can be left out of a list

-- by the pins as the calls before it left them
unfoldable pub is_permitted : (pins : ℕ) → Call → Bool
is_permitted pins (scan i) = true
is_permitted pins (write w n v) = has_right pins w n
is_permitted pins (restart image) = true

-- the list without them
unfoldable pub permitted : ℕ → Calls → Calls
permitted word none = none
permitted word (xs then x) = if is_permitted (last_pins word xs) x then permitted word xs then x else permitted word xs

-- it leads to the same controller, ours in every item, the output included, and so the exact one
pub record LeftOut (word : ℕ) (calls : Calls) (c : Controller) : Type 0 where
  pub chain : ChainTo word (permitted word calls) c
  pub same : exact word (permitted word calls) ≡ exact word calls

-- of every list
abbrev pub WithoutRightNothing : Type 0
WithoutRightNothing = (word : ℕ) (calls : Calls) (rs : List Response) (c : Controller) → Linked word calls rs c → LeftOut word calls c
