-- Who may turn what, worked by hand: document 02, request 6, and its readings. A controller that isn't named is any
-- one; where its pin byte matters, any one with that byte.
use Rattle.std.specs.Prelude.{◌≡◌, List, [], ◌∷◌, ℕ, pos}
use Rattle.std.proofs.Math.Option.{some, none}
use Rattle.formatting.specs.Ascii.{ascii}
use Rattle.signals.specs.Refusals.{refused_by}
use Rattle.rights.specs.declared.Writer.{Writer}
use Rattle.rights.specs.declared.Writer.TheVariants.{Operator, Engineer, Computer}
use Rattle.controller.specs.Answers.{Response, acceptance, number}
use Rattle.controller.specs.State.{fresh_controller}
use Rattle.controller.specs.Write.{access_now, write}
use Rattle.controller.specs.declared.Controller.{Controller}
use Rattle.terminal.specs.Terminal as terminal
use Rattle.terminal.specs.Terminal.{answered}
use Rattle.worked.specs.LineFigures.{twelve_bytes, replies_with, refuses}

-- a refused write, which changes nothing
abbrev pub refused_with : ℕ → Controller → Response
refused_with k c = record { next = c; answer = number k }

-- controllers with these pins
abbrev pub WithPins : ℕ → (Controller → Type 0) → Type 0
WithPins pins figure = (c : Controller) → c.core.conditions.pins ≡ pins → figure c

unfoldable pub right_figures : List (Type 0)
right_figures =
    -- "At one station a drying hand set XP.", number 17: the operator hasn't it
    ((c : Controller) → write c Operator 17 (pos 500) ≡ refused_with 20 c)
    -- nor PV, number 30: 20 comes before 5; "The engineer has every parameter, read-only ones still giving 5."
    ∷ ((c : Controller) → write c Operator 30 (pos 0) ≡ refused_with 20 c)
    ∷ ((c : Controller) → write c Engineer 30 (pos 0) ≡ refused_with 5 c)
    -- 4 comes first, whoever writes
    ∷ ((c : Controller) (w : Writer) → write c w 33 (pos 0) ≡ refused_with 4 c)
    -- "the stored pin byte, 80h after a start": 19 for SL, which the computer has, for XP, which it hasn't, and for PV
    ∷ ((sw : ℕ) → write (fresh_controller sw) Computer 20 (pos 5) ≡ refused_with 19 (fresh_controller sw))
    ∷ ((sw : ℕ) → write (fresh_controller sw) Computer 17 (pos 500) ≡ refused_with 19 (fresh_controller sw))
    ∷ ((sw : ℕ) → write (fresh_controller sw) Computer 30 (pos 0) ≡ refused_with 19 (fresh_controller sw))
    -- the Remote pin at 1 and the Computer pin at 0: 19; the Computer pin alone at 1: RB is written, XP gets 20, PV too
    ∷ WithPins 0xA0 (λ c. write c Computer 22 (pos 5) ≡ refused_with 19 c)
    ∷ WithPins 0x90 (λ c. (write c Computer 22 (pos 5)).answer ≡ acceptance)
    ∷ WithPins 0x90 (λ c. write c Computer 17 (pos 500) ≡ refused_with 20 c)
    ∷ WithPins 0x90 (λ c. write c Computer 30 (pos 0) ≡ refused_with 20 c)
    -- the operator hasn't RB, and has DS, number 25
    ∷ ((c : Controller) → write c Operator 22 (pos 5) ≡ refused_with 20 c)
    ∷ ((c : Controller) → (write c Operator 25 (pos 0xC0)).answer ≡ acceptance)
    -- what a host is told before any value is there
    ∷ ((c : Controller) → refused_by (access_now c.core Operator 17) ≡ some 20)
    ∷ ((c : Controller) → refused_by (access_now c.core Engineer 17) ≡ none)
    ∷ WithPins 0x80 (λ c. refused_by (access_now c.core Computer 24) ≡ some 19)
    -- "Terminal lines carry a writer as well. Reading stays free."
    ∷ (answered (fresh_controller 0) Operator (ascii "XP") twelve_bytes ≡ replies_with (fresh_controller 0) (ascii "XP>1000"))
    ∷ (answered (fresh_controller 0) Operator (ascii "XP>500") twelve_bytes ≡ refuses (fresh_controller 0) 20)
    ∷ (answered (fresh_controller 0) Computer (ascii "SL>5") twelve_bytes ≡ refuses (fresh_controller 0) 19)
    -- the form and the buffer come before the right
    ∷ (answered (fresh_controller 0) Computer (ascii "SL>") twelve_bytes ≡ refuses (fresh_controller 0) 18)
    ∷ ((answered (fresh_controller 0) Computer (ascii "SL>5") (ascii "........")).answer ≡ terminal.number 15)
    ∷ []
