-- Lines of the hand-held terminal, worked by hand: document 02, request 4, and its readings.
use Rattle.std.specs.Prelude.{◌≡◌, List, [], ◌∷◌, ◌++◌, ℕ, pos, neg_ℤ, length, drop}
use Rattle.formatting.specs.Ascii.{ascii}
use Rattle.signals.specs.declared.Input.{Input}
use Rattle.modes.specs.declared.Request.TheVariants as request
use Rattle.rights.specs.declared.Writer.TheVariants.{Engineer}
use Rattle.controller.specs.Scan.{scan}
use Rattle.controller.specs.State.{fresh_controller}
use Rattle.controller.specs.declared.Controller.{Controller}
use Rattle.terminal.specs.Terminal.{LineOutcome, reply, number, reply_text, answered}

-- twelve bytes that a reply must leave behind it
abbrev pub twelve_bytes : List ℕ
twelve_bytes = ascii "............"

-- a reply of a controller that stays
abbrev pub replies_with : Controller → List ℕ → LineOutcome
replies_with c text = record { next = c; answer = reply (length text); buffer = text ++ drop (length text) twelve_bytes }

abbrev pub refuses : Controller → ℕ → LineOutcome
refuses c k = record { next = c; answer = number k; buffer = twelve_bytes }

-- the Hold pin at 0: a controller in Hold
abbrev pub holding : Input
holding = record { pins = 0; sample1 = 5000; sample2 = 0; sample3 = 0; buttons = 0; sensors = 0; milliseconds = 36 }

unfoldable pub held : Controller
held = (scan (fresh_controller 0) holding).next

unfoldable pub line_figures : List (Type 0)
line_figures =
    -- reads: a decimal, one below zero, a word, and one with a letter among its digits, a capital
    (answered (fresh_controller 0) Engineer (ascii "XP") twelve_bytes ≡ replies_with (fresh_controller 0) (ascii "XP>1000"))
    ∷ (answered (fresh_controller 0) Engineer (ascii "LA") twelve_bytes ≡ replies_with (fresh_controller 0) (ascii "LA>-9999"))
    ∷ (answered (fresh_controller 0) Engineer (ascii "II") twelve_bytes ≡ replies_with (fresh_controller 0) (ascii "II>3608"))
    ∷ (answered (fresh_controller 0) Engineer (ascii "DS") twelve_bytes ≡ replies_with (fresh_controller 0) (ascii "DS>801F"))
    -- a word is written with capitals too, and small letters are no digits
    ∷ ((answered (fresh_controller 0) Engineer (ascii "DS>00C0") twelve_bytes).buffer ≡ ascii "DS>80DF.....")
    ∷ (answered (fresh_controller 0) Engineer (ascii "DS>00c0") twelve_bytes ≡ refuses (fresh_controller 0) 18)
    -- a write with leading zeros, and -0: the reply has the shortest decimal
    ∷ ((answered (fresh_controller 0) Engineer (ascii "XP>00500") twelve_bytes).buffer ≡ ascii "XP>500......")
    ∷ (answered (fresh_controller 0) Engineer (ascii "RB>-0") twelve_bytes ≡ replies_with (fresh_controller 0) (ascii "RB>0"))
    -- `MD>1000` in Hold: the request is taken, and the reply shows the word that is present, Hold
    ∷ ((answered held Engineer (ascii "MD>1000") twelve_bytes).buffer ≡ ascii "MD>8000.....")
    ∷ ((answered held Engineer (ascii "MD>1000") twelve_bytes).next.core.conditions.request ≡ request.Auto)
    -- 17: small letters, one byte, none
    ∷ (answered (fresh_controller 0) Engineer (ascii "xp") twelve_bytes ≡ refuses (fresh_controller 0) 17)
    ∷ (answered (fresh_controller 0) Engineer (ascii "X") twelve_bytes ≡ refuses (fresh_controller 0) 17)
    ∷ (answered (fresh_controller 0) Engineer [] twelve_bytes ≡ refuses (fresh_controller 0) 17)
    -- 18: a word of one digit or five, six decimal digits, a plus sign, a bare >, a blank at the end
    ∷ (answered (fresh_controller 0) Engineer (ascii "SW>1") twelve_bytes ≡ refuses (fresh_controller 0) 18)
    ∷ (answered (fresh_controller 0) Engineer (ascii "MD>01000") twelve_bytes ≡ refuses (fresh_controller 0) 18)
    ∷ (answered (fresh_controller 0) Engineer (ascii "XP>000500") twelve_bytes ≡ refuses (fresh_controller 0) 18)
    ∷ (answered (fresh_controller 0) Engineer (ascii "XP>+500") twelve_bytes ≡ refuses (fresh_controller 0) 18)
    ∷ (answered (fresh_controller 0) Engineer (ascii "XP>") twelve_bytes ≡ refuses (fresh_controller 0) 18)
    ∷ (answered (fresh_controller 0) Engineer (ascii "XP ") twelve_bytes ≡ refuses (fresh_controller 0) 18)
    -- form before meaning: read-only parameters give 5, and 99999 gives 6
    ∷ (answered (fresh_controller 0) Engineer (ascii "SW>0001") twelve_bytes ≡ refuses (fresh_controller 0) 5)
    ∷ (answered (fresh_controller 0) Engineer (ascii "PV>1") twelve_bytes ≡ refuses (fresh_controller 0) 5)
    ∷ (answered (fresh_controller 0) Engineer (ascii "XP>99999") twelve_bytes ≡ refuses (fresh_controller 0) 6)
    -- eight bytes are too few whatever the reply's length: after 18, before 5
    ∷ ((answered (fresh_controller 0) Engineer (ascii "IC") (ascii "........")).answer ≡ number 15)
    ∷ ((answered (fresh_controller 0) Engineer (ascii "PV>1") (ascii "........")).answer ≡ number 15)
    ∷ ((answered (fresh_controller 0) Engineer (ascii "PV>") (ascii "........")).answer ≡ number 18)
    -- the longest reply has nine
    ∷ (reply_text 31 (neg_ℤ (pos 19998)) ≡ ascii "ER>-19998")
    ∷ []
