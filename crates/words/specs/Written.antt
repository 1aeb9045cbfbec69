-- Document 01, "Words" and "By whose hand a call is declined": what writing MD and DS takes, and which words MD
-- refuses.
use Rattle.std.specs.Prelude.{Bool, false, not, ◌&&◌, ◌||◌, List, [], ◌∷◌, ℕ, if◌then◌else◌}
use Rattle.signals.specs.Bits.{bit}
use Rattle.signals.specs.Signals.{pins_of}
use Rattle.modes.specs.Modes.{is_cause}
use Rattle.modes.specs.declared.Conditions.{Conditions}
use Rattle.modes.specs.declared.Request.{Request}
use Rattle.modes.specs.declared.Request.TheVariants.{Manual, Auto, Remote}
use Rattle.words.specs.declared.UserBits.{UserBits}

-- ---- "Writing MD takes bits 13, 12, 11 as the request and bit 4; bit 5 does nothing."

-- 13 Manual, 12 Auto, 11 Remote; of a word with exactly one of them set
abbrev pub request_of : ℕ → Request
request_of word =
    if bit word 13 then Manual else
    if bit word 12 then Auto else Remote

-- "Bit 8 zero clears a standing memory fault, .. with no fault standing it does nothing. Bit 8 one changes nothing."
abbrev pub clears_fault : Bool → ℕ → Bool
clears_fault fault word = fault && not (bit word 8)

-- the memory fault that a write of MD leaves
abbrev pub fault_written : Bool → ℕ → Bool
fault_written fault word = if clears_fault fault word then false else fault

-- "and the request is then Manual whichever bit was set"
abbrev pub request_written : Bool → ℕ → Request
request_written fault word = if clears_fault fault word then Manual else request_of word

-- both, with the open count and the pins as they were
unfoldable pub conditions_written : Conditions → ℕ → Conditions
conditions_written c word =
    record { request = request_written c.fault word; fault = fault_written c.fault word; opencount = c.opencount; pins = c.pins }

-- bit 4 is measured power
unfoldable pub power_written : UserBits → ℕ → UserBits
power_written userbits word = record { user1 = userbits.user1; user2 = userbits.user2; measuredpower = bit word 4 }

-- ---- "DS takes bits 7 and 6.": "7, 6 user bits 2, 1"
unfoldable pub user_bits_written : UserBits → ℕ → UserBits
user_bits_written userbits word = record { user1 = bit word 6; user2 = bit word 7; measuredpower = userbits.measuredpower }

-- ---- "9 not exactly one of MD bits 13, 12, 11; 10 bit 11 with the Remote pin 0; 11 bit 12 or 11 when a cause would
-- remain."

-- of three bits
abbrev pub exactly_one : Bool → Bool → Bool → Bool
exactly_one a b c = a && not b && not c || not a && b && not c || not a && not b && c

-- a cause that the write would leave: the fault with what the word does to it, or too many open scans
abbrev pub cause_remains : Conditions → ℕ → Bool
cause_remains c word = is_cause (fault_written c.fault word) c.opencount

-- the three tests by their numbers
unfoldable pub md_tests : Conditions → ℕ → List (Bool × ℕ)
md_tests c word =
    (not (exactly_one (bit word 13) (bit word 12) (bit word 11)), 9)
    ∷ (bit word 11 && not (pins_of c.pins).remote, 10)
    ∷ ((bit word 12 || bit word 11) && cause_remains c word, 11)
    ∷ []
