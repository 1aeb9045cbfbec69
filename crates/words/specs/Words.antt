-- Document 01, "Words (004, 4.3.5, 4.3.6)": MD and DS, bit by bit.
use Rattle.std.specs.Prelude.{Bool, false, not, [], ◌∷◌, ℕ, ◌+◌, ◌*◌, eqb, if◌then◌else◌}
use Rattle.signals.specs.Signals.{pins_of, buttons_of}
use Rattle.modes.specs.Modes.{is_open_cause, is_cause, is_one_of}
use Rattle.modes.specs.declared.Conditions.{Conditions}
use Rattle.modes.specs.declared.Mode.{Mode}
use Rattle.modes.specs.declared.Mode.TheVariants.{Hold, Track, Forced, Manual, Auto, Remote, Ratio, Fallback}
use Rattle.words.specs.declared.UserBits.{UserBits}
use Rattle.words.specs.declared.Indications.{Indications}

-- what a bit of this weight adds
abbrev pub weight : Bool → ℕ → ℕ
weight b w = if b then w else 0

-- four bits, the highest first
unfoldable pub nibble_of : Bool → Bool → Bool → Bool → ℕ
nibble_of b3 b2 b1 b0 = weight b3 8 + weight b2 4 + weight b1 2 + weight b0 1

-- a byte by its bits 7 to 0
unfoldable pub byte_of : Bool → Bool → Bool → Bool → Bool → Bool → Bool → Bool → ℕ
byte_of b7 b6 b5 b4 b3 b2 b1 b0 =
    weight b7 128 + weight b6 64 + weight b5 32 + weight b4 16 + weight b3 8 + weight b2 4 + weight b1 2 + weight b0 1

-- ---- "MD: 15 Hold, 14 Track, 13 Manual or Forced, 12 Auto or Fall-back, 11 Remote or Ratio, 10 Remote pin, 9 open
-- cause, 8 memory fault, 7 Lower, 6 Raise, 5 zero, 4 measured power, 3 SP, 2 R, 1 A, 0 M."

-- the bit that shows the mode
abbrev pub mode_bit : Mode → ℕ
mode_bit Hold = 15
mode_bit Track = 14
mode_bit Forced = 13
mode_bit Manual = 13
mode_bit Auto = 12
mode_bit Fallback = 12
mode_bit Remote = 11
mode_bit Ratio = 11

-- bits 15 to 8 of MD
unfoldable pub md_high : Mode → Conditions → ℕ
md_high mode c =
    let n = mode_bit mode in
    byte_of (eqb n 15) (eqb n 14) (eqb n 13) (eqb n 12) (eqb n 11) (pins_of c.pins).remote (is_open_cause c.opencount) c.fault

-- bits 7 to 0 of MD
unfoldable pub md_low : UserBits → Indications → ℕ
md_low userbits indications =
    let b = buttons_of indications.buttons in
    byte_of b.lower b.raise false userbits.measuredpower b.sp b.r b.a b.m

-- the word
unfoldable pub MD : Mode → Conditions → UserBits → Indications → ℕ
MD mode c userbits indications = 256 * md_high mode c + md_low userbits indications

-- ---- "DS: high byte the pin byte; 7, 6 user bits 2, 1; 5 is 0 in Hold, Manual, Forced; 4 is 0 in Remote, Ratio; 3
-- is 0 for battery low, 2 for a cause, 1 for low alarm .., 0 for high .."

-- "5 is 0 in Hold, Manual, Forced"
abbrev pub ds_bit5 : Mode → Bool
ds_bit5 mode = not (is_one_of (Hold ∷ Manual ∷ Forced ∷ []) mode)

-- "4 is 0 in Remote, Ratio"
abbrev pub ds_bit4 : Mode → Bool
ds_bit4 mode = not (is_one_of (Remote ∷ Ratio ∷ []) mode)

-- bits 7 to 0 of DS
unfoldable pub ds_low : Mode → Conditions → UserBits → Indications → ℕ
ds_low mode c userbits indications =
    byte_of userbits.user2 userbits.user1 (ds_bit5 mode) (ds_bit4 mode) (not indications.batterylow)
    (not (is_cause c.fault c.opencount)) (not indications.lowalarm) (not indications.highalarm)

-- the word
unfoldable pub DS : Mode → Conditions → UserBits → Indications → ℕ
DS mode c userbits indications = 256 * c.pins + ds_low mode c userbits indications
