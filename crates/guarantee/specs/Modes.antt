-- The mode of a state by its conditions, written out again from document 01's step 3, and which modes its rules
-- group together. Shared with the rules are the types of the state and the bits of a word.
use Rattle.std.specs.Prelude.{Bool, true, false, not, ◌&&◌, ◌||◌, List, [], ◌∷◌, leb, if◌then◌else◌}
use Rattle.std.proofs.Math.Option.{Option, some}
use Rattle.signals.specs.Bits.{bit}
use Rattle.modes.specs.declared.Mode.{Mode}
use Rattle.modes.specs.declared.Mode.TheVariants.{Hold, Track, Forced, Manual, Auto, Remote, Ratio, Fallback}
use Rattle.modes.specs.declared.Request.{Request}
use Rattle.modes.specs.declared.Request.TheVariants as request
use Rattle.controller.specs.declared.Core.{Core}

-- ---- the mode is the first in the priority order whose condition is present

unfoldable pub same_request : Request → Request → Bool
same_request request.Manual request.Manual = true
same_request request.Manual request.Auto = false
same_request request.Manual request.Remote = false
same_request request.Auto request.Manual = false
same_request request.Auto request.Auto = true
same_request request.Auto request.Remote = false
same_request request.Remote request.Manual = false
same_request request.Remote request.Auto = false
same_request request.Remote request.Remote = true

-- step 3: "Hold (pin 0); Track (pin 1); Forced Manual (a cause); Manual (request M); Auto (request A);
-- Remote (request R, Remote pin 1, S2.1 OFF) or Ratio (same, S2.1 ON); Fall-back (request R, Remote pin
-- 0)"; step 2: "A cause is the memory fault, or the 85th and later consecutive open scan"
unfoldable pub condition : Core → Mode → Bool
condition c Hold = not (bit c.conditions.pins 7)
condition c Track = bit c.conditions.pins 6
condition c Forced = c.conditions.fault || leb 85 c.conditions.opencount
condition c Manual = same_request request.Manual c.conditions.request
condition c Auto = same_request request.Auto c.conditions.request
condition c Remote = same_request request.Remote c.conditions.request && bit c.conditions.pins 5 && not (bit c.sw 15)
condition c Ratio = same_request request.Remote c.conditions.request && bit c.conditions.pins 5 && bit c.sw 15
condition c Fallback = same_request request.Remote c.conditions.request && not (bit c.conditions.pins 5)

unfoldable pub priority : List Mode
priority = Hold ∷ Track ∷ Forced ∷ Manual ∷ Auto ∷ Remote ∷ Ratio ∷ Fallback ∷ []

unfoldable pub first : (Mode → Bool) → List Mode → Option Mode
first present [] = Option.none
first present (m ∷ ms) = if present m then some m else first present ms

-- the mode of a state, by its conditions
abbrev pub mode_in : Core → Option Mode
mode_in c = first (condition c) priority

-- ---- groups of modes, of the mode that conditions give

-- "Auto, Remote, Ratio and Fall-back are automatic."
abbrev pub automatic_mode : Option Mode → Bool
automatic_mode (some Auto) = true
automatic_mode (some Remote) = true
automatic_mode (some Ratio) = true
automatic_mode (some Fallback) = true
automatic_mode (some Hold) = false
automatic_mode (some Track) = false
automatic_mode (some Forced) = false
automatic_mode (some Manual) = false
automatic_mode Option.none = false

-- the mode Track
abbrev pub track_mode : Option Mode → Bool
track_mode (some Track) = true
track_mode (some Hold) = false
track_mode (some Forced) = false
track_mode (some Manual) = false
track_mode (some Auto) = false
track_mode (some Remote) = false
track_mode (some Ratio) = false
track_mode (some Fallback) = false
track_mode Option.none = false

-- "Manual and Forced"
abbrev pub manual_or_forced : Option Mode → Bool
manual_or_forced (some Manual) = true
manual_or_forced (some Forced) = true
manual_or_forced (some Hold) = false
manual_or_forced (some Track) = false
manual_or_forced (some Auto) = false
manual_or_forced (some Remote) = false
manual_or_forced (some Ratio) = false
manual_or_forced (some Fallback) = false
manual_or_forced Option.none = false

-- "Outside Hold and Track"
abbrev pub is_hold_or_track : Mode → Bool
is_hold_or_track Hold = true
is_hold_or_track Track = true
is_hold_or_track Forced = false
is_hold_or_track Manual = false
is_hold_or_track Auto = false
is_hold_or_track Remote = false
is_hold_or_track Ratio = false
is_hold_or_track Fallback = false
