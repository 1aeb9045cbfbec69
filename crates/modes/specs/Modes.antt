-- Document 01, One scan, steps 2 and 3: causes, the request and the mode. Mode and cause "always follow the present
-- state".
use Rattle.std.specs.Prelude.{Bool, false, not, ◌&&◌, ◌||◌, List, [], ◌∷◌, ℕ, ◌+◌, min, eqb, leb, if◌then◌else◌}
use Rattle.signals.specs.Signals.{pins_of, buttons_of, is_open}
use Rattle.signals.specs.declared.Buttons.{Buttons}
use Rattle.signals.specs.declared.Input.{Input}
use Rattle.modes.specs.declared.Conditions.{Conditions}
use Rattle.modes.specs.declared.Mode.{Mode}
use Rattle.modes.specs.declared.Mode.TheVariants.{Hold, Track, Forced, Manual, Auto, Remote, Ratio, Fallback}
use Rattle.modes.specs.declared.Request.{Request}
use Rattle.modes.specs.declared.Request.TheVariants as request

-- ---- step 2

-- "the 85th and later consecutive open scan (84 × 36 ms is the first step past 3 s; 004, 2.6.3)": by the count of
-- consecutive open scans
abbrev pub is_open_cause : ℕ → Bool
is_open_cause opencount = leb 85 opencount

-- "A cause is the memory fault, or the 85th and later consecutive open scan"
abbrev pub is_cause : Bool → ℕ → Bool
is_cause fault opencount = fault || is_open_cause opencount

-- one more open scan, as our controller counts: nothing asks for more than "the 85th and later", so the count stops at
-- 85
unfoldable pub counted : ℕ → ℕ
counted opencount = min 85 (opencount + 1)

-- consecutive: a scan that isn't open starts the count anew. `more` counts one more open scan
unfoldable pub open_count_after : (ℕ → ℕ) → Bool → ℕ → ℕ
open_count_after more isopen opencount = if isopen then more opencount else 0

-- "Otherwise the first pressed of M, A, R sets the request."
abbrev pub request_by : Buttons → Request → Request
request_by b q =
    if b.m then request.Manual else
    if b.a then request.Auto else
    if b.r then request.Remote else q

-- "With a cause the request becomes Manual in any mode."
abbrev pub request_after : Bool → Buttons → Request → Request
request_after cause b q = if cause then request.Manual else request_by b q

-- what an accepted scan leaves of that which decides the mode
unfoldable pub conditions_after : (ℕ → ℕ) → Conditions → Input → Conditions
conditions_after more c i =
    let opencount = open_count_after more (is_open i) c.opencount in
    record {
      request = request_after (is_cause c.fault opencount) (buttons_of i.buttons) c.request;
      fault = c.fault;
      opencount = opencount;
      pins = i.pins;
    }

-- ---- step 3

-- "Manual (request M); Auto (request A); Remote (request R, Remote pin 1, S2.1 OFF) or Ratio (same, S2.1 ON); Fall-back
-- (request R, Remote pin 0)"
abbrev pub mode_by : Request → Bool → Bool → Mode
mode_by request.Manual remotepin ratioswitch = Manual
mode_by request.Auto remotepin ratioswitch = Auto
mode_by request.Remote remotepin ratioswitch = if remotepin then (if ratioswitch then Ratio else Remote) else Fallback

-- "Mode, in priority order: Hold (pin 0); Track (pin 1); Forced Manual (a cause)", and then by the request
abbrev pub in_priority : Bool → Bool → Bool → Mode → Mode
in_priority holdpin trackpin cause requested =
    if not holdpin then Hold else
    if trackpin then Track else
    if cause then Forced else requested

-- the mode of the present state
unfoldable pub mode_of : Conditions → Bool → Mode
mode_of c ratioswitch =
    let p = pins_of c.pins in
    in_priority p.hold p.track (is_cause c.fault c.opencount) (mode_by c.request p.remote ratioswitch)

-- ---- properties of a mode

-- an index for each mode, no two alike
abbrev pub mode_index : Mode → ℕ
mode_index Hold = 0
mode_index Track = 1
mode_index Forced = 2
mode_index Manual = 3
mode_index Auto = 4
mode_index Remote = 5
mode_index Ratio = 6
mode_index Fallback = 7

-- whether the mode is one of these
abbrev pub is_one_of : List Mode → Mode → Bool
is_one_of [] mode = false
is_one_of (one ∷ others) mode = eqb (mode_index one) (mode_index mode) || is_one_of others mode

-- "Auto, Remote, Ratio and Fall-back are automatic."
abbrev pub is_automatic : Mode → Bool
is_automatic mode = is_one_of (Auto ∷ Remote ∷ Ratio ∷ Fallback ∷ []) mode

-- for rules that speak of one mode
abbrev pub is_track : Mode → Bool
is_track mode = is_one_of (Track ∷ []) mode

-- the same of Remote
abbrev pub is_remote : Mode → Bool
is_remote mode = is_one_of (Remote ∷ []) mode

-- the same of Ratio
abbrev pub is_ratio : Mode → Bool
is_ratio mode = is_one_of (Ratio ∷ []) mode

-- Terms: "in Auto and Fall-back"
abbrev pub is_auto_or_fallback : Mode → Bool
is_auto_or_fallback mode = is_one_of (Auto ∷ Fallback ∷ []) mode

-- step 6: "Outside Hold and Track"
abbrev pub is_limiting : Mode → Bool
is_limiting mode = not (is_one_of (Hold ∷ Track ∷ []) mode)

-- a scan may set SL itself, so that no one may write it: "SL in Remote, Ratio, or with S2.6 ON in a non-automatic mode"
abbrev pub sets_setpoint : Mode → Bool → Bool
sets_setpoint mode setpointtracks = is_remote mode || is_ratio mode || setpointtracks && not (is_automatic mode)

-- step 6: "on the 85th open scan, if the mode just before this scan was automatic and S2.5 is ON": the 85th is an open
-- one with 84 before it
unfoldable pub goes_to_minimum : Conditions → Input → Bool → Bool → Bool
goes_to_minimum before i ratioswitch powerfail =
    is_open i && eqb before.opencount 84 && is_automatic (mode_of before ratioswitch) && powerfail
