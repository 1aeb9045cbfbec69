-- Document 01, One scan, steps 1 and 5: PV, trim and SP.
use Rattle.std.specs.Prelude.{Bool, ◌||◌, ℕ, eqb, ℤ, pos, nat_abs, ◌+ℤ◌, if◌then◌else◌}
use Rattle.integers.specs.Limit.{limited}
use Rattle.scaling.specs.Ratio.{ratio_quotient, inverse_quotient}
use Rattle.scaling.specs.Root.{root_of}
use Rattle.scaling.specs.Scale.{scaled}
use Rattle.signals.specs.Signals.{is_open}
use Rattle.signals.specs.declared.Input.{Input}
use Rattle.signals.specs.declared.Switches.{Switches}
use Rattle.modes.specs.Modes.{is_track, is_remote, is_ratio}
use Rattle.modes.specs.declared.Mode.{Mode}
use Rattle.parameters.specs.Table.{H1, L1, H2, L2, H3, L3, HR, LR, HS, LS, RB, IC}
use Rattle.parameters.specs.declared.Parameters.{Parameters}

-- ---- step 1

-- "With IC 1, channel 1's sample s first becomes the greatest whole r with r × r ≤ 10000 × s." IC is 0 or 1
unfoldable pub first_sample : Parameters → ℕ → ℕ
first_sample p sample = if eqb (nat_abs (IC p)) 1 then root_of sample else sample

-- "Scaling is L + sample × (H - L) / 10000 ..", "An open channel 1 reads PV = 1L."
unfoldable pub process_variable : Parameters → Input → ℤ
process_variable p i = if is_open i then L1 p else scaled (L1 p) (H1 p) (first_sample p i.sample1)

-- channel 3, scaled
unfoldable pub third_channel : Parameters → Input → ℤ
third_channel p i = scaled (L3 p) (H3 p) i.sample3

-- ---- step 5

-- "Trim is scaled channel 3, or 0 in Track or with MD bit 4 set."
unfoldable pub trim_of : Parameters → Bool → Mode → Input → ℤ
trim_of p measuredpower mode i = if is_track mode || measuredpower then pos 0 else third_channel p i

-- "SP is SL + trim, without trim if S2.1 is ON"
unfoldable pub local_setpoint : ℤ → Bool → ℤ → ℤ
local_setpoint sl ratioswitch trim = sl +ℤ (if ratioswitch then pos 0 else trim)

-- "in Remote channel 2 scaled by 1L, 1H, plus trim"
unfoldable pub remote_setpoint : Parameters → ℤ → Input → ℤ
remote_setpoint p trim i = scaled (L1 p) (H1 p) i.sample2 +ℤ trim

-- "100 × q / s + RB, or with S2.3 ON q × s / 100 + RB": the quotient
abbrev pub quotient_of : Bool → ℤ → ℕ → ℤ
quotient_of inverse q s = if inverse then inverse_quotient q s else ratio_quotient q s

-- "In Ratio s is the sum RS + trim, that sum limited to LR..HR" and so 1 or more, "q is channel 2 scaled by 2L,
-- 2H, and SP is 100 × q / s + RB, or with S2.3 ON q × s / 100 + RB"; the quotient is rounded before RB is added
unfoldable pub ratio_setpoint : Parameters → Bool → ℤ → ℤ → Input → ℤ
ratio_setpoint p inverse rs trim i =
    let q = scaled (L2 p) (H2 p) i.sample2 in
    let s = nat_abs (limited (LR p) (HR p) (rs +ℤ trim)) in
    quotient_of inverse q s +ℤ RB p

-- the setpoint of this mode, sl and rs being SL and RS after step 4
unfoldable pub setpoint_in : Parameters → Switches → Mode → ℤ → ℤ → ℤ → Input → ℤ
setpoint_in p s mode sl rs trim i =
    if is_remote mode then remote_setpoint p trim i else
    if is_ratio mode then ratio_setpoint p s.inverseratio rs trim i else
    local_setpoint sl s.ratio trim

-- "SP is then limited to LS..HS."
unfoldable pub setpoint_of : Parameters → Switches → Mode → ℤ → ℤ → ℤ → Input → ℤ
setpoint_of p s mode sl rs trim i = limited (LS p) (HS p) (setpoint_in p s mode sl rs trim i)

-- "MP is scaled channel 3 if MD bit 4 is set, else 0."
unfoldable pub measured_power : Parameters → Bool → Input → ℤ
measured_power p measuredpower i = if measuredpower then third_channel p i else pos 0
