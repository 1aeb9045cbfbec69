-- Document 01, One scan: the local setpoint SL and the ratio setpoint RS. Step 4: moved by hand; SL that tracks PV.
-- Step 5: SL that follows SP.
use Rattle.std.specs.Prelude.{Bool, not, ◌&&◌, ℤ, pos, ◌+ℤ◌, ◌-ℤ◌, if◌then◌else◌}
use Rattle.integers.specs.Limit.{limited}
use Rattle.signals.specs.Signals.{buttons_of, adjustment_of, is_open}
use Rattle.signals.specs.declared.Input.{Input}
use Rattle.signals.specs.declared.Adjustment.{Adjustment}
use Rattle.signals.specs.declared.Adjustment.TheVariants.{Raise, Lower, Neither}
use Rattle.modes.specs.Modes.{is_automatic, is_remote, is_ratio}
use Rattle.modes.specs.declared.Mode.{Mode}
use Rattle.parameters.specs.Table.{HR, LR, HS, LS, SL, RS}
use Rattle.parameters.specs.declared.Parameters.{Parameters}

-- ---- step 4

-- "one of them moves .. by .., the result then limited to"; "Raise and Lower together do nothing": `adjustment_of`
abbrev pub moved : Adjustment → ℤ → ℤ → ℤ → ℤ → ℤ
moved Raise by low high v = limited low high (v +ℤ by)
moved Lower by low high v = limited low high (v -ℤ by)
moved Neither by low high v = v

-- "With SP held, one of them moves" v, in the modes where it is v that they move
unfoldable pub moved_by_hand : Input → Bool → ℤ → ℤ → ℤ → ℤ → ℤ
moved_by_hand i here by low high v =
    let b = buttons_of i.buttons in
    if b.sp && here then moved (adjustment_of b) by low high v else v

-- "RS by 12 in Ratio"
unfoldable pub ratio_after : Parameters → Mode → Input → ℤ
ratio_after p mode i = moved_by_hand i (is_ratio mode) (pos 12) (LR p) (HR p) (RS p)

-- "else SL by 1, .. not in Remote"
unfoldable pub setpoint_moved : Parameters → Mode → Input → ℤ
setpoint_moved p mode i = moved_by_hand i (not (is_ratio mode) && not (is_remote mode)) (pos 1) (LS p) (HS p) (SL p)

-- "With S2.6 ON in a non-automatic mode SL isn't moved; if channel 1 isn't open it becomes PV, limited to LS..HS."
unfoldable pub setpoint_after : Parameters → Bool → Mode → Input → ℤ → ℤ
setpoint_after p setpointtracks mode i pv =
    if setpointtracks && not (is_automatic mode)
    then (if is_open i then SL p else limited (LS p) (HS p) pv)
    else setpoint_moved p mode i

-- ---- step 5

-- "In Remote and Ratio SL becomes SP.", of which document 02, request 7: "From now on, in Remote, SL takes SP less the
-- trim, limited to LS..HS. Ratio keeps SL equal to SP."; in any other mode it is what step 4 has left, sl
unfoldable pub following_setpoint : Parameters → Mode → ℤ → ℤ → ℤ → ℤ
following_setpoint p mode sl sp trim =
    if is_remote mode then limited (LS p) (HS p) (sp -ℤ trim) else
    if is_ratio mode then sp else sl
