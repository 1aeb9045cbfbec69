-- Document 01, One scan: what steps 1, 4 and 5 leave together, and the alarms.
use Rattle.std.specs.Prelude.{Bool, ◌||◌, neg_ℤ, ◌-ℤ◌}
use Rattle.std.specs.Int.Signed.{lt_z}
use Rattle.signals.specs.declared.Input.{Input}
use Rattle.signals.specs.declared.Switches.{Switches}
use Rattle.modes.specs.declared.Mode.{Mode}
use Rattle.parameters.specs.Table.{with_value, HA, LA, HD, LD}
use Rattle.parameters.specs.declared.Parameters.{Parameters}
use Rattle.local_setpoint.specs.LocalSetpoint.{ratio_after, setpoint_after, following_setpoint}
use Rattle.setpoints.specs.Setpoints.{process_variable, trim_of, setpoint_of, measured_power}
use Rattle.setpoints.specs.declared.Readings.{Readings}
use Rattle.setpoints.specs.declared.Computed.{Computed}

-- SL and RS are parameters 20 and 21. "ER = PV - SP."
unfoldable pub computed : Parameters → Switches → Bool → Mode → Input → Computed
computed p s measuredpower mode i =
    let pv = process_variable p i in
    let sl = setpoint_after p s.setpointtracks mode i pv in
    let rs = ratio_after p mode i in
    let trim = trim_of p measuredpower mode i in
    let sp = setpoint_of p s mode sl rs trim i in
    record {
      parameters = with_value (with_value p 20 (following_setpoint p mode sl sp trim)) 21 rs;
      readings = record { pv = pv; sp = sp; er = pv -ℤ sp; mp = measured_power p measuredpower i };
    }

-- "low alarm (PV < LA or ER < -LD)"
unfoldable pub low_alarm : Parameters → Readings → Bool
low_alarm p r = lt_z r.pv (LA p) || lt_z r.er (neg_ℤ (LD p))

-- "high (PV > HA or ER > HD)"
unfoldable pub high_alarm : Parameters → Readings → Bool
high_alarm p r = lt_z (HA p) r.pv || lt_z (HD p) r.er
