-- Document 01, Terms: c, c1, W and D, of which the terms are made.
use Rattle.std.specs.Prelude.{Bool, not, ◌&&◌, ℤ, pos, nat_abs, ◌+ℤ◌, ◌-ℤ◌, ◌*ℤ◌, if◌then◌else◌}
use Rattle.terms.specs.declared.Tuning.{Tuning}
use Rattle.signals.specs.declared.Switches.{Switches}
use Rattle.modes.specs.Modes.{is_auto_or_fallback}
use Rattle.modes.specs.declared.Mode.{Mode}
use Rattle.parameters.specs.Table.{H1, L1, XP, TI, TD}
use Rattle.parameters.specs.declared.Parameters.{Parameters}
use Rattle.setpoints.specs.declared.Readings.{Readings}
use Rattle.outputs.specs.declared.Past.{Past}

-- "c is SP - PV, or PV - SP with S2.4 ON"
unfoldable pub control_difference : Bool → ℤ → ℤ → ℤ
control_difference inverse sp pv = if inverse then pv -ℤ sp else sp -ℤ pv

-- the SP within c1: the previous one, "but .. the present SP in Auto and Fall-back if S1.1 is OFF"
unfoldable pub earlier_setpoint : Switches → Mode → Readings → Past → ℤ
earlier_setpoint s mode r past = if is_auto_or_fallback mode && not s.balanceoff then r.sp else past.sp

-- c - c1; "c1 is c with the previous PV and SP, but with the present SP in Auto and Fall-back if S1.1 is OFF"
unfoldable pub change_of_difference : Switches → Mode → Readings → Past → ℤ
change_of_difference s mode r past =
    control_difference s.inverseoutput r.sp r.pv -ℤ control_difference s.inverseoutput (earlier_setpoint s mode r past) past.pv

-- "D is PV - 2 × previous PV + the one before."
unfoldable pub second_difference : Readings → Past → ℤ
second_difference r past = (r.pv -ℤ pos 2 *ℤ past.pv) +ℤ past.before

-- XP, "W = 1H - 1L", which is above zero, TI, TD, S2.8 and S2.4; none of these is below zero
unfoldable pub tuning_of : Parameters → Switches → Tuning
tuning_of p s =
    record {
      xp = nat_abs (XP p);
      span = nat_abs (H1 p -ℤ L1 p);
      ti = nat_abs (TI p);
      td = nat_abs (TD p);
      minutes = s.minutes;
      inverted = s.inverseoutput;
    }
