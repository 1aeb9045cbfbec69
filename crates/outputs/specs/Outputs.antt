-- Document 01: what a call does to the output. One scan, step 6, in each mode; a write; a restart.
use Rattle.std.specs.Prelude.{Bool, ℕ, min, ℤ, pos, neg_ℤ, if◌then◌else◌}
use Rattle.signals.specs.Signals.{buttons_of, adjustment_of, is_open}
use Rattle.signals.specs.declared.Adjustment.{Adjustment}
use Rattle.signals.specs.declared.Adjustment.TheVariants.{Raise, Lower, Neither}
use Rattle.signals.specs.declared.Switches.{Switches}
use Rattle.modes.specs.Modes.{is_limiting}
use Rattle.modes.specs.declared.Mode.{Mode}
use Rattle.modes.specs.declared.Mode.TheVariants.{Hold, Track, Forced, Manual, Auto, Remote, Ratio, Fallback}
use Rattle.parameters.specs.Table.{is_from, HO, LO}
use Rattle.parameters.specs.declared.Parameters.{Parameters}
use Rattle.setpoints.specs.declared.Readings.{Readings}
use Rattle.terms.specs.Terms.{proportional_term, integral_term, derivative_term}
use Rattle.outputs.specs.ControlDifference.{control_difference, change_of_difference, second_difference, tuning_of}
use Rattle.outputs.specs.History.{recalled}
use Rattle.outputs.specs.Instruction.{Change, keep, set_to, move_by, add_terms, Limits, unlimited, between, Instruction}
use Rattle.outputs.specs.declared.History.{History}
use Rattle.outputs.specs.declared.Context.{Context}

-- ""Minimum" sets OP to LO, or to HO with S2.2 ON."
unfoldable pub minimum_of : Parameters → Switches → ℤ
minimum_of p s = if s.displayinversion then HO p else LO p

-- "one of Raise, Lower .. moves it 12 units"
abbrev pub adjusted : Adjustment → Change
adjusted Raise = move_by (pos 12)
adjusted Lower = move_by (neg_ℤ (pos 12))
adjusted Neither = keep

-- "Manual and Forced: one of Raise, Lower without SP moves it 12 units; but on the 85th open scan, if
-- the mode just before this scan was automatic and S2.5 is ON, it goes to minimum instead."
unfoldable pub by_hand : Parameters → Context → Change
by_hand p x =
    let b = buttons_of x.input.buttons in
    if x.tominimum then set_to (minimum_of p x.switches) else
    if b.sp then keep else adjusted (adjustment_of b)

-- the three terms
unfoldable pub terms_of : Parameters → Context → Readings → History → Change
terms_of p x r h =
    let t = tuning_of p x.switches in
    let past = recalled h r in
    add_terms (proportional_term t (change_of_difference x.switches x.mode r past))
    (integral_term t (control_difference x.switches.inverseoutput r.sp r.pv))
    (derivative_term t (second_difference r past))

-- "Automatic and open: kept. Automatic otherwise, an automatic scan: the three terms are added."
unfoldable pub by_terms : Parameters → Context → Readings → History → Change
by_terms p x r h = if is_open x.input then keep else terms_of p x r h

-- "Hold: kept. Track: the lesser of sample 3 and 9999."
abbrev pub change_in : Mode → Parameters → Context → Readings → History → Change
change_in Hold p x r h = keep
change_in Track p x r h = set_to (pos (min x.input.sample3 9999))
change_in Forced p x r h = by_hand p x
change_in Manual p x r h = by_hand p x
change_in Auto p x r h = by_terms p x r h
change_in Remote p x r h = by_terms p x r h
change_in Ratio p x r h = by_terms p x r h
change_in Fallback p x r h = by_terms p x r h

-- "Outside Hold and Track the output is then limited to LO..HO."
unfoldable pub limits_in : Mode → Parameters → Limits
limits_in mode p = if is_limiting mode then between (LO p) (HO p) else unlimited

-- what a scan in this situation does to the output: the change of its mode, and "then" the limits
unfoldable pub instruction_of : Parameters → Context → Readings → History → Instruction
instruction_of p x r h = record { change = change_in x.mode p x r h; limits = limits_in x.mode p }

-- ---- a write: "HO or LO limits the output unless the mode is Hold or Track", numbers 15 and 16, to
-- the limits as they are now
unfoldable pub limits_written : ℕ → Mode → Parameters → Limits
limits_written n mode p = if is_from n 15 16 then limits_in mode p else unlimited

-- ---- a restart: it "takes the rest, OP limited to LO..HO; S2.5 ON makes the request Manual and OP
-- minimum", and so does a wrong sumcheck

unfoldable pub restarted_to : Parameters → Switches → Bool → ℕ → ℤ
restarted_to p s tominimum op = if tominimum then minimum_of p s else pos op

unfoldable pub restart_instruction : Parameters → Switches → Bool → ℕ → Instruction
restart_instruction p s tominimum op = record { change = set_to (restarted_to p s tominimum op); limits = between (LO p) (HO p) }
