-- The lines that are worked by hand hold of the rules: each side of each equation computes to the same bytes.
use mathlib.Core.Path.{refl}
use Rattle.integers.specs.Limit as Limit
use Rattle.integers.specs.Rounding.{half_up}
use Rattle.numerals.specs.Numerals as n
use Rattle.signals.specs.Refusals.{refused_by, scan_tests}
use Rattle.signals.specs.Signals.{buttons_of, pins_of, switches_of, adjustment_of}
use Rattle.modes.specs.Modes as m
use Rattle.words.specs.Words.{byte_of, md_high, md_low, MD, ds_low, DS}
use Rattle.words.specs.Written.{md_tests, conditions_written, power_written, user_bits_written}
use Rattle.parameters.specs.Table.{value, with_value, rule_of}
use Rattle.parameters.specs.Written.{written}
use Rattle.rights.specs.Rights as g
use Rattle.scaling.specs.Scale.{scaled}
use Rattle.setpoints.specs.Computation as r
use Rattle.local_setpoint.specs.LocalSetpoint as l
use Rattle.setpoints.specs.Setpoints as p
use Rattle.outputs.specs.History as h
use Rattle.outputs.specs.Instruction as o
use Rattle.outputs.specs.Outputs as u
use Rattle.controller.specs.Answers as a
use Rattle.controller.specs.Read.{value_in}
use Rattle.controller.specs.Scan as s
use Rattle.controller.specs.State as State
use Rattle.controller.specs.Write as w
use Rattle.terminal.specs.Commands as c
use Rattle.terminal.specs.Mnemonics as names
use Rattle.terminal.specs.Terminal as t
use Rattle.worked.specs.Figures.{AllHold}
use Rattle.worked.specs.LineFigures.{held, line_figures}
use Rattle.worked.proofs.Worked.{◌and◌}

pub line_figures_hold : AllHold line_figures
unfolding line_figures held t.answered t.answered_to t.read_to t.written_to t.replied t.reply_text t.value_text c.command_in c.command_of
    c.value_of c.is_word
    names.named names.numbered names.is_of names.mnemonic n.last_digits n.digit_byte n.places_within n.places n.digits n.decimal
    n.hexadecimal_word n.digit_value n.read_on n.digits_of n.with_sign n.integer_of n.word_of value_in w.write w.write_core w.write_tests
    w.access_now w.value_tests g.may_write g.pin_tests g.right_tests g.access_tests
    w.state_tests w.write_accepted w.core_written w.md_written w.ds_written w.parameter_written w.core_with written conditions_written
    power_written
    user_bits_written
    md_tests rule_of u.limits_written s.refused h.history_after s.scan s.scan_core s.accepted s.earlier_scans h.history_before
    s.response_from s.controller_after s.context_of s.computed_in s.indications_after s.core_after s.status_of s.mode_now
    State.fresh_controller State.fresh_core State.start_readings a.op_of a.electrical_of refused_by scan_tests buttons_of pins_of
    switches_of adjustment_of m.counted m.open_count_after m.conditions_after m.mode_of m.goes_to_minimum byte_of md_high md_low MD ds_low
    DS
    value with_value r.computed r.low_alarm r.high_alarm p.first_sample p.process_variable p.third_channel l.moved_by_hand
    l.ratio_after l.setpoint_moved l.setpoint_after l.following_setpoint p.trim_of p.local_setpoint p.setpoint_in p.setpoint_of
    p.measured_power
    scaled half_up Limit.limited Limit.at_least Limit.at_most o.stored_arithmetic o.changed o.limited_to o.executed
    u.terms_of u.by_terms u.limits_in u.instruction_of
line_figures_hold =
    refl and refl and refl and refl and
    refl and refl and
    refl and refl and
    refl and refl and
    refl and refl and refl and
    refl and refl and refl and refl and refl and refl and
    refl and refl and refl and
    refl and refl and refl and
    refl and
    tt
