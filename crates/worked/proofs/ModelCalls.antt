-- The rules give what the reference model gives, for each of its calls in specs/ModelCalls.antt: each side computes to
-- the same state, answer and bytes.
use mathlib.Core.Path.{refl}
use Rattle.integers.specs.Limit as Limit
use Rattle.integers.specs.Listed.{listed}
use Rattle.integers.specs.Rounding.{half_up, half_even, nearest_even}
use Rattle.integers.specs.TwosComplement.{as_word, from_word}
use Rattle.signals.specs.Refusals.{refused_by, scan_tests}
use Rattle.signals.specs.Signals.{buttons_of, pins_of, switches_of, adjustment_of}
use Rattle.fields.specs.Decoding as g
use Rattle.fields.specs.Fields as f
use Rattle.modes.specs.Modes as m
use Rattle.words.specs.Words.{byte_of, md_high, md_low, MD, ds_low, DS}
use Rattle.words.specs.Written.{conditions_written, power_written, md_tests}
use Rattle.parameters.specs.Legal.{are_legal}
use Rattle.parameters.specs.Range.{every}
use Rattle.parameters.specs.Repaired as n
use Rattle.parameters.specs.Table.{value, with_value, rule_of}
use Rattle.parameters.specs.Written.{limited_anew, written}
use Rattle.rights.specs.Rights as k
use Rattle.settings.specs.Settings as t
use Rattle.scaling.specs.Ratio.{inverse_quotient}
use Rattle.scaling.specs.Scale.{scaled}
use Rattle.setpoints.specs.Computation as e
use Rattle.local_setpoint.specs.LocalSetpoint as l
use Rattle.setpoints.specs.Setpoints as p
use Rattle.terms.specs.Fraction.{whole, at_least, at_most, limited, stored, stored_units, limited_stored}
use Rattle.terms.specs.Terms.{proportional_term, integral_term, derivative_term, limited_term, stored_term}
use Rattle.outputs.specs.ControlDifference as d
use Rattle.outputs.specs.History as h
use Rattle.outputs.specs.Instruction as o
use Rattle.outputs.specs.Outputs as u
use Rattle.controller.specs.Answers as a
use Rattle.controller.specs.Restart as r
use Rattle.controller.specs.Save as v
use Rattle.controller.specs.Scan as s
use Rattle.controller.specs.State.{start_readings}
use Rattle.controller.specs.Write as w
use Rattle.worked.specs.Figures.{AllHold}
use Rattle.worked.specs.ModelCalls.{model_calls}
use Rattle.worked.proofs.Worked.{◌and◌}

pub model_calls_hold : AllHold model_calls
unfolding model_calls s.scan s.scan_core s.accepted s.earlier_scans h.history_before s.response_from s.controller_after
    s.context_of s.computed_in s.indications_after s.core_after s.status_of s.mode_now a.op_of a.electrical_of refused_by
    scan_tests buttons_of pins_of switches_of adjustment_of m.counted m.open_count_after m.conditions_after m.mode_of
    m.goes_to_minimum byte_of md_high md_low MD ds_low DS value with_value e.computed e.low_alarm e.high_alarm p.first_sample
    p.process_variable p.third_channel l.moved_by_hand l.ratio_after l.setpoint_moved l.setpoint_after l.following_setpoint
    p.trim_of p.local_setpoint p.remote_setpoint p.ratio_setpoint p.setpoint_in p.setpoint_of p.measured_power scaled half_up
    Limit.limited Limit.at_least Limit.at_most d.control_difference d.earlier_setpoint d.change_of_difference
    d.second_difference d.tuning_of h.history_after o.stored_arithmetic o.changed o.limited_to o.executed u.terms_of u.by_terms
    u.by_hand u.minimum_of u.limits_in u.limits_written u.instruction_of u.restarted_to u.restart_instruction proportional_term
    integral_term derivative_term limited_term stored_term whole at_least at_most limited stored stored_units limited_stored
    nearest_even half_even inverse_quotient w.write w.write_core w.write_accepted w.write_tests w.access_now w.value_tests
    k.may_write k.pin_tests k.right_tests k.access_tests w.state_tests w.core_with w.core_written w.md_written
    w.parameter_written limited_anew written rule_of conditions_written power_written md_tests r.restart r.restart_core
    r.restart_tests r.restart_accepted r.restored_settings r.repaired_settings r.is_legal v.saved_image v.settings_now
    v.settings_of start_readings f.fields_from f.field_bytes f.value_bytes f.tag_of f.length_of f.with_sumcheck f.sum_of f.sum
    f.save_tests f.saved_in g.well_formed_from g.values_from g.value_in g.has_header are_legal every n.repaired
    n.setpoint_and_ratio_limited n.by_pairs n.paired_value n.by_range n.ranged_value n.widest_output t.image_of t.values_of
    t.value_at t.user_bits_number t.user_bits_in t.parameter_in t.parameters_in t.settings_in t.is_sum_right t.are_others_legal
    t.legal_user_bits listed as_word from_word
model_calls_hold =
    refl and refl and refl and refl and refl and refl and refl and
    refl and refl and
    refl and refl and
    (refl, refl) and
    tt
