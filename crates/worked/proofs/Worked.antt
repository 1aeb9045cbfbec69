-- Document 01's figures worked by hand, and further ones, hold of the rules: each side of each equation computes to the
-- same number.
use Rattle.std.specs.Prelude.{Ok}
use mathlib.Core.Path.{◌≡◌, refl, sym}
use mathlib.Core.List.{[], ◌∷◌}
use Prim.Native.Nat.{ℕ, ◌+◌, ◌*◌}
use lib.Dec.{T, leb, ltb, lit<, lit≤}
use native.Mathlib.Omega.{arith}
use lib.IntN.{pos, neg_ℤ}
use lib.ListN.{drop}
use Rattle.integers.specs.Limit as Limit
use Rattle.integers.specs.Listed.{listed}
use Rattle.integers.specs.Parts.{integers}
use Rattle.integers.specs.Rounding.{half_up, half_even, nearest_even}
use Rattle.integers.specs.TwosComplement.{as_word}
use Rattle.signals.specs.Refusals.{refused_by, scan_tests}
use Rattle.signals.specs.Signals.{buttons_of, pins_of, switches_of, adjustment_of}
use Rattle.fields.specs.Fields as f
use Rattle.modes.specs.Modes as m
use Rattle.modes.specs.Modes.{counted, open_count_after}
use Rattle.modes.specs.declared.Mode.TheVariants.{Remote, Fallback}
use Rattle.answers.specs.declared.ScanValues.{ScanValues}
use Rattle.words.specs.Words.{byte_of, md_high, md_low, MD, ds_low, DS}
use Rattle.words.specs.Written.{md_tests, conditions_written, power_written}
use Rattle.parameters.specs.Table.{value, with_value, rule_of}
use Rattle.parameters.specs.Written.{written, limited_anew}
use Rattle.rights.specs.Rights as g
use Rattle.rights.specs.declared.Writer.TheVariants.{Engineer}
use Rattle.settings.specs.Settings as t
use Rattle.scaling.specs.Ratio.{ratio_quotient, inverse_quotient}
use Rattle.scaling.specs.Root.{root_of, root_from, root_is, root_same}
use Rattle.scaling.specs.Scale.{scaled}
use Rattle.setpoints.specs.Computation as r
use Rattle.local_setpoint.specs.LocalSetpoint as l
use Rattle.setpoints.specs.Setpoints as p
use Rattle.terms.specs.Fraction.{whole, plus, at_least, at_most, limited, stored, stored_units, limited_stored}
use Rattle.terms.specs.Terms.{proportional_term, integral_term, derivative_term, limited_term, stored_term}
use Rattle.outputs.specs.ControlDifference as d
use Rattle.outputs.specs.History as h
use Rattle.outputs.specs.Instruction as o
use Rattle.outputs.specs.Outputs as u
use Rattle.controller.specs.Answers as a
use Rattle.controller.specs.Answers.{number, response_of}
use Rattle.controller.specs.Save as c
use Rattle.controller.specs.Save.{saved_image}
use Rattle.controller.specs.Scan as s
use Rattle.controller.specs.Scan.{scan}
use Rattle.controller.specs.State as State
use Rattle.controller.specs.State.{fresh_controller}
use Rattle.controller.specs.ValidLaws.{valid_fresh}
use Rattle.controller.specs.Write as w
use Rattle.controller.specs.Write.{write}
use Rattle.controller.specs.declared.CallResult.{CallResult}
use Rattle.controller.specs.declared.Controller.{Controller}
use Rattle.controller.specs.declared.ScanResult.{ScanResult}
use Rattle.guarantee.specs.Exact as call
use Rattle.guarantee.specs.Exact.{Calls, none, ◌then◌}
use Rattle.guarantee.specs.Modes as q
use Rattle.guarantee.specs.Linked.{ScanEnsures, ChainTo, started, wrote}
use Rattle.guarantee.proofs.Existence.{scan_by, write_by_lem}
use Rattle.guarantee.proofs.Linked.{valid_linked}
use Rattle.promises.specs.Scans.{Scaled}
use Rattle.worked.specs.FallBackFigures.{trimmed, pin_at_one, pin_at_zero, after_remote, after_fall_back, formerly}
use Rattle.worked.specs.FallBackFigures.{fall_back_figures}
use Rattle.worked.specs.Figures.{AllHold, figures, further_figures, once_scanned, biased, scan_figures}

-- the answers of the two scans of Fall-back's figures
abbrev remote_values : ScanValues
remote_values = record { md = 0x0C04; ds = 0xA02F; op = 0; electrical = 0; mode = Remote; pv = pos 0 }

abbrev fall_back_values : ScanValues
fall_back_values = record { md = 0x1000; ds = 0x803F; op = 0; electrical = 0; mode = Fallback; pv = pos 300 }

infixr 5 ◌and◌
pub ◌and◌ : {A B : Type 0} → A → B → A × B
a and b = (a, b)

-- of -100 to 100, sample 5750
fifteen : Scaled (neg_ℤ (pos 100)) (pos 100) 5750 (pos 15)
fifteen = record { quotient = 115; nearest = record { not_above = omega arith; below_next = omega arith }; above = refl }

-- two writes that are accepted lead to the controller of the figures of Fall-back
trimmed_chain : (c : Controller) → write (fresh_controller 0) Engineer 6 (neg_ℤ (pos 100)) ≡ record { next = c; answer = a.acceptance } →
    write c Engineer 5 (pos 100) ≡ record { next = trimmed 0; answer = a.acceptance } →
    ChainTo 0 (none then call.write Engineer 6 (neg_ℤ (pos 100)) then call.write Engineer 5 (pos 100)) (trimmed 0)
trimmed_chain c e d =
    let first = write_by_lem (fresh_controller 0) Engineer 6 (neg_ℤ (pos 100)) (accepted c) (valid_fresh 0) (sym e) in
    let one = wrote Engineer 6 (neg_ℤ (pos 100)) (accepted c) (started (fresh_controller 0) (refl, valid_fresh 0)) first in
    let second = write_by_lem c Engineer 5 (pos 100) (accepted (trimmed 0)) (valid_linked one) (sym d) in
    record { responses = _; chain = wrote Engineer 5 (pos 100) (accepted (trimmed 0)) one second }
  where
    accepted : Controller → CallResult
    accepted next = record { controller = next; verdict = Ok tt }

-- and so do two scans that are accepted
abbrev remote_result : ScanResult
remote_result = record { controller = after_remote (trimmed 0) 5000 5750; answer = Ok remote_values }

abbrev fall_back_result : ScanResult
fall_back_result = record { controller = after_fall_back (after_remote (trimmed 0) 5000 5750) 5750; answer = Ok fall_back_values }

remote_made : {calls : Calls} → ChainTo 0 calls (trimmed 0) → response_of remote_result ≡ scan (trimmed 0) (pin_at_one 5000 5750 0) →
    ScanEnsures (trimmed 0) (pin_at_one 5000 5750 0) remote_result
remote_made k e = scan_by (trimmed 0) (pin_at_one 5000 5750 0) remote_result (valid_linked k.chain) e

pub scan_figures_hold : AllHold scan_figures × AllHold fall_back_figures
unfolding scan_figures once_scanned biased fall_back_figures trimmed formerly q.same_request q.condition q.priority q.first
    s.refused h.history_after s.scan s.scan_core s.accepted s.earlier_scans h.history_before s.response_from
    s.controller_after s.context_of s.computed_in s.indications_after s.core_after s.status_of s.mode_now State.fresh_controller
    State.fresh_core State.start_readings a.op_of a.electrical_of refused_by scan_tests buttons_of pins_of switches_of
    adjustment_of m.counted m.open_count_after m.conditions_after m.mode_of m.goes_to_minimum byte_of md_high md_low MD ds_low DS
    value with_value r.computed r.low_alarm r.high_alarm p.first_sample p.process_variable p.third_channel l.moved_by_hand
    l.ratio_after l.setpoint_moved l.setpoint_after l.following_setpoint p.trim_of p.local_setpoint p.remote_setpoint
    p.ratio_setpoint p.setpoint_in p.setpoint_of p.measured_power
    scaled half_up Limit.limited Limit.at_least Limit.at_most d.control_difference d.earlier_setpoint d.change_of_difference
    d.second_difference d.tuning_of o.stored_arithmetic o.changed o.limited_to o.executed u.terms_of u.by_terms u.limits_in
    u.instruction_of proportional_term integral_term derivative_term limited_term stored_term whole at_least at_most limited
    stored stored_units limited_stored nearest_even half_even w.write w.write_core w.write_accepted w.write_tests w.access_now
    w.value_tests g.may_write g.pin_tests g.right_tests g.access_tests w.state_tests w.core_with w.core_written w.md_written
    w.parameter_written md_tests conditions_written power_written rule_of written limited_anew u.limits_written ratio_quotient
    inverse_quotient
scan_figures_hold = (
  refl and refl and refl and refl and refl and refl and refl and refl and tt,
  (refl, refl) and (refl, refl) and (refl, refl) and (refl, refl) and (refl, refl) and (refl, refl) and (refl, refl) and
      (refl, refl) and (refl, refl) and (refl, refl) and (refl, refl) and (refl, refl) and (refl, refl) and
      (refl, refl) and (refl, refl) and (refl, refl) and (refl, refl) and
      record {
        word = 0;
        calls = _;
        d = trimmed 0;
        before = trimmed_chain _ refl refl;
        i = pin_at_one 5000 5750 0;
        j = pin_at_zero 5750;
        r = remote_result;
        q = fall_back_result;
        falls_back = record {
          remote = record {
            made = remote_made
                (trimmed_chain _ refl refl) refl;
            values = remote_values;
            accepted = refl;
            in_mode_lem = refl;
          };
          fall_back = record {
            made =
                scan_by remote_result.controller (pin_at_zero 5750) fall_back_result
                (remote_made (trimmed_chain _ refl refl) refl).1 refl;
            values = fall_back_values;
            accepted = refl;
            in_mode_lem = refl;
          };
          channel3 = pos 15;
          trim_of = record { channel3_scaled = fifteen; trim_is = refl };
          not_below = omega (arith, integers);
          not_above = omega (arith, integers);
          same_channel3 = fifteen;
          no_raise = refl;
          no_lower = refl;
        };
        setpoint = refl;
      } and
      tt,
)

-- each word is refused with 9 whatever else the state is
write_figures : (c : Controller) → (write c Engineer 24 (pos 0x0000) ≡ record { next = c; answer = number 9 }) ×
    (write c Engineer 24 (pos 0x1800) ≡ record { next = c; answer = number 9 })
unfolding w.write w.write_core w.write_tests w.access_now w.value_tests w.state_tests g.may_write g.pin_tests g.right_tests
    g.access_tests md_tests rule_of refused_by s.response_from s.controller_after
    s.refused o.changed o.limited_to o.executed
write_figures c = (refl, refl)

image_figure : (sw : ℕ) → drop 132 (saved_image (fresh_controller sw)) ≡ 0x7F ∷ 0 ∷ 2 ∷ 0xAC ∷ 0x42 ∷ []
unfolding c.saved_image c.settings_now c.settings_of State.fresh_controller State.fresh_core a.op_of t.image_of t.values_of
    t.value_at t.user_bits_number listed as_word value f.fields_from f.field_bytes f.value_bytes f.tag_of f.length_of
    f.with_sumcheck f.sum_of f.sum
image_figure sw = refl

pub worked : AllHold figures
unfolding figures proportional_term integral_term derivative_term limited_term stored_term whole at_least at_most limited stored
    stored_units nearest_even half_even half_up scaled ratio_quotient inverse_quotient counted open_count_after
    byte_of md_high md_low MD ds_low DS buttons_of pins_of switches_of
worked =
    (lit< tt, lit< tt, refl) and
    (lit< tt, lit< tt, refl) and refl and
    refl and
    (lit< tt, lit< tt, refl) and
    refl and refl and
    refl and refl and refl and
    refl and
    refl and refl and
    refl and
    refl and
    (λ c. (write_figures c).0) and (λ c. (write_figures c).1) and
    image_figure and
    tt

-- a root is told by its square and the next one's, which are shorter to compute than the search from 10000 down
root_figure : (s r : ℕ) → T (leb s 10000) → T (leb (r * r) (10000 * s)) → T (ltb (10000 * s) ((r + 1) * (r + 1))) → root_of s ≡ r
root_figure s r sample fits next = root_same (root_is s (lit≤ sample)) (root_from (lit≤ fits) (lit< next))

pub further_figures_hold : AllHold further_figures
unfolding further_figures o.changed o.exact_arithmetic plus proportional_term integral_term derivative_term limited_term
    stored_term whole at_least at_most limited stored stored_units nearest_even half_even inverse_quotient
further_figures_hold =
    refl and refl and
    refl and refl and refl and
    refl and refl and
    (lit< tt, lit< tt, refl) and
    root_figure 0 0 tt tt tt and root_figure 400 2000 tt tt tt and root_figure 1600 4000 tt tt tt and root_figure 10000 10000 tt tt tt and
    root_figure 2 141 tt tt tt and root_figure 9998 9998 tt tt tt and
    refl and refl and
    tt
