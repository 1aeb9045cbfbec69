-- Our own stored output after an accepted scan is what step 6 says.
use Rattle.std.specs.Prelude.{if◌then◌else◌}
use mathlib.Core.Path.{◌≡◌, refl, sym, subst, ◌∙◌}
use mathlib.Core.Bool.{Bool, true, false, not, ◌&&◌}
use mathlib.Core.Option.{some, none}
use lib.IntN.{ℤ, pos, neg_ℤ, ◌+ℤ◌, ◌*ℤ◌}
use Rattle.signals.specs.Bits.{bit}
use Rattle.signals.specs.Refusals.{refused_by, scan_tests}
use Rattle.signals.specs.Signals.{switches_of, buttons_of, adjustment_of}
use Rattle.signals.specs.declared.Input.{Input}
use Rattle.signals.specs.declared.Adjustment.TheVariants.{Raise, Lower, Neither}
use Rattle.terms.specs.Fraction.{stored_units, limited_stored}
use Rattle.terms.specs.Terms.{proportional_term, integral_term, derivative_term, limited_term, stored_term}
use Rattle.terms.specs.TermLaws.{term_near, proportional_positive, integral_positive, derivative_positive}
use Rattle.modes.specs.Modes as modes
use Rattle.modes.specs.Modes.{counted, conditions_after, is_auto_or_fallback}
use Rattle.modes.specs.declared.Mode.{Mode}
use Rattle.modes.specs.declared.Mode.TheVariants.{Hold, Track, Forced, Manual, Auto, Remote, Ratio, Fallback}
use Rattle.parameters.specs.Legal.{Legal}
use Rattle.outputs.specs.ControlDifference.{control_difference, change_of_difference, second_difference, tuning_of}
use Rattle.outputs.specs.History.{recalled}
use Rattle.outputs.specs.Instruction.{keep, set_to, stored_arithmetic, changed, limited_to, executed}
use Rattle.outputs.specs.Outputs as outputs
use Rattle.outputs.specs.Outputs.{minimum_of, adjusted, terms_of, limits_in, instruction_of}
use Rattle.outputs.specs.OutputLaws.{tuning_range}
use Rattle.outputs.specs.declared.Context.{Context}
use Rattle.outputs.specs.declared.History.{History}
use Rattle.controller.specs.Answers.{Response}
use Rattle.controller.specs.Scan.{mode_now, context_of, core_after, accepted, controller_after, response_from}
use Rattle.controller.specs.declared.Controller.{Controller}
use Rattle.controller.specs.declared.Core.{Core}
use Rattle.guarantee.specs.ExactOutput.{minimum}
use Rattle.guarantee.specs.Clock.{recalled_in}
use Rattle.guarantee.specs.Modes.{mode_in}
use Rattle.guarantee.proofs.Bound.{near_within}
use Rattle.guarantee.proofs.Clock.{history_is}
use Rattle.guarantee.proofs.Counting.{automatic_is}
use Rattle.guarantee.proofs.ExactOutput.{proportional_is, integral_is, derivative_is}
use Rattle.guarantee.proofs.Modes.{mode_is_first}
use Rattle.promises.specs.StoredOutputs.{goes_to_minimum, stored_by_hand, StoredTerms, StoredOutput, StoredOutputs, stored_between_limits}
use Rattle.promises.proofs.RefusalCauses.{scan_tests_lem, accepted_scan}

hand_choice : (t sp raise lower : Bool) (u x : ℤ) →
    (if t then u *ℤ pos 65536 else
    if sp then x else
    if raise && not lower then x +ℤ pos 12 *ℤ pos 65536 else
    if lower && not raise then x +ℤ neg_ℤ (pos 12) *ℤ pos 65536 else x)
    ≡ changed stored_arithmetic
    (if t then set_to u else
    if sp then keep else
    adjusted (if raise then (if lower then Neither else Raise) else if lower then Lower else Neither)) x
unfolding changed stored_arithmetic stored_units
hand_choice true sp raise lower u x = refl
hand_choice false true raise lower u x = refl
hand_choice false false true true u x = refl
hand_choice false false true false u x = refl
hand_choice false false false true u x = refl
hand_choice false false false false u x = refl

abbrev context : Core → Input → Mode → Bool → Context
context now i m t = record { switches = switches_of now.sw; mode = m; tominimum = t; input = i }

abbrev after_in : Core → Core → Input → ℤ → Mode → Bool → ℤ
after_in before now i x m t =
    executed stored_arithmetic (instruction_of before.parameters (context now i m t) now.readings (recalled_in before i)) x

module _ (before now : Core) (i : Input) (x : ℤ) (m : Mode) (t : Bool) where
  hand_is : goes_to_minimum before now i ≡ t →
      stored_by_hand before now i x ≡ changed stored_arithmetic (outputs.by_hand before.parameters (context now i m t)) x
  unfolding stored_by_hand minimum outputs.by_hand minimum_of switches_of buttons_of adjustment_of
  hand_is e = rw e (hand_choice t (bit i.buttons 3) (bit i.buttons 6) (bit i.buttons 7) _ x)

  terms_are : (present : Bool) → Legal before.parameters → is_auto_or_fallback m && not (bit now.sw 7) ≡ present →
      StoredTerms present before now i x
      (stored_between_limits before.parameters
      (changed stored_arithmetic (outputs.by_terms before.parameters (context now i m t) now.readings (recalled_in before i)) x))
  unfolding outputs.by_terms terms_of changed stored_arithmetic limited_term
  terms_are present legal q =
      let s = switches_of now.sw in
      let r = now.readings in
      let h = recalled_in before i in
      let tuned = tuning_range before.parameters s legal in
      let p = proportional_term (tuning_of before.parameters s) (change_of_difference s m r (recalled h r)) in
      let g = integral_term (tuning_of before.parameters s) (control_difference s.inverseoutput r.sp r.pv) in
      let d = derivative_term (tuning_of before.parameters s) (second_difference r (recalled h r)) in
      record {
        kept = λ e. rw e refl;
        p = stored_term p;
        p_near = rw (sym q, proportional_is h before now m) (near_within _ _ 1 (term_near p (proportional_positive _ tuned _)));
        t = stored_term g;
        t_near = rw (integral_is h before now) (near_within _ _ 1 (term_near g (integral_positive _ tuned _)));
        d = stored_term d;
        d_near = rw (derivative_is h before now) (near_within _ _ 1 (term_near d (derivative_positive _ tuned _)));
        added = λ e. rw e refl;
      }

stored_in : (before now : Core) (i : Input) (x : ℤ) (m : Mode) (t : Bool) → Legal before.parameters → goes_to_minimum before now i ≡ t →
    StoredOutput (some m) before now i x (after_in before now i x m t)
unfolding executed instruction_of limits_in limited_to changed stored_arithmetic limited_stored stored_units
stored_in before now i x Hold t legal e = refl
stored_in before now i x Track t legal e = refl
stored_in before now i x Forced t legal e = rw (hand_is before now i x Forced t e) refl
stored_in before now i x Manual t legal e = rw (hand_is before now i x Manual t e) refl
stored_in before now i x Auto t legal e = terms_are before now i x Auto t _ legal refl
stored_in before now i x Remote t legal e = terms_are before now i x Remote t _ legal refl
stored_in before now i x Ratio t legal e = terms_are before now i x Ratio t _ legal refl
stored_in before now i x Fallback t legal e = terms_are before now i x Fallback t _ legal refl

module _ (k : Core) (i : Input) where
  unfoldable next : Core
  next = (accepted counted k i).next

  mode_next : mode_in next ≡ some (context_of k (conditions_after counted k.conditions i) i).mode
  unfolding next accepted core_after context_of mode_now
  mode_next = mode_is_first next

  minimum_is : goes_to_minimum k next i ≡ (context_of k (conditions_after counted k.conditions i) i).tominimum
  unfolding goes_to_minimum next accepted core_after context_of modes.goes_to_minimum switches_of mode_now
  minimum_is = rw (mode_is_first k, automatic_is) refl

  scan_stored : (x : ℤ) → Legal k.parameters →
      StoredOutput (mode_in next) k next i x (executed stored_arithmetic (accepted counted k i).instruction x)
  unfolding next accepted core_after context_of
  scan_stored x legal =
      let y = context_of k (conditions_after counted k.conditions i) i in
      rw mode_next
      (subst (λ (h : History). StoredOutput (some y.mode) k next i x
      (executed stored_arithmetic (instruction_of k.parameters y next.readings h) x)) (sym (history_is k i))
      (stored_in k next i x y.mode y.tominimum legal minimum_is))

abbrev Stored : Controller → Input → Response → Type 0
Stored d i h = StoredOutput (mode_in h.next.core) d.core h.next.core i d.output h.next.output

stored : (d : Controller) (i : Input) → Legal d.core.parameters → Stored d i (response_from d (accepted counted d.core i))
unfolding response_from controller_after next
stored d i legal = scan_stored d.core i d.output legal

pub stored_outputs : StoredOutputs
stored_outputs d i r valid e in_range_lem =
    let passes : refused_by (scan_tests d.core.clock i) ≡ none = scan_tests_lem d.core.clock i ∙ in_range_lem in
    subst (Stored d i) (sym (e.0 ∙ accepted_scan d i passes)) (stored d i valid.legal)
