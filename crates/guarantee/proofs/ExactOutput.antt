-- The exact controller's output, by its own text, is what the rules' instruction gives, executed in fractions.
use Rattle.std.specs.Prelude.{if◌then◌else◌}
use mathlib.Core.Path.{◌≡◌, refl, sym, ap, ◌∙◌}
use mathlib.Core.Bool.{Bool, true, false, not, ◌&&◌, ◌||◌}
use mathlib.Core.List.{List}
use mathlib.Core.Option.{some}
use Prim.Native.Nat.{ℕ, suc, ◌≤◌}
use native.Mathlib.Omega.{arith}
use lib.Dec.{leb, eqb}
use lib.IntN.{ℤ, pos, neg_ℤ}
use borrow.Author.Tests.{eqb-true, eqb-false, leb-true, le-leb}
use Rattle.signals.specs.Bits.{bit}
use Rattle.signals.specs.Refusals.{refused_by, scan_tests}
use Rattle.signals.specs.Signals.{switches_of, buttons_of, adjustment_of}
use Rattle.signals.specs.declared.Input.{Input}
use Rattle.signals.specs.declared.Adjustment.TheVariants.{Raise, Lower, Neither}
use Rattle.terms.specs.Fraction.{Fraction, whole, plus}
use Rattle.terms.specs.Terms.{proportional_term, integral_term, derivative_term, limited_term}
use Rattle.modes.specs.Modes.{conditions_after, is_auto_or_fallback, is_limiting}
use Rattle.modes.specs.declared.Mode.{Mode}
use Rattle.modes.specs.declared.Mode.TheVariants.{Hold, Track, Forced, Manual, Auto, Remote, Ratio, Fallback}
use Rattle.parameters.specs.Table.{is_from}
use Rattle.setpoints.specs.declared.Readings.{Readings}
use Rattle.settings.specs.Settings.{settings_in, is_sum_right}
use Rattle.outputs.specs.ControlDifference.{control_difference, earlier_setpoint, change_of_difference, second_difference, tuning_of}
use Rattle.outputs.specs.History.{recalled}
use Rattle.outputs.specs.Instruction.{keep, set_to, add_terms, unlimited, between, exact_arithmetic, changed, limited_to, executed}
use Rattle.outputs.specs.Outputs as outputs
use Rattle.outputs.specs.Outputs.{minimum_of, adjusted, terms_of, limits_in, instruction_of, limits_written, restarted_to}
use Rattle.outputs.specs.Outputs.{restart_instruction}
use Rattle.outputs.specs.declared.Context.{Context}
use Rattle.outputs.specs.declared.History.{History}
use Rattle.outputs.specs.declared.History.TheVariants.{Nothing, One, Two}
use Rattle.controller.specs.Restart.{values_in, restart_tests, restored_settings, restart_accepted, restart_core}
use Rattle.controller.specs.Scan.{mode_now, context_of, core_after, status_of, accepted, refused, scan_core}
use Rattle.controller.specs.ValidLaws.{by_verdict_lem}
use Rattle.controller.specs.Write.{write_tests, write_accepted, write_core}
use Rattle.controller.specs.declared.Core.{Core}
use Rattle.guarantee.specs.Bytes.{word_at, sum_right}
use Rattle.guarantee.specs.Clock.{recalled_in}
use Rattle.guarantee.specs.Exact.{Call, scan, write, restart, one_more, is_accepted, outcome_of, output_after}
use Rattle.guarantee.specs.ExactOutput.{previous_pv, previous_sp, earlier_pv, c, band, proportional, integral, derivative, minimum}
use Rattle.guarantee.specs.ExactOutput.{to_minimum, by_hand, by_terms, in_mode, scan_output, write_output, restart_output}
use Rattle.guarantee.specs.Modes.{automatic_mode, manual_or_forced}
use Rattle.guarantee.proofs.Brought.{op_at, sum_is}
use Rattle.guarantee.proofs.Clock.{history_is}
use Rattle.guarantee.proofs.Counting.{next, mode_next, minimum_is}
use Rattle.guarantee.proofs.Modes.{mode_is_first}

-- ---- the terms

past_pv : (h : History) (r : Readings) → (recalled h r).pv ≡ previous_pv h r.pv
past_pv Nothing r = refl
past_pv (One pv sp) r = refl
past_pv (Two pv sp before) r = refl

past_sp : (h : History) (r : Readings) → (recalled h r).sp ≡ previous_sp h r.sp
past_sp Nothing r = refl
past_sp (One pv sp) r = refl
past_sp (Two pv sp before) r = refl

past_before : (h : History) (r : Readings) → (recalled h r).before ≡ earlier_pv h r.pv
past_before Nothing r = refl
past_before (One pv sp) r = refl
past_before (Two pv sp before) r = refl

module _ (h : History) (before now : Core) where
  pub proportional_is : (m : Mode) → let s = switches_of now.sw in let r = now.readings in
      proportional (is_auto_or_fallback m && not (bit now.sw 7)) h before now
      ≡ proportional_term (tuning_of before.parameters s) (change_of_difference s m r (recalled h r))
  unfolding proportional c band proportional_term tuning_of change_of_difference earlier_setpoint control_difference switches_of
  proportional_is m = rw (past_pv, past_sp) refl

  pub integral_is : let s = switches_of now.sw in let r = now.readings in
      integral before now ≡ integral_term (tuning_of before.parameters s) (control_difference s.inverseoutput r.sp r.pv)
  unfolding integral c band integral_term tuning_of control_difference switches_of
  integral_is = refl

  pub derivative_is : let s = switches_of now.sw in let r = now.readings in
      derivative h before now ≡ derivative_term (tuning_of before.parameters s) (second_difference r (recalled h r))
  unfolding derivative band derivative_term tuning_of second_difference switches_of
  derivative_is = rw (past_pv, past_before) refl

-- ---- in each mode

hand_choice : (t sp raise lower : Bool) (u : ℤ) (f : Fraction) →
    (if t then whole u else
    if sp then f else
    if raise && not lower then plus f (whole (pos 12)) else
    if lower && not raise then plus f (whole (neg_ℤ (pos 12))) else f)
    ≡ changed exact_arithmetic
    (if t then set_to u else
    if sp then keep else
    adjusted (if raise then (if lower then Neither else Raise) else if lower then Lower else Neither)) f
unfolding changed exact_arithmetic
hand_choice true sp raise lower u f = refl
hand_choice false true raise lower u f = refl
hand_choice false false true true u f = refl
hand_choice false false true false u f = refl
hand_choice false false false true u f = refl
hand_choice false false false false u f = refl

term_choice : (t : Bool) (p i d f : Fraction) →
    (if t then f else plus (plus (plus f (limited_term p)) (limited_term i)) (limited_term d))
    ≡ changed exact_arithmetic (if t then keep else add_terms p i d) f
unfolding changed exact_arithmetic
term_choice true p i d f = refl
term_choice false p i d f = refl

-- what the rules compute a scan by
abbrev context : Core → Input → Mode → Bool → Context
context now i m t = record { switches = switches_of now.sw; mode = m; tominimum = t; input = i }

module _ (before now : Core) (i : Input) (f : Fraction) (m : Mode) (t : Bool) where
  hand_is : to_minimum before now ≡ t →
      by_hand before now i f ≡ changed exact_arithmetic (outputs.by_hand before.parameters (context now i m t)) f
  unfolding by_hand minimum outputs.by_hand minimum_of switches_of buttons_of adjustment_of
  hand_is e = rw e (hand_choice t (bit i.buttons 3) (bit i.buttons 6) (bit i.buttons 7) _ f)

  terms_are : by_terms (is_auto_or_fallback m && not (bit now.sw 7)) before now i f
      ≡ changed exact_arithmetic (outputs.by_terms before.parameters (context now i m t) now.readings (recalled_in before i)) f
  unfolding by_terms outputs.by_terms terms_of limited_term
  terms_are =
      let h = recalled_in before i in
      rw (proportional_is h before now m, integral_is h before now, derivative_is h before now)
      (term_choice (bit i.sensors 0) _ _ _ f)

in_mode_lem : (before now : Core) (i : Input) (f : Fraction) (m : Mode) (t : Bool) → to_minimum before now ≡ t →
    in_mode (some m) before now i f
    ≡ executed exact_arithmetic (instruction_of before.parameters (context now i m t) now.readings (recalled_in before i)) f
unfolding executed instruction_of limits_in limited_to changed exact_arithmetic
in_mode_lem before now i f Hold t e = refl
in_mode_lem before now i f Track t e = refl
in_mode_lem before now i f Forced t e = rw (hand_is before now i f Forced t e) refl
in_mode_lem before now i f Manual t e = rw (hand_is before now i f Manual t e) refl
in_mode_lem before now i f Auto t e = rw (terms_are before now i f Auto t) refl
in_mode_lem before now i f Remote t e = rw (terms_are before now i f Remote t) refl
in_mode_lem before now i f Ratio t e = rw (terms_are before now i f Ratio t) refl
in_mode_lem before now i f Fallback t e = rw (terms_are before now i f Fallback t) refl

scan_is : (k : Core) (i : Input) (f : Fraction) →
    scan_output k (next k i) i f ≡ executed exact_arithmetic (accepted one_more k i).instruction f
unfolding scan_output next accepted core_after context_of
scan_is k i f =
    let x = context_of k (conditions_after one_more k.conditions i) i in
    rw (mode_next k i)
    (in_mode_lem k (next k i) i f x.mode x.tominimum (minimum_is k i) ∙
    ap (λ (h : History). executed exact_arithmetic (instruction_of k.parameters x (next k i).readings h) f) (sym (history_is k i)))

-- ---- a write

-- one of two neighbours
pub either : (n a : ℕ) → (eqb n a || eqb n (suc a)) ≡ is_from n a (suc a)
either n a = go (eqb n a) (eqb n (suc a)) refl refl
  where
    apart : (s t : Bool) → leb a n ≡ s → leb n (suc a) ≡ t → (n ≡ a → ⊥) → (n ≡ suc a → ⊥) → false ≡ (s && t)
    apart false t p q h k = refl
    apart true false p q h k = refl
    apart true true p q h k = absurd (omega (arith, leb-true a n p, leb-true n (suc a) q, h, k))

    within : (m : ℕ) → n ≡ m → a ≤ m → m ≤ suc a → true ≡ is_from n a (suc a)
    within m e h k = rw (e, le-leb a m h, le-leb m (suc a) k) refl

    go : (s t : Bool) → eqb n a ≡ s → eqb n (suc a) ≡ t → (s || t) ≡ is_from n a (suc a)
    go true t p q = within a (eqb-true n a p) (omega arith) (omega arith)
    go false true p q = within (suc a) (eqb-true n (suc a) q) (omega arith) (omega arith)
    go false false p q = apart (leb a n) (leb n (suc a)) refl refl (eqb-false n a p) (eqb-false n (suc a) q)

pub limiting_is : (m : Mode) → (manual_or_forced (some m) || automatic_mode (some m)) ≡ is_limiting m
limiting_is Hold = refl
limiting_is Track = refl
limiting_is Forced = refl
limiting_is Manual = refl
limiting_is Auto = refl
limiting_is Remote = refl
limiting_is Ratio = refl
limiting_is Fallback = refl

limit_choice : (a b : Bool) (low high : ℤ) (f : Fraction) →
    (if a && b then exact_arithmetic.limited low high f else f)
    ≡ limited_to exact_arithmetic (if a then (if b then between low high else unlimited) else unlimited) f
unfolding limited_to
limit_choice true true low high f = refl
limit_choice true false low high f = refl
limit_choice false b low high f = refl

write_is : (k now : Core) (n : ℕ) (f : Fraction) →
    write_output k now n f ≡ limited_to exact_arithmetic (limits_written n (mode_now k) now.parameters) f
unfolding write_output limits_written limits_in exact_arithmetic
write_is k now n f =
    rw (mode_is_first k, either n 15, limiting_is) (limit_choice (is_from n 15 16) (is_limiting (mode_now k)) _ _ f)

-- ---- a restart

always : (b : Bool) → (b || true) ≡ true
always true = refl
always false = refl

restart_units : (image : List ℕ) (b : Bool) (u : ℤ) →
    (if b || not (sum_right image) then u else pos (word_at image 118))
    ≡ (if b || not (is_sum_right (values_in image)) then u else pos (restored_settings (values_in image)).op)
unfolding restored_settings settings_in
restart_units image b u = rw (sym (sum_is image)) (go (is_sum_right (values_in image)) refl)
  where
    go : (t : Bool) → is_sum_right (values_in image) ≡ t →
        (if b || not t then u else pos (word_at image 118)) ≡ (if b || not t then u else pos (restored_settings (values_in image)).op)
    go true e = rw (e, op_at image) refl
    go false e = rw (always b) refl

restart_is : (k : Core) (image : List ℕ) (f : Fraction) → let o = restart_accepted k (values_in image) in
    restart_output o.next image ≡ executed exact_arithmetic o.instruction f
unfolding restart_output minimum restart_accepted restart_instruction restarted_to minimum_of executed changed limited_to exact_arithmetic
    switches_of
restart_is k image f = rw (restart_units image (bit k.sw 11) _) refl

-- ---- every call

pub outcome_is : (k : Core) (x : Call) (f : Fraction) → let o = outcome_of one_more k x in
    (if is_accepted o.answer then output_after k o.next x f else f) ≡ executed exact_arithmetic o.instruction f
unfolding outcome_of scan_core write_core write_accepted restart_core restart_accepted refused accepted status_of output_after executed
    changed
    limited_to next
outcome_is k (scan i) f =
    by_verdict_lem (λ o. (if is_accepted o.answer then output_after k o.next (scan i) f else f)
    ≡ executed exact_arithmetic o.instruction f) (refused_by (scan_tests k.clock i)) k
    (accepted one_more k i) (λ e. scan_is k i f) (λ n. refl)
outcome_is k (write w n v) f =
    by_verdict_lem (λ o. (if is_accepted o.answer then output_after k o.next (write w n v) f else f)
    ≡ executed exact_arithmetic o.instruction f) (refused_by (write_tests k w n v)) k
    (write_accepted k n v) (λ e. write_is k (write_accepted k n v).next n f) (λ m. refl)
outcome_is k (restart image) f =
    by_verdict_lem (λ o. (if is_accepted o.answer then output_after k o.next (restart image) f else f)
    ≡ executed exact_arithmetic o.instruction f) (refused_by (restart_tests image)) k
    (restart_accepted k (values_in image)) (λ e. restart_is k image f) (λ m. refl)
