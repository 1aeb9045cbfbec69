-- Parameters are small enough to be moved; SL and RS stay within their limits.
use Rattle.std.specs.Prelude.{Bool, ◌&&◌, ℕ, ◌≤◌, ℤ, pos, ◌+ℤ◌, ◌-ℤ◌, ◌≤ℤ◌, if◌then◌else◌}
use Rattle.std.proofs.Math.Bool.{not}
use Rattle.std.proofs.Common.{arith}
use Rattle.integers.specs.Choice.{by_cases}
use Rattle.integers.specs.Limit.{limited, limited_low, limited_high}
use Rattle.integers.specs.Machine.{Small, read_back}
use Rattle.signals.specs.Signals.{buttons_of, adjustment_of, is_open}
use Rattle.signals.specs.declared.Input.{Input}
use Rattle.signals.specs.declared.Adjustment.{Adjustment}
use Rattle.signals.specs.declared.Adjustment.TheVariants.{Raise, Lower, Neither}
use Rattle.modes.specs.Modes.{is_automatic, is_remote, is_ratio}
use Rattle.modes.specs.declared.Mode.{Mode}
use Rattle.parameters.specs.Legal.{Legal}
use Rattle.parameters.specs.LegalLaws.{Inside, ranges, value_most}
use Rattle.parameters.specs.Table.{value, HR, LR, HS, LS, SL, RS}
use Rattle.parameters.specs.declared.Parameters.{Parameters}
use Rattle.local_setpoint.specs.LocalSetpoint.{moved, moved_by_hand, ratio_after, setpoint_moved, setpoint_after}
use Rattle.local_setpoint.specs.LocalSetpoint.{following_setpoint}

pub parameter_small : (p : Parameters) → Legal p → (n : ℕ) → 1 ≤ n → n ≤ 23 → Small (value p n)
parameter_small p legal n a b = record { small = omega (arith, value_most p legal n a b) }

-- for `grind`, at a call that moves a parameter
pub ruleset moves = (read_back, parameter_small)

pub limited_inside : (low high x : ℤ) → low ≤ℤ high → Inside low (limited low high x) high
limited_inside low high x h = record { not_below = limited_low low high x h; not_above = limited_high low high x }

chosen_inside : (t : Bool) (low high x y : ℤ) → Inside low x high → Inside low y high → Inside low (if t then x else y) high
chosen_inside t low high x y h k = by_cases (λ v. Inside low v high) t x y (λ e. h) (λ e. k)

moved_inside : (adjustment : Adjustment) (by low high v : ℤ) → low ≤ℤ high → Inside low v high →
    Inside low (moved adjustment by low high v) high
moved_inside Raise by low high v o h = limited_inside low high (v +ℤ by) o
moved_inside Lower by low high v o h = limited_inside low high (v -ℤ by) o
moved_inside Neither by low high v o h = h

by_hand_inside : (i : Input) (here : Bool) (by low high v : ℤ) → low ≤ℤ high → Inside low v high →
    Inside low (moved_by_hand i here by low high v) high
unfolding moved_by_hand
by_hand_inside i here by low high v o h =
    let b = buttons_of i.buttons in
    chosen_inside (b.sp && here) low high _ _ (moved_inside (adjustment_of b) by low high v o h) h

module _ (p : Parameters) (legal : Legal p) where
  pub ratio_inside : (mode : Mode) (i : Input) → Inside (LR p) (ratio_after p mode i) (HR p)
  unfolding ratio_after
  ratio_inside mode i =
      let r = ranges p legal in by_hand_inside i (is_ratio mode) (pos 12) (LR p) (HR p) (RS p) r.ratios.order r.ratio

  setpoint_moved_inside : (mode : Mode) (i : Input) → Inside (LS p) (setpoint_moved p mode i) (HS p)
  unfolding setpoint_moved
  setpoint_moved_inside mode i =
      let r = ranges p legal in
      by_hand_inside i (not (is_ratio mode) && not (is_remote mode)) (pos 1) (LS p) (HS p) (SL p) r.setpoints.order r.setpoint

  pub setpoint_inside : (setpointtracks : Bool) (mode : Mode) (i : Input) (pv : ℤ) →
      Inside (LS p) (setpoint_after p setpointtracks mode i pv) (HS p)
  unfolding setpoint_after
  setpoint_inside setpointtracks mode i pv =
      let r = ranges p legal in
      chosen_inside (setpointtracks && not (is_automatic mode)) (LS p)
      (HS p) _ _ (chosen_inside (is_open i) (LS p) (HS p) _ _ r.setpoint (limited_inside (LS p) (HS p) pv r.setpoints.order))
      (setpoint_moved_inside mode i)

  pub setpoint_limited : (x : ℤ) → Inside (LS p) (limited (LS p) (HS p) x) (HS p)
  setpoint_limited x = limited_inside (LS p) (HS p) x (ranges p legal).setpoints.order

  pub following_inside : (mode : Mode) (sl sp trim : ℤ) → Inside (LS p) sl (HS p) → Inside (LS p) sp (HS p) →
      Inside (LS p) (following_setpoint p mode sl sp trim) (HS p)
  unfolding following_setpoint
  following_inside mode sl sp trim h k =
      chosen_inside (is_remote mode) _ _ _ _ (setpoint_limited (sp -ℤ trim)) (chosen_inside (is_ratio mode) _ _ _ _ k h)
