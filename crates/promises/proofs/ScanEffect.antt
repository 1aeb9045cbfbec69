-- What an accepted scan leaves is what the sentences say.
use Rattle.std.specs.Prelude.{if◌then◌else◌}
use mathlib.Core.Path.{◌≡◌, refl, sym, ap, ◌∙◌}
use mathlib.Core.Bool.{Bool, true, false, ◌||◌}
use mathlib.Core.Option.{some}
use Prim.Native.Nat.{ℕ, ◌<◌}
use native.Mathlib.Omega.{arith}
use lib.Dec.{eqb}
use lib.IntN.{ℤ, pos, nat_abs, ◌+ℤ◌, ◌-ℤ◌, ◌*ℤ◌}
use borrow.Author.Tests.{ne_eqb}
use Rattle.integers.specs.Limit.{limited}
use Rattle.signals.specs.Bits.{bit}
use Rattle.signals.specs.Signals.{switches_of, buttons_of}
use Rattle.signals.specs.declared.Input.{Input}
use Rattle.signals.specs.declared.Switches.{Switches}
use Rattle.modes.specs.Modes.{counted, open_count_after, conditions_after, is_ratio}
use Rattle.modes.specs.declared.Mode.{Mode}
use Rattle.modes.specs.declared.Mode.TheVariants.{Remote, Ratio}
use Rattle.parameters.specs.Legal.{Legal}
use Rattle.parameters.specs.LegalLaws.{settings, settings_are}
use Rattle.parameters.specs.Table.{value}
use Rattle.parameters.specs.declared.Parameters.{Parameters}
use Rattle.scaling.specs.Ratio.{ratio_quotient, inverse_quotient}
use Rattle.scaling.specs.Root.{root_of}
use Rattle.scaling.specs.Scale.{scaled}
use Rattle.local_setpoint.specs.LocalSetpoint.{moved_by_hand, ratio_after, setpoint_moved, setpoint_after, following_setpoint}
use Rattle.setpoints.specs.Setpoints.{first_sample, process_variable, third_channel, trim_of, local_setpoint, remote_setpoint, quotient_of}
use Rattle.setpoints.specs.Setpoints.{ratio_setpoint, setpoint_in, setpoint_of, measured_power}
use Rattle.setpoints.specs.Computation.{computed, low_alarm, high_alarm}
use Rattle.setpoints.specs.ComputationLaws.{SampleRange, ratio_range}
use Rattle.controller.specs.Scan.{mode_now, context_of, computed_in, indications_after, core_after, accepted}
use Rattle.controller.specs.declared.Core.{Core}
use Rattle.guarantee.specs.Modes.{mode_in, track_mode}
use Rattle.guarantee.proofs.Modes.{mode_is_first}
use Rattle.promises.specs.Scans.{Scaled, NearestEven, expected_ratio, expected_setpoint, ScanEffect}
use Rattle.promises.specs.Words.{remote_or_ratio}
use Rattle.promises.proofs.Setpoints.{scaled_is, root_found, nearest_even_lem, by_hand_lem, setpoint_in_lem, local_one}
use Rattle.promises.proofs.Setpoints.{track_is, ratio_is, same_mode}

module _ (c : Core) (i : Input) (legal : Legal c.parameters) (sampled : SampleRange i) where
  unfoldable pub now : Core
  now = (accepted counted c i).next

  p : Parameters
  p = c.parameters

  s : Switches
  s = switches_of c.sw

  m : Mode
  m = mode_now now

  mode_now_lem : mode_in now ≡ some m
  unfolding m
  mode_now_lem = mode_is_first now

  power : Bool
  power = c.userbits.measuredpower

  trim : ℤ
  trim = trim_of p power m i

  sl : ℤ
  sl = setpoint_after p s.setpointtracks m i (process_variable p i)

  rs : ℤ
  rs = ratio_after p m i

  sp : ℤ
  sp = setpoint_of p s m sl rs trim i

  values_are : (n : ℕ) → value now.parameters n
      ≡ (if eqb n 21 then rs else if eqb n 20 then following_setpoint p m sl sp trim else value p n)
  unfolding now accepted core_after computed_in computed context_of p s m power trim sl rs sp settings mode_now
  values_are n = settings_are p legal _ _ n

  -- ---- the readings

  pv_now : now.readings.pv ≡ process_variable p i
  unfolding now accepted core_after computed_in computed context_of p
  pv_now = refl

  sp_now : now.readings.sp ≡ sp
  unfolding now accepted core_after computed_in computed context_of p s m power trim sl rs sp mode_now
  sp_now = refl

  mp_now : now.readings.mp ≡ measured_power p power i
  unfolding now accepted core_after computed_in computed context_of p power
  mp_now = refl

  sw_now : now.sw ≡ c.sw
  unfolding now accepted core_after
  sw_now = refl

  pv_open : bit i.sensors 0 ≡ true → now.readings.pv ≡ value p 2
  unfolding process_variable
  pv_open e = pv_now ∙ rw e refl

  -- of the sample that is scaled
  pv_of : (sample : ℕ) → first_sample p i.sample1 ≡ sample → bit i.sensors 0 ≡ false →
      Scaled (value p 2) (value p 1) sample now.readings.pv
  unfolding process_variable
  pv_of sample d e = rw (pv_now, e, d) (scaled_is (value p 2) (value p 1) sample)

  linear : value p 23 ≡ pos 0 → first_sample p i.sample1 ≡ i.sample1
  unfolding first_sample
  linear e = rw e refl

  rooted : value p 23 ≡ pos 1 → first_sample p i.sample1 ≡ root_of i.sample1
  unfolding first_sample
  rooted e = rw e refl

  -- ---- trim and MP

  trim_is : trim ≡ (if track_mode (mode_in now) || power then pos 0 else third_channel p i)
  unfolding trim trim_of
  trim_is = rw (mode_now_lem, track_is) refl

  mp_is : now.readings.mp ≡ (if power then third_channel p i else pos 0)
  unfolding measured_power
  mp_is = mp_now

  channel3_scaled : Scaled (value p 6) (value p 5) i.sample3 (third_channel p i)
  unfolding third_channel
  channel3_scaled = scaled_is (value p 6) (value p 5) i.sample3

  -- ---- RS and SL

  ratio_now : value now.parameters 21 ≡ rs
  ratio_now = values_are 21

  ratio_moved : value now.parameters 21 ≡ expected_ratio c now i
  unfolding expected_ratio rs ratio_after p
  ratio_moved = ratio_now ∙ by_hand_lem i (is_ratio m) (pos 12) _ _ _ ∙ rw (mode_now_lem, ratio_is) refl

  in_mode_lem : (n : Mode) → mode_in now ≡ some n → m ≡ n
  in_mode_lem n e = same_mode m n (sym mode_now_lem ∙ e)

  outside : remote_or_ratio (mode_in now) ≡ false → remote_or_ratio (some m) ≡ false
  outside e = ap remote_or_ratio (sym mode_now_lem) ∙ e

  setpoint_now : value now.parameters 20 ≡ following_setpoint p m sl sp trim
  setpoint_now = values_are 20

  setpoint_local : remote_or_ratio (mode_in now) ≡ false → value now.parameters 20 ≡ sl
  unfolding following_setpoint
  setpoint_local e = setpoint_now ∙ local_one m (outside e) _ _ sl

  setpoint_moved_lem : remote_or_ratio (mode_in now) ≡ false → value now.parameters 20 ≡ expected_setpoint c now i
  unfolding expected_setpoint sl setpoint_after setpoint_moved p s switches_of
  setpoint_moved_lem e =
      setpoint_local e ∙
      setpoint_in_lem m (outside e) (bit c.sw 10) (bit i.sensors 0) (value p 20)
      (limited (value p 10) (value p 9) (process_variable p i)) _
      (λ (here : Bool). moved_by_hand i here (pos 1) (value p 10) (value p 9) (value p 20)) (by_hand_lem i true (pos 1) _ _ _) ∙
      rw (mode_now_lem, pv_now, sw_now) refl

  setpoint_remote : mode_in now ≡ some Remote →
      value now.parameters 20 ≡ limited (value p 10) (value p 9) (now.readings.sp -ℤ trim)
  unfolding following_setpoint
  setpoint_remote e = setpoint_now ∙ rw (in_mode_lem Remote e, sp_now) refl

  setpoint_ratio : mode_in now ≡ some Ratio → value now.parameters 20 ≡ now.readings.sp
  unfolding following_setpoint
  setpoint_ratio e = setpoint_now ∙ rw (in_mode_lem Ratio e, sp_now) refl

  others : (n : ℕ) → (n ≡ 20 → ⊥) → (n ≡ 21 → ⊥) → value now.parameters n ≡ value p n
  others n a b = values_are n ∙ rw (ne_eqb n 21 b, ne_eqb n 20 a) refl

  -- ---- SP

  sp_local : remote_or_ratio (mode_in now) ≡ false →
      now.readings.sp ≡ limited (value p 10) (value p 9) (value now.parameters 20 +ℤ (if bit now.sw 15 then pos 0 else trim))
  unfolding sp setpoint_of setpoint_in local_setpoint s switches_of
  sp_local e =
      sp_now ∙ ap (limited (value p 10) (value p 9)) (local_one m (outside e) _ _ _) ∙ rw (sw_now, setpoint_local e) refl

  sp_remote : mode_in now ≡ some Remote →
      now.readings.sp ≡ limited (value p 10) (value p 9) (scaled (value p 2) (value p 1) i.sample2 +ℤ trim)
  unfolding sp setpoint_of setpoint_in remote_setpoint
  sp_remote e = sp_now ∙ rw (in_mode_lem Remote e) refl

  ratio_sum : ℕ
  ratio_sum = nat_abs (limited (value p 8) (value p 7) (rs +ℤ trim))

  sum_is : ratio_sum ≡ nat_abs (limited (value p 8) (value p 7) (value now.parameters 21 +ℤ trim))
  unfolding ratio_sum
  sum_is = rw ratio_now refl

  second_channel : ℤ
  second_channel = scaled (value p 4) (value p 3) i.sample2

  sp_ratio : mode_in now ≡ some Ratio →
      now.readings.sp ≡ limited (value p 10) (value p 9) (quotient_of (bit c.sw 13) second_channel ratio_sum +ℤ value p 22)
  unfolding sp setpoint_of setpoint_in ratio_setpoint ratio_sum second_channel s switches_of
  sp_ratio e = sp_now ∙ rw (in_mode_lem Ratio e) refl

  -- s lies above zero
  sum_some : 0 < ratio_sum
  unfolding ratio_sum p
  sum_some = (ratio_range c.parameters legal i sampled (rs +ℤ trim)).s_some

  quotient_is : bit c.sw 13 ≡ false →
      NearestEven (pos 100 *ℤ second_channel) ratio_sum (quotient_of (bit c.sw 13) second_channel ratio_sum)
  unfolding ratio_quotient
  quotient_is e = rw e (nearest_even_lem (pos 100 *ℤ second_channel) ratio_sum sum_some)

  inverse_is : bit c.sw 13 ≡ true →
      NearestEven (second_channel *ℤ pos ratio_sum) 100 (quotient_of (bit c.sw 13) second_channel ratio_sum)
  unfolding inverse_quotient
  inverse_is e = rw e (nearest_even_lem (second_channel *ℤ pos ratio_sum) 100 (omega arith))

  -- ---- the whole

  pub effect : ScanEffect c now i
  unfolding now accepted core_after conditions_after open_count_after counted buttons_of indications_after low_alarm high_alarm context_of
      computed_in
      computed p second_channel power
  effect =
      record {
        pv_open = pv_open;
        pv_linear = λ e d. pv_of i.sample1 (linear d) e;
        root = root_of i.sample1;
        root_is = root_found i.sample1 sampled.first;
        pv_root = λ e d. pv_of (root_of i.sample1) (rooted d) e;
        request = refl;
        opencount = refl;
        ratio_moved = ratio_moved;
        setpoint_moved_lem = setpoint_moved_lem;
        channel3 = third_channel p i;
        trim = trim;
        trim_of = record { channel3_scaled = channel3_scaled; trim_is = trim_is };
        mp_is = mp_is;
        sp_local = sp_local;
        channel2 = scaled (value p 2) (value p 1) i.sample2;
        channel2_scaled = scaled_is (value p 2) (value p 1) i.sample2;
        sp_remote = sp_remote;
        q = second_channel;
        q_scaled = scaled_is (value p 4) (value p 3) i.sample2;
        s = ratio_sum;
        s_is = sum_is;
        s_positive = sum_some;
        quotient = quotient_of (bit c.sw 13) second_channel ratio_sum;
        quotient_is = λ e. quotient_is;
        inverse_is = λ e. inverse_is;
        sp_ratio = sp_ratio;
        setpoint_remote = setpoint_remote;
        setpoint_ratio = setpoint_ratio;
        er_is = refl;
        low_alarm = refl;
        high_alarm = refl;
        battery = refl;
        buttons = refl;
        pins = refl;
        clock = refl;
        others = others;
        fault = refl;
        userbits = refl;
        sw = refl;
      }
