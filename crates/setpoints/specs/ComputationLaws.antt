-- How large the readings are, that SP comes within its limits, and that the parameters stay legal.
use Rattle.std.specs.Prelude.{◌≡◌, Bool, true, ◌||◌, ℕ, ◌≤◌, eqb, ℤ, pos, neg_ℤ, nat_abs, ◌-ℤ◌, ◌≤ℤ◌, ◌<ℤ◌, if◌then◌else◌}
use native.Mathlib.Omega.{arith}
use Rattle.std.specs.Int.Signed.{le_z}
use Rattle.std.specs.Int.{w64}
use Rattle.std.proofs.Common.{to_z, of_z}
use Rattle.integers.specs.Choice.{by_cases}
use Rattle.integers.specs.Limit.{limited}
use Rattle.integers.specs.Machine.{Small, back, read_back}
use Rattle.integers.specs.Operations.{number, sum, difference, negation}
use Rattle.integers.specs.Parts.{integers, apart}
use Rattle.signals.specs.Signals.{is_open}
use Rattle.signals.specs.declared.Input.{Input}
use Rattle.signals.specs.declared.Switches.{Switches}
use Rattle.modes.specs.Modes.{is_track}
use Rattle.modes.specs.declared.Mode.{Mode}
use Rattle.parameters.specs.Legal.{Legal, is_within}
use Rattle.parameters.specs.LegalLaws.{Ordered, Inside, ranges, settings_legal, value_most}
use Rattle.parameters.specs.Table.{value, H1, L1, H2, L2, H3, L3, HR, LR, HS, LS, SL, RB, IC, LD}
use Rattle.parameters.specs.declared.Parameters.{Parameters}
use Rattle.scaling.specs.Ratio.{RatioRange, ratio_quotient, inverse_quotient, ratio_size, inverse_size}
use Rattle.scaling.specs.Root.{root_of, root_most}
use Rattle.scaling.specs.Scale.{scaled, ChannelRange, scaled_within}
use Rattle.local_setpoint.specs.LocalSetpointLaws.{limited_inside, ratio_inside, setpoint_inside, setpoint_limited, following_inside}
use Rattle.setpoints.specs.Computation.{computed}
use Rattle.setpoints.specs.Setpoints.{first_sample, process_variable, third_channel, trim_of, quotient_of, setpoint_of, measured_power}

-- the samples of an accepted scan
pub record SampleRange (i : Input) : Type 0 where
  pub first : i.sample1 ≤ 10000
  pub second : i.sample2 ≤ 10000
  pub third : i.sample3 ≤ 10000

pub first_most : (p : Parameters) (sample : ℕ) → sample ≤ 10000 → first_sample p sample ≤ 10000
unfolding first_sample
first_most p sample h =
    by_cases (λ (s : ℕ). s ≤ 10000) (eqb (nat_abs (IC p)) 1) (root_of sample) sample (λ e. root_most sample) (λ e. h)

-- a number in -9999..9999
pub record InReadingRange (z : ℤ) : Type 0 where
  pub reading : nat_abs z ≤ 9999

-- of a channel whose ends are in range and apart
channel_range : {low high : ℤ} → Ordered (neg_ℤ (pos 9999)) low high (pos 9999) → low <ℤ high → (sample : ℕ) → sample ≤ 10000 →
    ChannelRange low high sample
channel_range ends span sample h = record { least = ends.not_below; order = span; most = ends.not_above; sampled = h }

module _ (p : Parameters) (legal : Legal p) where
  pub range1 : (sample : ℕ) → sample ≤ 10000 → ChannelRange (L1 p) (H1 p) sample
  range1 = let r = ranges p legal in channel_range r.channel1 r.span1

  pub range2 : (sample : ℕ) → sample ≤ 10000 → ChannelRange (L2 p) (H2 p) sample
  range2 = let r = ranges p legal in channel_range r.channel2 r.span2

  pub range3 : (sample : ℕ) → sample ≤ 10000 → ChannelRange (L3 p) (H3 p) sample
  range3 = let r = ranges p legal in channel_range r.channel3 r.span3

pub scaled_reading : {low high : ℤ} {sample : ℕ} → ChannelRange low high sample → InReadingRange (scaled low high sample)
scaled_reading {low} {high} {sample} c =
    let w = scaled_within c in
    let z = scaled low high sample in
    record { reading = omega (arith, integers, c.least, c.most, w.not_below, w.not_above, number z, apart z) }

-- ---- small enough to be added and subtracted

pub reading_small : (z : ℤ) → InReadingRange z → Small z
reading_small z r = record { small = omega (arith, r.reading) }

-- between two limits of -9999..9999
pub inside_reading : (least low v high most : ℤ) → Ordered least low high most → neg_ℤ (pos 9999) ≤ℤ least → most ≤ℤ pos 9999 →
    Inside low v high → InReadingRange v
inside_reading least low v high most o a b i =
    record { reading = omega (arith, integers, o.not_below, o.not_above, i.not_below, i.not_above, number v, apart v) }

pub added_small : (ratioswitch : Bool) (trim : ℤ) → Small trim → Small (if ratioswitch then pos 0 else trim)
added_small ratioswitch trim h = by_cases Small ratioswitch (pos 0) trim (λ e. record { small = omega arith }) (λ e. h)

module _ (p : Parameters) (legal : Legal p) where
  -- every parameter is such a number
  parameter_reading : (n : ℕ) → 1 ≤ n → n ≤ 23 → InReadingRange (value p n)
  parameter_reading n a b = record { reading = value_most p legal n a b }

  pub setpoint_reading : InReadingRange (SL p)
  setpoint_reading = parameter_reading 20 (omega arith) (omega arith)

  pub deviation_small : Small (LD p)
  deviation_small = reading_small (LD p) (parameter_reading 14 (omega arith) (omega arith))

  pub low_reading : InReadingRange (L1 p)
  low_reading = parameter_reading 2 (omega arith) (omega arith)

  pub high_reading : InReadingRange (H1 p)
  high_reading = parameter_reading 1 (omega arith) (omega arith)

  pub bias_small : Small (RB p)
  bias_small = reading_small (RB p) (parameter_reading 22 (omega arith) (omega arith))

pub zero_minus : (z : ℤ) → pos 0 -ℤ z ≡ neg_ℤ z
zero_minus z = omega (arith, integers, difference (pos 0) z, negation z)

module _ (p : Parameters) (legal : Legal p) where
  pub limited_setpoint : (s : Switches) (mode : Mode) (sl rs trim : ℤ) (i : Input) →
      Inside (LS p) (setpoint_of p s mode sl rs trim i) (HS p)
  unfolding setpoint_of
  limited_setpoint s mode sl rs trim i = setpoint_limited p legal _

  pub setpoint_read : {v : ℤ} → Inside (LS p) v (HS p) → InReadingRange v
  setpoint_read {v} h =
      let r = ranges p legal in inside_reading _ _ v _ _ r.setpoints (omega (arith, integers)) (omega (arith, integers)) h

  pub ratio_read : {v : ℤ} → Inside (LR p) v (HR p) → InReadingRange v
  ratio_read {v} h = let r = ranges p legal in inside_reading _ _ v _ _ r.ratios (omega (arith, integers)) (omega (arith, integers)) h

  -- ---- readings

  module _ (i : Input) (sampled : SampleRange i) where
    pub pv_reading : InReadingRange (process_variable p i)
    unfolding process_variable
    pv_reading =
        by_cases InReadingRange (is_open i) (L1 p) (scaled (L1 p) (H1 p) (first_sample p i.sample1))
        (λ e. low_reading p legal)
        (λ e. scaled_reading (range1 p legal _ (first_most p i.sample1 sampled.first)))

    third_reading : InReadingRange (third_channel p i)
    unfolding third_channel
    third_reading = scaled_reading (range3 p legal _ sampled.third)

    pub trim_reading : (measuredpower : Bool) (mode : Mode) → InReadingRange (trim_of p measuredpower mode i)
    unfolding trim_of
    trim_reading measuredpower mode =
        by_cases InReadingRange (is_track mode || measuredpower) (pos 0) (third_channel p i) (λ e. record { reading = omega arith })
        (λ e. third_reading)

    pub power_reading : (measuredpower : Bool) → InReadingRange (measured_power p measuredpower i)
    unfolding measured_power
    power_reading measuredpower =
        by_cases InReadingRange measuredpower (third_channel p i) (pos 0) (λ e. third_reading) (λ e. record { reading = omega arith })

    -- q, and s of any sum
    pub ratio_range : (sum : ℤ) → RatioRange (scaled (L2 p) (H2 p) i.sample2) (nat_abs (limited (LR p) (HR p) sum))
    ratio_range sum =
        let r = ranges p legal in
        let s = limited (LR p) (HR p) sum in
        let h = limited_inside (LR p) (HR p) sum r.ratios.order in
        record {
          q_most = (scaled_reading (range2 p legal _ sampled.second)).reading;
          s_some = omega (arith, integers, h.not_below, r.ratios.not_below, number s);
          s_most = (ratio_read h).reading;
        }

pub quotient_small : (inverse : Bool) (q : ℤ) (s : ℕ) → RatioRange q s → Small (quotient_of inverse q s)
quotient_small inverse q s h =
    by_cases Small inverse (inverse_quotient q s) (ratio_quotient q s) (λ e. record { small = omega (arith, inverse_size q s h) })
    (λ e. record { small = omega (arith, ratio_size q s h) })

-- ---- the parameters stay legal

is_within_lem : (low high v : ℤ) → Inside low v high → is_within low high v ≡ true
is_within_lem low high v h =
    let a : le_z low v ≡ true = omega (arith, integers, h.not_below) in
    let b : le_z v high ≡ true = omega (arith, integers, h.not_above) in
    simp (a, b)

pub computed_legal : (p : Parameters) (s : Switches) (measuredpower : Bool) (mode : Mode) (i : Input) → Legal p →
    Legal (computed p s measuredpower mode i).parameters
unfolding computed
computed_legal p s measuredpower mode i legal =
    settings_legal p legal _ _
    (is_within_lem _ _ _ (following_inside p legal mode _ _ _ (setpoint_inside p legal s.setpointtracks mode i _)
    (limited_setpoint p legal s mode _ _ _ i)))
    (is_within_lem _ _ _ (ratio_inside p legal mode i))

-- a reading is read back from the machine as it is
pub reading_back : {z : ℤ} → InReadingRange z → to_z w64 (of_z w64 z) ≡ z
reading_back {z} h = back w64 z (omega (arith, h.reading, number z))

-- for `grind`, where readings are computed
pub ruleset readings = (
  read_back,
  root_most,
  range1,
  range2,
  range3,
  reading_small,
  scaled_reading,
  deviation_small,
  bias_small,
  ratio_range,
  quotient_small,
)
