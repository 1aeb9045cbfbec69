-- How large the numbers of step 6 are; what is remembered stays within -9999..9999, and the stored
-- output within 0..9999 units.
use Rattle.std.specs.Prelude.{◌≡◌, Bool, not, ◌&&◌, ℕ, ◌+◌, ◌≤◌, min, ℤ, pos, nat_abs, ◌+ℤ◌, ◌-ℤ◌, ◌*ℤ◌, ◌≤ℤ◌}
use Rattle.std.proofs.Math.Path.{refl}
use Rattle.std.proofs.Math.Bool.{true, false}
use Rattle.std.proofs.Common.{arith, to_z, of_z}
use Rattle.std.proofs.Props.{props}
use Rattle.std.specs.Int.{w64}
use Rattle.integers.specs.Choice.{by_cases}
use Rattle.integers.specs.Limit.{limited_low, limited_high}
use Rattle.integers.specs.Machine.{Small, back}
use Rattle.integers.specs.Operations.{Size, number, sum, difference, product, sum_size, difference_size}
use Rattle.integers.specs.Parts.{integers, apart}
use Rattle.signals.specs.declared.Switches.{Switches}
use Rattle.modes.specs.Modes.{is_limiting, is_auto_or_fallback}
use Rattle.modes.specs.declared.Mode.{Mode}
use Rattle.modes.specs.declared.Mode.TheVariants.{Hold, Track, Forced, Manual, Auto, Remote, Ratio, Fallback}
use Rattle.parameters.specs.Legal.{Legal}
use Rattle.parameters.specs.LegalLaws.{ranges, value_most}
use Rattle.parameters.specs.Table.{H1, L1, HO, LO, XP}
use Rattle.parameters.specs.declared.Parameters.{Parameters}
use Rattle.setpoints.specs.ComputationLaws.{InReadingRange}
use Rattle.setpoints.specs.declared.Readings.{Readings}
use Rattle.terms.specs.Fraction.{Fraction, Positive, stored_units, limited_stored}
use Rattle.terms.specs.TermLaws.{term_size}
use Rattle.terms.specs.Terms.{stored_term, TuningRange}
use Rattle.outputs.specs.ControlDifference.{control_difference, earlier_setpoint, change_of_difference, second_difference, tuning_of}
use Rattle.outputs.specs.History.{history_before, remembered, history_after, recalled}
use Rattle.outputs.specs.Instruction.{stored_arithmetic, changed, limited_to, executed}
use Rattle.outputs.specs.Outputs.{change_in, limits_in, minimum_of, instruction_of, restarted_to, restart_instruction}
use Rattle.outputs.specs.declared.History.{History}
use Rattle.outputs.specs.declared.History.TheVariants.{Nothing, One, Two}
use Rattle.outputs.specs.declared.Past.{Past}
use Rattle.outputs.specs.declared.Context.{Context}

-- PV and SP of a scan lie in -9999..9999
pub record ReadingsRange (r : Readings) : Type 0 where
  pub pv_read : InReadingRange r.pv
  pub sp_read : InReadingRange r.sp

-- so do those that are remembered
abbrev pub HistoryRange : History → Type 0
HistoryRange Nothing = Unit
HistoryRange (One pv sp) = InReadingRange pv × InReadingRange sp
HistoryRange (Two pv sp before) = InReadingRange pv × InReadingRange sp × InReadingRange before

-- two proofs of that are one, so a struct may hold it
pub HistoryRange-prop : (h : History) → IsProp (HistoryRange h)
HistoryRange-prop Nothing = Prim.hlevel props
HistoryRange-prop (One pv sp) = Prim.hlevel props
HistoryRange-prop (Two pv sp before) = Prim.hlevel props

pub record PastRange (past : Past) : Type 0 where
  pub pv_read : InReadingRange past.pv
  pub sp_read : InReadingRange past.sp
  pub before_read : InReadingRange past.before

-- a stored output lies in 0..9999 units
pub record OutputRange (x : ℤ) : Type 0 where
  pub not_below : pos 0 ≤ℤ x
  pub not_above : x ≤ℤ stored_units (pos 9999)

-- ---- what is remembered

pub recalled_read : (h : History) (r : Readings) → HistoryRange h → ReadingsRange r → PastRange (recalled h r)
recalled_read Nothing r k n = record { pv_read = n.pv_read; sp_read = n.sp_read; before_read = n.pv_read }
recalled_read (One pv sp) r k n = record { pv_read = k.0; sp_read = k.1; before_read = k.0 }
recalled_read (Two pv sp before) r k n = record { pv_read = k.0; sp_read = k.1; before_read = k.2 }

pub earlier_kept : (h : History) (aftergap : Bool) → HistoryRange h → HistoryRange (history_before h aftergap)
unfolding history_before
earlier_kept h aftergap k = by_cases HistoryRange aftergap Nothing h (λ e. tt) (λ e. k)

remembered_kept : (h : History) (r : Readings) → HistoryRange h → ReadingsRange r → HistoryRange (remembered h r)
remembered_kept Nothing r k n = (n.pv_read, n.sp_read)
remembered_kept (One pv sp) r k n = (n.pv_read, n.sp_read, k.0)
remembered_kept (Two pv sp before) r k n = (n.pv_read, n.sp_read, k.0)

pub history_kept : (h : History) (isopen : Bool) (r : Readings) → HistoryRange h → ReadingsRange r → HistoryRange (history_after h isopen r)
unfolding history_after
history_kept h isopen r k n = by_cases HistoryRange isopen Nothing (remembered h r) (λ e. tt) (λ e. remembered_kept h r k n)

-- ---- c, c - c1 and D

pub control_difference_most : (inverse : Bool) (sp pv : ℤ) → InReadingRange sp → InReadingRange pv →
    nat_abs (control_difference inverse sp pv) ≤ 19998
unfolding control_difference
control_difference_most inverse sp pv h k =
    by_cases (λ (z : ℤ). nat_abs z ≤ 19998) inverse (pv -ℤ sp) (sp -ℤ pv)
    (λ e. omega (arith, difference pv sp, number pv, number sp, h.reading, k.reading))
    (λ e. omega (arith, difference sp pv, number pv, number sp, h.reading, k.reading))

pub earlier_reading : (s : Switches) (mode : Mode) (r : Readings) (past : Past) → ReadingsRange r → PastRange past →
    InReadingRange (earlier_setpoint s mode r past)
unfolding earlier_setpoint
earlier_reading s mode r past n k =
    by_cases InReadingRange (is_auto_or_fallback mode && not s.balanceoff) r.sp past.sp (λ e. n.sp_read) (λ e. k.sp_read)

pub change_most : (s : Switches) (mode : Mode) (r : Readings) (past : Past) → ReadingsRange r → PastRange past →
    nat_abs (change_of_difference s mode r past) ≤ 39996
unfolding change_of_difference
change_most s mode r past n k =
    let now = control_difference s.inverseoutput r.sp r.pv in
    let earlier = control_difference s.inverseoutput (earlier_setpoint s mode r past) past.pv in
    omega (
      arith,
      difference now earlier,
      number now,
      number earlier,
      control_difference_most s.inverseoutput r.sp r.pv n.sp_read n.pv_read,
      control_difference_most s.inverseoutput (earlier_setpoint s mode r past) past.pv
          (earlier_reading s mode r past n k) k.pv_read,
    )

pub second_most : (r : Readings) (past : Past) → ReadingsRange r → PastRange past → nat_abs (second_difference r past) ≤ 39996
unfolding second_difference
second_most r past n k =
    let double = pos 2 *ℤ past.pv in
    let first = r.pv -ℤ double in
    omega (
      arith,
      sum first past.before,
      difference r.pv double,
      product (pos 2) past.pv,
      number r.pv,
      number past.pv,
      number past.before,
      n.pv_read.reading,
      k.pv_read.reading,
      k.before_read.reading,
    )

pub tuning_range : (p : Parameters) (s : Switches) → Legal p → TuningRange (tuning_of p s)
unfolding tuning_of
tuning_range p s legal =
    let r = ranges p legal in
    let w = H1 p -ℤ L1 p in
    record {
      xp_some = omega (arith, integers, r.band.not_below, number (XP p));
      xp_most = value_most p legal 17 (omega arith) (omega arith);
      span_some = omega (arith, integers, r.span1, difference (H1 p) (L1 p), number w, apart w);
      span_most =
          let high = value_most p legal 1 (omega arith) (omega arith) in
          let low = value_most p legal 2 (omega arith) (omega arith) in
          omega (arith, difference (H1 p) (L1 p), number (H1 p), number (L1 p), high, low);
      ti_most = value_most p legal 18 (omega arith) (omega arith);
      td_most = value_most p legal 19 (omega arith) (omega arith);
    }

-- ---- the stored output

pub stored_most : (x : ℤ) → OutputRange x → nat_abs x ≤ 655294464
unfolding stored_units
stored_most x h = omega (arith, integers, h.not_below, h.not_above, number x, apart x)

pub stored_small : (x : ℤ) → OutputRange x → Small x
stored_small x h = record { small = omega (arith, stored_most x h) }

-- it is read back from the machine as it is
pub stored_back : {x : ℤ} → OutputRange x → to_z w64 (of_z w64 x) ≡ x
stored_back {x} h = back w64 x (omega (arith, stored_most x h, number x))

module _ (p : Parameters) (legal : Legal p) where
  pub low_limit_most : nat_abs (LO p) ≤ 65535
  low_limit_most = omega (arith, value_most p legal 16 (omega arith) (omega arith))

  pub high_limit_most : nat_abs (HO p) ≤ 65535
  high_limit_most = omega (arith, value_most p legal 15 (omega arith) (omega arith))

pub minimum_most : (p : Parameters) (s : Switches) → Legal p → nat_abs (minimum_of p s) ≤ 65535
unfolding minimum_of
minimum_most p s legal =
    by_cases (λ (z : ℤ). nat_abs z ≤ 65535) s.displayinversion (HO p) (LO p) (λ e. high_limit_most p legal) (λ e. low_limit_most p legal)

pub restarted_most : (p : Parameters) (s : Switches) (tominimum : Bool) (op : ℕ) → Legal p → op ≤ 65535 →
    nat_abs (restarted_to p s tominimum op) ≤ 65535
unfolding restarted_to
restarted_most p s tominimum op legal h =
    by_cases (λ (z : ℤ). nat_abs z ≤ 65535) tominimum (minimum_of p s) (pos op) (λ e. minimum_most p s legal) (λ e. h)

-- ---- sums and differences of bounded numbers

pub sized : (z : ℤ) {m : ℕ} → nat_abs z ≤ m → Size z m
sized z h = omega (arith, number z, h)

pub small_of : {z : ℤ} {m : ℕ} → Size z m → m ≤ 1000000000000 → Small z
small_of h k = record { small = omega (arith, h.size, k) }

pub sum_most : {x y : ℤ} {m n : ℕ} → Size x m → Size y n → Size (x +ℤ y) (m + n)
sum_most {x} {y} h k = omega (arith, sum_size x y, h.size, k.size)

pub difference_most : {x y : ℤ} {m n : ℕ} → Size x m → Size y n → Size (x -ℤ y) (m + n)
difference_most {x} {y} h k = omega (arith, difference_size x y, h.size, k.size)

pub reading_size : {z : ℤ} → InReadingRange z → Size z 9999
reading_size {z} h = sized z h.reading

pub control_difference_size : (inverse : Bool) {sp pv : ℤ} → InReadingRange sp → InReadingRange pv →
    Size (control_difference inverse sp pv) 19998
control_difference_size inverse {sp} {pv} h k = sized (control_difference inverse sp pv) (control_difference_most inverse sp pv h k)

pub stored_size : {x : ℤ} → OutputRange x → Size x 655294464
stored_size {x} h = sized x (stored_most x h)

pub term_sized : (f : Fraction) → Positive f → Size (stored_term f) 655360000
term_sized f h = sized (stored_term f) (term_size f h)

-- ---- an output that is limited lies within its limits; every output after a scan lies in 0..9999 units

pub record InUnits (low high x : ℤ) : Type 0 where
  pub not_below : stored_units low ≤ℤ x
  pub not_above : x ≤ℤ stored_units high

stored_order : (a b : ℤ) → a ≤ℤ b → stored_units a ≤ℤ stored_units b
unfolding stored_units
stored_order a b h = omega (arith, integers, product a (pos 65536), product b (pos 65536), h)

pub limited_in_units : (low high x : ℤ) → low ≤ℤ high → InUnits low high (limited_stored low high x)
unfolding limited_stored
limited_in_units low high x h =
    record {
      not_below = limited_low (stored_units low) (stored_units high) x (stored_order low high h);
      not_above = limited_high (stored_units low) (stored_units high) x;
    }

in_units_stored : (low high x : ℤ) → pos 0 ≤ℤ low → high ≤ℤ pos 9999 → InUnits low high x → OutputRange x
unfolding stored_units
in_units_stored low high x h k w =
    let a = stored_order (pos 0) low h in
    let b = stored_order high (pos 9999) k in
    record { not_below = omega (arith, integers, a, w.not_below); not_above = omega (arith, integers, b, w.not_above) }

units_stored : (n : ℕ) → n ≤ 9999 → OutputRange (stored_units (pos n))
unfolding stored_units
units_stored n h =
    record {
      not_below = omega (arith, integers, product (pos n) (pos 65536));
      not_above = omega (arith, integers, product (pos n) (pos 65536), h);
    }

module _ (p : Parameters) (legal : Legal p) where
  -- outside Hold and Track
  pub output_in_units : (mode : Mode) (y : ℤ) → is_limiting mode ≡ true →
      InUnits (LO p) (HO p) (limited_to stored_arithmetic (limits_in mode p) y)
  unfolding limits_in limited_to stored_arithmetic
  output_in_units mode y e = rw e (limited_in_units (LO p) (HO p) y (ranges p legal).outputs.order)

  limited_stored_lem : (mode : Mode) (y : ℤ) → is_limiting mode ≡ true → OutputRange (limited_to stored_arithmetic (limits_in mode p) y)
  limited_stored_lem mode y e =
      let r = ranges p legal in
      in_units_stored (LO p) (HO p) _ r.outputs.not_below r.outputs.not_above (output_in_units mode y e)

  pub limited_still_stored : (mode : Mode) (y : ℤ) → OutputRange y → OutputRange (limited_to stored_arithmetic (limits_in mode p) y)
  unfolding limits_in limited_to
  limited_still_stored mode y h = go (is_limiting mode) refl
    where
      go : (t : Bool) → is_limiting mode ≡ t → OutputRange (limited_to stored_arithmetic (limits_in mode p) y)
      go true e = limited_stored_lem mode y e
      go false e = rw e h

  stored_in : (mode : Mode) (x : Context) (r : Readings) (h : History) (output : ℤ) → OutputRange output →
      OutputRange (limited_to stored_arithmetic (limits_in mode p) (changed stored_arithmetic (change_in mode p x r h) output))
  unfolding limits_in limited_to changed stored_arithmetic
  stored_in Hold x r h output k = k
  stored_in Track x r h output k = units_stored (min x.input.sample3 9999) (omega arith)
  stored_in Forced x r h output k = limited_stored_lem Forced _ refl
  stored_in Manual x r h output k = limited_stored_lem Manual _ refl
  stored_in Auto x r h output k = limited_stored_lem Auto _ refl
  stored_in Remote x r h output k = limited_stored_lem Remote _ refl
  stored_in Ratio x r h output k = limited_stored_lem Ratio _ refl
  stored_in Fallback x r h output k = limited_stored_lem Fallback _ refl

  pub output_stored : (x : Context) (r : Readings) (h : History) (output : ℤ) → OutputRange output →
      OutputRange (executed stored_arithmetic (instruction_of p x r h) output)
  unfolding executed instruction_of
  output_stored x r h output k = stored_in x.mode x r h output k

  -- after a restart
  pub restart_in_units : (s : Switches) (tominimum : Bool) (op : ℕ) (output : ℤ) →
      InUnits (LO p) (HO p) (executed stored_arithmetic (restart_instruction p s tominimum op) output)
  unfolding executed restart_instruction limited_to stored_arithmetic
  restart_in_units s tominimum op output = limited_in_units (LO p) (HO p) _ (ranges p legal).outputs.order

  pub restart_stored : (s : Switches) (tominimum : Bool) (op : ℕ) (output : ℤ) →
      OutputRange (executed stored_arithmetic (restart_instruction p s tominimum op) output)
  restart_stored s tominimum op output =
      let r = ranges p legal in
      in_units_stored (LO p) (HO p) _ r.outputs.not_below r.outputs.not_above (restart_in_units s tominimum op output)
