-- A fresh controller is valid, and a scan returns a valid one.
use Rattle.std.specs.Prelude.{◌≡◌, refl, Bool, true, false, ◌||◌, List, [], ◌∷◌, ℕ, ◌≤◌, ltb, ℤ, pos, nat_abs, ◌-ℤ◌, if◌then◌else◌}
use Rattle.std.proofs.Math.Option.{Option, some, none}
use Rattle.std.proofs.Common.{arith, to_z, of_z, ltb-false}
use Rattle.std.specs.Int.{w32, w64}
use Rattle.integers.specs.Choice.{never}
use Rattle.integers.specs.Machine.{back}
use Rattle.integers.specs.Operations.{number, difference}
use Rattle.integers.specs.Parts.{integers}
use Rattle.signals.specs.Refusals.{refused_by, scan_tests}
use Rattle.signals.specs.Signals.{is_open}
use Rattle.signals.specs.declared.Input.{Input}
use Rattle.signals.specs.Clock.{ClockReading}
use Rattle.modes.specs.Modes.{counted, conditions_after}
use Rattle.parameters.specs.Legal.{Legal}
use Rattle.parameters.specs.LegalLaws.{defaults_legal}
use Rattle.parameters.specs.Table.{L1, SL}
use Rattle.parameters.specs.declared.Parameters.{Parameters}
use Rattle.setpoints.specs.Computation.{computed}
use Rattle.setpoints.specs.ComputationLaws.{InReadingRange, SampleRange, computed_legal, pv_reading, setpoint_read}
use Rattle.setpoints.specs.ComputationLaws.{setpoint_reading, low_reading, power_reading, limited_setpoint}
use Rattle.terms.specs.Fraction.{stored_units}
use Rattle.outputs.specs.Instruction.{executed, changed, limited_to}
use Rattle.outputs.specs.OutputLaws.{ReadingsRange, earlier_kept, history_kept, output_stored}
use Rattle.outputs.specs.declared.Context.{Context}
use Rattle.controller.specs.Scan.{controller_after, earlier_scans, context_of, computed_in, core_after, Outcome}
use Rattle.controller.specs.Scan.{accepted, refused, refused_or, scan_core, response_from, stepped, scan}
use Rattle.controller.specs.State.{start_readings, fresh_parameters, fresh_core, fresh_controller}
use Rattle.controller.specs.Valid.{Valid, Readable}
use Rattle.controller.specs.declared.Controller.{Controller}
use Rattle.controller.specs.declared.Core.{Core}

-- ---- a reading stands as it is in 64 bits
pub reading_back : (z : ℤ) → nat_abs z ≤ 19998 → to_z w64 (of_z w64 z) ≡ z
reading_back z h = back w64 z (omega (arith, h, number z))

-- and in 32
pub reading_narrowed : (z : ℤ) → nat_abs z ≤ 19998 → to_z w32 (of_z w32 (to_z w64 (of_z w64 z))) ≡ z
reading_narrowed z h = rw (reading_back z h) (back w32 z (omega (arith, h, number z)))

-- ---- a call that no test refuses passed each test

abbrev pub Passed : List (Bool × ℕ) → Type 0
Passed [] = Unit {0}
Passed (t ∷ ts) = (t.0 ≡ false) × Passed ts

pub passed : (ts : List (Bool × ℕ)) → refused_by ts ≡ none → Passed ts
unfolding refused_by
passed [] e = tt
passed (t ∷ ts) e = go t.0 refl e (passed ts)
  where
    go : (b : Bool) → t.0 ≡ b → (if b then some t.1 else refused_by ts) ≡ none → (refused_by ts ≡ none → Passed ts) →
        (t.0 ≡ false) × Passed ts
    go true q e r = let z : ◌≡◌ {A = ℕ} 0 1 = cc in absurd (omega arith)
    go false q e r = (q, r e)

neither : (a b : Bool) → a || b ≡ false → (a ≡ false) × (b ≡ false)
neither true b e = (e, let z : ◌≡◌ {A = Bool} true false = e in cc)
neither false b e = (refl, e)

pub sampled : (last : ClockReading) (i : Input) → refused_by (scan_tests last i) ≡ none → SampleRange i
unfolding scan_tests
sampled last i e =
    let p = (passed (scan_tests last i) e).0 in
    let a = neither (ltb 10000 i.sample1 || ltb 10000 i.sample2) (ltb 10000 i.sample3) p in
    let b = neither (ltb 10000 i.sample1) (ltb 10000 i.sample2) a.0 in
    record {
      first = ltb-false 10000 i.sample1 b.0;
      second = ltb-false 10000 i.sample2 b.1;
      third = ltb-false 10000 i.sample3 a.1;
    }

-- ---- what an accepted scan reads

pub read : (c : Core) (x : Context) → Legal c.parameters → SampleRange x.input → ReadingsRange (computed_in c x).readings
unfolding computed_in computed
read c x legal s =
    record {
      pv_read = pv_reading c.parameters legal x.input s;
      sp_read = setpoint_read c.parameters legal (limited_setpoint c.parameters legal x.switches x.mode _ _ _ x.input);
    }

difference_most : (a b : ℤ) → InReadingRange a → InReadingRange b → nat_abs (a -ℤ b) ≤ 19998
difference_most a b h k = omega (arith, difference a b, number a, number b, h.reading, k.reading)

readable : (pv sp mp : ℤ) → InReadingRange pv → InReadingRange sp → InReadingRange mp →
    Readable (record { pv = pv; sp = sp; er = pv -ℤ sp; mp = mp })
readable pv sp mp h k l =
    record {
      pv_most = omega (arith, h.reading);
      sp_most = omega (arith, k.reading);
      er_most = difference_most pv sp h k;
      mp_most = omega (arith, l.reading);
    }

-- ---- valid

pub start_readable : (p : Parameters) → Legal p → Readable (start_readings p)
unfolding start_readings
start_readable p legal = readable (L1 p) (SL p) (pos 0) (low_reading p legal) (setpoint_reading p legal) (record { reading = omega arith })

pub valid_fresh : (sw : ℕ) → Valid (fresh_controller sw)
unfolding fresh_controller fresh_core stored_units
valid_fresh sw =
    record {
      legal = defaults_legal;
      kept = tt;
      readable = start_readable fresh_parameters defaults_legal;
      manual = never;
      stored = record { not_below = omega (arith, integers); not_above = omega (arith, integers) };
    }

pub stepped_valid : (c : Controller) (i : Input) → Valid c → SampleRange i → Valid (stepped c i)
unfolding stepped controller_after accepted earlier_scans core_after context_of computed_in computed conditions_after
stepped_valid c i v s =
    let after = conditions_after counted c.core.conditions i in
    let x = context_of c.core after i in
    let readings = (computed_in c.core x).readings in
    let r = read c.core x v.legal s in
    let earlier = earlier_scans c.core i in
    record {
      legal = computed_legal c.core.parameters x.switches c.core.userbits.measuredpower x.mode i v.legal;
      kept = history_kept earlier (is_open i) readings (earlier_kept c.core.history _ v.kept) r;
      readable =
          readable _ _ _ r.pv_read r.sp_read (power_reading c.core.parameters v.legal i s c.core.userbits.measuredpower);
      manual = λ e. rw e refl;
      stored = output_stored c.core.parameters v.legal x readings earlier c.output v.stored;
    }

-- the two ways a call can go
pub by_verdict_lem : (P : Outcome → Type 0) (d : Option ℕ) (c : Core) (o : Outcome) → (d ≡ none → P o) → ((n : ℕ) → P (refused c n)) →
    P (refused_or d c o)
by_verdict_lem P none c o f g = f refl
by_verdict_lem P (some n) c o f g = g n

pub valid_scan : (c : Controller) (i : Input) → Valid c → Valid (scan c i).next
unfolding scan scan_core response_from controller_after refused executed changed limited_to stepped
valid_scan c i v =
    by_verdict_lem (λ o. Valid (response_from c o).next) (refused_by (scan_tests c.core.clock i)) c.core (accepted counted c.core i)
    (λ e. stepped_valid c i v (sampled c.core.clock i e)) (λ n. v)
