-- An empty sheet is valid, entering keeps a sheet valid, and so no value of it can pass its type.
use Rattle.std.specs.Prelude.{Option, None, Some, sum as total}
use Rattle.std.specs.Prelude.{◌≡◌, refl, true, ◌&&◌, ℕ, zero, suc, ◌+◌, ◌*◌, ◌≤◌, ◌<◌, eqb, leb, ℤ, pos, nat_abs, ◌+ℤ◌, length, get_or}
use Rattle.std.specs.Prelude.{◌≤ℤ◌}
use Rattle.std.proofs.Common.{ap, ◌∙◌, arith, length-set, leb-true, leb-false, le-leb, eqb-true, eq-eqb}
use Rattle.std.specs.Int.Signed.{mag, le_z}
use Rattle.integers.specs.Choice.{by_cases, both, never}
use Rattle.integers.specs.Operations.{sum, sum_size, number}
use Rattle.integers.specs.Parts.{integers, apart}
use Rattle.answers.specs.declared.ScanValues.{ScanValues}
use Rattle.sheet.specs.Sheet.{place_of, counted, has_alarm, alarms_after, empty_sheet, taken, entered}
use Rattle.sheet.specs.SumLaws.{Held, sum_fits, held_size}
use Rattle.sheet.specs.Valid.{scans_before, are_extremes, is_sum_op, is_valid, Valid}
use Rattle.sheet.specs.TotalLaws.{place_few, count_most, total_more}
use Rattle.sheet.specs.ValidLaws.{possible_of, no_scan, extremes_after}
use Rattle.sheet.specs.declared.EnterResult.{EnterResult}
use Rattle.sheet.specs.declared.Occurrence.{Occurrence}
use Rattle.sheet.specs.declared.Sheet.{Sheet}
use Rattle.sheet.specs.declared.SheetValues.{SheetValues}

-- what the types of an answer hold, of the values that a sheet sums
pub record Answerable (a : ScanValues) : Type 0 where
  pub pv : Held a.pv
  pub op : a.op ≤ 65535

-- ---- the tests of a sheet, read

pub record Parts (v : SheetValues) : Type 0 where
  pub scans : v.scans ≤ 4294967295
  pub size : length v.modes ≡ 8
  pub counts : total v.modes ≡ v.scans
  pub alarms : v.alarms ≤ v.scans
  pub extremes : are_extremes v.scans v.greatest v.least v.sumpv ≡ true
  pub op_least : pos 0 ≤ℤ v.sumop
  pub op_most : v.sumop ≤ℤ pos (65535 * v.scans)

pub parts : (v : SheetValues) → is_valid v ≡ true → Parts v
unfolding is_valid
parts v e =
    let scans = leb v.scans 4294967295 in
    let size = eqb (length v.modes) 8 in
    let counts = eqb (total v.modes) v.scans in
    let alarms = leb v.alarms v.scans in
    let extremes = are_extremes v.scans v.greatest v.least v.sumpv in
    let a = both (scans && size && counts && alarms && extremes) (is_sum_op v.scans v.sumop) e in
    let b = both (scans && size && counts && alarms) extremes a.0 in
    let c = both (scans && size && counts) alarms b.0 in
    let d = both (scans && size) counts c.0 in
    let f = both scans size d.0 in
    let g = both (le_z (pos 0) v.sumop) (le_z v.sumop (pos (65535 * v.scans))) a.1 in
    record {
      scans = leb-true v.scans 4294967295 f.0;
      size = eqb-true (length v.modes) 8 f.1;
      counts = eqb-true (total v.modes) v.scans d.1;
      alarms = leb-true v.alarms v.scans c.1;
      extremes = b.1;
      op_least = omega (arith, integers, g.0);
      op_most = omega (arith, integers, g.1);
    }

pub parts_valid : (v : SheetValues) → Parts v → is_valid v ≡ true
unfolding is_valid
parts_valid v p =
    let least : le_z (pos 0) v.sumop ≡ true = omega (arith, integers, p.op_least) in
    let most : le_z v.sumop (pos (65535 * v.scans)) ≡ true = omega (arith, integers, p.op_most) in
    rw (
      le-leb v.scans 4294967295 p.scans,
      eq-eqb (length v.modes) 8 p.size,
      eq-eqb (total v.modes) v.scans p.counts,
      le-leb v.alarms v.scans p.alarms,
      p.extremes,
      least,
      most,
    )
    refl

-- ---- an empty sheet

pub empty_valid : Valid empty_sheet
unfolding empty_sheet is_valid
empty_valid = record { tested = refl }

-- ---- one answer more

alarms_most : (alarms ds scans : ℕ) → alarms ≤ scans → alarms_after alarms ds ≤ scans + 1
unfolding alarms_after
alarms_most alarms ds scans h =
    by_cases (λ (n : ℕ). n ≤ scans + 1) (has_alarm ds) (alarms + 1) alarms (λ e. omega arith) (λ e. omega arith)

pub taken_valid : (v : SheetValues) (a : ScanValues) → is_valid v ≡ true → v.scans < 4294967295 → Answerable a → is_valid (taken v a) ≡ true
unfolding taken counted
taken_valid v a e few h =
    let p = parts v e in
    let k = place_of a.mode in
    parts_valid (taken v a) (record {
      scans = omega arith;
      size = length-set v.modes k _ ∙ p.size;
      counts = total_more v.modes k (omega (arith, place_few a.mode, p.size)) ∙ ap (λ (n : ℕ). n + 1) p.counts;
      alarms = alarms_most v.alarms a.ds v.scans p.alarms;
      extremes = extremes_after v.scans v.greatest v.least v.sumpv a.pv p.extremes h.pv;
      op_least = omega (arith, integers, sum v.sumop (pos a.op), p.op_least);
      op_most = omega (arith, integers, sum v.sumop (pos a.op), p.op_least, p.op_most, h.op);
    })

pub entered_valid : (s : Sheet) (a : ScanValues) → Valid s → Answerable a → Valid (entered s a).sheet
unfolding entered
entered_valid s a v h =
    by_cases (λ (r : EnterResult). Valid r.sheet) (leb 4294967295 s.values.scans) _ _ (λ e. v)
    (λ e. record { tested = taken_valid s.values a v.tested (leb-false 4294967295 s.values.scans e) h })

-- ---- nothing passes its type

sum_most : (scans : ℕ) (g l : Option Occurrence) (s : ℤ) → are_extremes scans g l s ≡ true → nat_abs s ≤ 2147483648 * scans
sum_most scans None None s e =
    let a = both (eqb scans 0 && le_z (pos 0) s) (le_z s (pos 0)) e in
    let b = both (eqb scans 0) (le_z (pos 0) s) a.0 in
    omega (arith, integers, number s, apart s, a.1, b.1)
sum_most scans None (Some l) s e = never e
sum_most scans (Some g) None s e = never e
sum_most zero (Some g) (Some l) s e = absurd (no_scan g l s e)
sum_most (suc more) (Some g) (Some l) s e =
    let p = possible_of more g l s e in
    sum_fits g.pv l.pv s more (scans_before g.number l.number) (scans_before l.number g.number)
    p.here_held p.other_held p.sum_here p.sum_other

-- the sums with one more
pub record Fits (v : SheetValues) (a : ScanValues) : Type 0 where
  pub pv : mag (v.sumpv +ℤ a.pv) < 9223372036854775808
  pub op : mag (v.sumop +ℤ pos a.op) < 9223372036854775808
  pub mode : get_or v.modes (place_of a.mode) 0 < 4294967295
  pub alarms : v.alarms < 4294967295

pub fits : (v : SheetValues) (a : ScanValues) → is_valid v ≡ true → v.scans < 4294967295 → Answerable a → Fits v a
fits v a e few h =
    let p = parts v e in
    let pv-size = sum_most v.scans v.greatest v.least v.sumpv p.extremes in
    record {
      pv = omega (arith, sum_size v.sumpv a.pv, pv-size, held_size a.pv h.pv);
      op = omega (arith, integers, sum v.sumop (pos a.op), p.op_least, p.op_most, h.op, number (v.sumop +ℤ pos a.op));
      mode = omega (arith, count_most v.modes (place_of a.mode), p.counts);
      alarms = omega (arith, p.alarms);
    }
