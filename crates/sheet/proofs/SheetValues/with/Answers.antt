-- `sheet::SheetValues::with` meets its contract.
use mathlib.Core.Path.{◌≡◌, refl}
use Prim.Native.Nat.{◌<◌}
use native.Mathlib.Omega.{arith}
use lib.IntN.{pos, ◌+ℤ◌}
use mir.Syntax.{w32, w64}
use mir.Val.{SFits, to_z, of_z}
use Rattle.integers.specs.Machine.{back, cast_back}
use Rattle.sheet.specs.EnteredLaws.{Answerable, taken_valid, Fits, fits}
use Rattle.sheet.specs.Sheet.{taken, counted}
use Rattle.sheet.specs.SumLaws.{held_by}
use borrow.Author.Rules.{rules}
use Rattle.sheet.proofs.SheetValues.with.Goals.{Start}
use Rattle.sheet.proofs.SheetValues.with.Goals as goal

module _ (c : Start) where
  pv : SFits w32 c.args.answer.pv
  pv = search rules

  sumpv : SFits w64 c.args.self.sumpv
  sumpv = search rules

  sumop : SFits w64 c.args.self.sumop
  sumop = search rules

  op : c.args.answer.op < 65536
  op = search rules

  -- the signed values, as they are read
  pv_read : to_z w32 (of_z w32 c.args.answer.pv) ≡ c.args.answer.pv
  pv_read = back w32 c.args.answer.pv pv.sfits

  wide_pv_read : to_z w64 (of_z w64 c.args.answer.pv) ≡ c.args.answer.pv
  wide_pv_read = back w64 c.args.answer.pv (omega (arith, pv.sfits))

  op_read : to_z w64 c.args.answer.op ≡ pos c.args.answer.op
  op_read = cast_back w64 c.args.answer.op (omega (arith, op))

  sumpv_read : to_z w64 (of_z w64 c.args.self.sumpv) ≡ c.args.self.sumpv
  sumpv_read = back w64 c.args.self.sumpv sumpv.sfits

  sumop_read : to_z w64 (of_z w64 c.args.self.sumop) ≡ c.args.self.sumop
  sumop_read = back w64 c.args.self.sumop sumop.sfits

  answerable : Answerable c.args.answer
  answerable = record { pv = held_by c.args.answer.pv pv.sfits; op = omega (arith, op) }

  fitting : Fits c.args.self c.args.answer
  fitting = fits c.args.self c.args.answer c.requires.1 c.requires.0 answerable

pub overflow_add-modes : goal.overflow_add-modes
overflow_add-modes c = rw c.place.ensures (omega (arith, (fitting (goal.at.overflow_add-modes c).Start).mode))

pub alarms_after-requires : goal.alarms_after-requires
alarms_after-requires c = (fitting (goal.at.alarms_after-requires c).Start).alarms

pub overflow_add-result : goal.overflow_add-result
overflow_add-result c =
    let start = (goal.at.overflow_add-result c).Start in
    rw (sumpv_read start, pv_read start, wide_pv_read start) (record { sfits = (fitting start).pv })

pub overflow_add-result-2 : goal.overflow_add-result-2
overflow_add-result-2 c =
    let start = (goal.at.overflow_add-result-2 c).Start in
    rw (sumop_read start, op_read start) (record { sfits = (fitting start).op })

pub returns : goal.returns
unfolding taken counted
returns c =
    let start = (goal.at.returns c).Start in
    let v = c.args.self in
    let a = c.args.answer in
    rw (
      c.place.ensures,
      c.extreme_after.ensures,
      c.extreme_after-2.ensures,
      c.alarms_after.ensures,
      sumpv_read start,
      pv_read start,
      wide_pv_read start,
      sumop_read start,
      op_read start,
      back w64 (v.sumpv +ℤ a.pv) (fitting start).pv,
      back w64 (v.sumop +ℤ pos a.op) (fitting start).op,
    )
    (refl, taken_valid v a c.requires.1 c.requires.0 (answerable start))
