-- `sheet::kept::sum_bound` meets its contract.
use mathlib.Core.Path.{◌≡◌}
use Prim.Native.Nat.{◌-◌, ◌<◌}
use native.Mathlib.Omega.{arith}
use lib.IntN.{pos, ◌+ℤ◌, ◌*ℤ◌}
use lib.Signed.{mag}
use mir.Syntax.{w32, w64}
use mir.Val.{to_z, of_z, SFits}
use Rattle.integers.specs.Machine.{back, cast_back}
use Rattle.integers.specs.Operations.{number, nat_abs-product}
use Rattle.sheet.specs.ExtremeLaws.{bound_fits, times_fits, sum_of_fits}
use Rattle.sheet.specs.Valid.{sum_bound}
use borrow.Author.Rules.{rules}
use Rattle.sheet.proofs.kept.sum_bound.Goals.{Start}
use Rattle.sheet.proofs.kept.sum_bound.Goals as goal

-- what is computed, as the machine has it
module _ (c : Start) where
  here_held : SFits w32 c.args.here.pv
  here_held = search rules

  other_held : SFits w32 c.args.other.pv
  other_held = search rules

  here_read : to_z w64 (of_z w64 (to_z w32 (of_z w32 c.args.here.pv))) ≡ c.args.here.pv
  here_read = rw (back w32 _ here_held.sfits) (back w64 _ (omega (arith, here_held.sfits)))

  other_read : to_z w64 (of_z w64 (to_z w32 (of_z w32 c.args.other.pv))) ≡ c.args.other.pv
  other_read = rw (back w32 _ other_held.sfits) (back w64 _ (omega (arith, other_held.sfits)))

  more_read : to_z w64 (c.args.scans - 1) ≡ pos (c.args.scans - 1)
  more_read = cast_back w64 _ (omega (arith, c.requires.few))

  product_read : to_z w64 (of_z w64 (c.args.here.pv *ℤ pos (c.args.scans - 1))) ≡ c.args.here.pv *ℤ pos (c.args.scans - 1)
  product_read =
      back w64 _ (omega (
        arith,
        times_fits c.args.here.pv c.args.scans c.requires.bounded.held c.requires.few,
        nat_abs-product c.args.here.pv (pos (c.args.scans - 1)),
        number (c.args.here.pv *ℤ pos (c.args.scans - 1)),
      ))

  sum_held : SFits w64 ((c.args.here.pv *ℤ pos (c.args.scans - 1)) +ℤ c.args.other.pv)
  sum_held =
      let b = c.requires.bounded in
      record { sfits = sum_of_fits c.args.here.pv c.args.other.pv c.args.scans b.held b.other_held c.requires.few }

  sum_read :
      to_z w64 (of_z w64 ((c.args.here.pv *ℤ pos (c.args.scans - 1)) +ℤ c.args.other.pv))
      ≡ (c.args.here.pv *ℤ pos (c.args.scans - 1)) +ℤ c.args.other.pv
  sum_read = back w64 _ sum_held.sfits

  bound_held : mag (sum_bound c.args.bound c.args.scans c.args.here c.args.other) < 9223372036854775808
  bound_held = bound_fits c.args.bound c.args.scans c.args.here c.args.other c.requires.bounded c.requires.few

pub overflow_add-sum : goal.overflow_add-sum
overflow_add-sum c =
    let start = (goal.at.overflow_add-sum c).Start in
    rw (here_read start, more_read start, product_read start, other_read start) (sum_held start)

pub overflow_sub-result : goal.overflow_sub-result
unfolding sum_bound
overflow_sub-result c =
    let start = (goal.at.overflow_sub-result c).Start in
    let earlier = cast_back w64 c.scans_before-earlier.result (omega (arith, c.scans_before-earlier.type_inv)) in
    let bound = rw c.in-Greatest.is at (bound_held start) in
    rw (
      here_read start,
      more_read start,
      product_read start,
      other_read start,
      sum_read start,
      earlier,
      c.scans_before-earlier.ensures,
    )
    (record { sfits = bound })

pub overflow_add-result : goal.overflow_add-result
unfolding sum_bound
overflow_add-result c =
    let start = (goal.at.overflow_add-result c).Start in
    let earlier = cast_back w64 c.scans_before-earlier.result (omega (arith, c.scans_before-earlier.type_inv)) in
    let bound = rw c.in-Least.is at (bound_held start) in
    rw (
      here_read start,
      more_read start,
      product_read start,
      other_read start,
      sum_read start,
      earlier,
      c.scans_before-earlier.ensures,
    )
    (record { sfits = bound })

pub returns-in-Greatest : goal.returns-in-Greatest
unfolding sum_bound
returns-in-Greatest c =
    let start = (goal.at.returns-in-Greatest c).Start in
    let earlier = cast_back w64 c.scans_before-earlier.result (omega (arith, c.scans_before-earlier.type_inv)) in
    let bound = rw c.in-Greatest.is at (bound_held start) in
    rw (
      here_read start,
      more_read start,
      product_read start,
      other_read start,
      sum_read start,
      earlier,
      c.scans_before-earlier.ensures,
    )
    (rw c.in-Greatest.is (back w64 _ bound))

pub returns-in-Least : goal.returns-in-Least
unfolding sum_bound
returns-in-Least c =
    let start = (goal.at.returns-in-Least c).Start in
    let earlier = cast_back w64 c.scans_before-earlier.result (omega (arith, c.scans_before-earlier.type_inv)) in
    let bound = rw c.in-Least.is at (bound_held start) in
    rw (
      here_read start,
      more_read start,
      product_read start,
      other_read start,
      sum_read start,
      earlier,
      c.scans_before-earlier.ensures,
    )
    (rw c.in-Least.is (back w64 _ bound))
