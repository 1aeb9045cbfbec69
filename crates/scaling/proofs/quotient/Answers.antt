-- `scaling::quotient` meets its contract.
use mathlib.Core.Path.{◌≡◌, ◌∙◌}
use Prim.Native.Nat.{◌*◌, ◌≤◌}
use native.Mathlib.Omega.{arith}
use lib.IntN.{nat_abs}
use mir.Facts.{to_z-of_z}
use mir.Syntax.{w64}
use Rattle.integers.specs.Machine.{back}
use Rattle.integers.specs.Operations.{bounded}
use Rattle.integers.specs.RoundingLaws.{half_even-most}
use Rattle.scaling.specs.Ratio.{quotient_parts}
use Rattle.scaling.proofs.quotient.Goals.{After-unsigned_abs}
use Rattle.scaling.proofs.quotient.Goals as goal

module _ (c : After-unsigned_abs) where
  size_is : c.unsigned_abs.result ≡ nat_abs c.args.q
  size_is = simp (to_z-of_z, c.ranges.q) at c.unsigned_abs.ensures.value

  small : c.unsigned_abs.result * c.args.m ≤ 9999 * 9999
  small = bounded 9999 9999 (omega (arith, size_is)) (omega arith)

pub signed-requires : goal.signed-requires
signed-requires c =
    let m = c.before in
    omega (
      arith,
      small m,
      c.nearest_even-size.ensures,
      half_even-most (m.unsigned_abs.result * c.args.m) c.args.d c.requires.d_some,
    )

pub returns : goal.returns
returns c =
    let m = c.before.before in
    back w64 _ c.signed.type_inv ∙ c.signed.ensures ∙
    simp (c.nearest_even-size.ensures, to_z-of_z c.ranges.q, size_is m)
    (quotient_parts c.args.q c.args.m c.args.d c.requires.d_some)
