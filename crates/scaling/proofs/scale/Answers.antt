-- `scaling::scale` meets its contract.
use mathlib.Core.Path.{◌≡◌, ap, ◌∙◌}
use Prim.Native.Nat.{ℕ, ◌+◌, ◌*◌, ◌/◌, ◌≤◌}
use native.Mathlib.Omega.{arith}
use lib.IntN.{pos, nat_abs, ◌+ℤ◌, ◌-ℤ◌}
use mir.Facts.{to_z-of_z}
use mir.Syntax.{w64}
use mir.Val.{SFits}
use Rattle.integers.specs.Machine.{cast_back}
use Rattle.integers.specs.Operations.{bounded, difference, sum}
use Rattle.integers.specs.Parts.{integers}
use Rattle.integers.specs.Rounding.{half_up}
use Rattle.integers.specs.RoundingLaws.{half_up-quotient}
use Rattle.scaling.specs.Scale.{scaled}
use Rattle.scaling.proofs.scale.Goals.{After-unsigned_abs-span, Start}
use Rattle.scaling.proofs.scale.Goals as goal

span_fits : (c : Start) → SFits w64 (c.args.high -ℤ c.args.low)
span_fits c = omega (arith, integers, difference c.args.high c.args.low)

module _ (c : After-unsigned_abs-span) where
  span_is : c.unsigned_abs-span.result ≡ nat_abs (c.args.high -ℤ c.args.low)
  span_is = let s = c.before in simp (to_z-of_z, s.ranges.high, s.ranges.low, span_fits s) at c.unsigned_abs-span.ensures.value

  small : c.args.sample * c.unsigned_abs-span.result ≤ 10000 * 39996
  small =
      bounded 10000 39996 c.requires.sampled
      (omega (arith, integers, span_is, difference c.args.high c.args.low))

  -- the code's quotient, in the definition's words
  part_is : (2 * (c.args.sample * c.unsigned_abs-span.result) + 10000) / 20000
      ≡ half_up (c.args.sample * nat_abs (c.args.high -ℤ c.args.low)) 10000
  part_is =
      half_up-quotient (c.args.sample * c.unsigned_abs-span.result) 10000 (omega arith) ∙
      ap (λ (span : ℕ). half_up (c.args.sample * span) 10000) span_is

  part_most : (2 * (c.args.sample * c.unsigned_abs-span.result) + 10000) / 20000 ≤ 40000
  part_most = omega (arith, small)

  sum_fits : (n : ℕ) → n ≤ 40000 → SFits w64 (c.args.low +ℤ pos n)
  sum_fits n h = omega (arith, integers, sum c.args.low (pos n))

pub overflow_cast-result : goal.overflow_cast-result
overflow_cast-result c = omega (arith, small c)

pub returns : goal.returns
unfolding scaled
returns c =
    let low = c.args.low in
    simp (to_z-of_z c.ranges.low, cast_back w64 _ (overflow_cast-result c).sfits)
    (to_z-of_z (sum_fits c _ (part_most c)) ∙ ap (λ (part : ℕ). low +ℤ pos part) (part_is c))
