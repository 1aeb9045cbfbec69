-- What the machine reads back of a signed number: the number itself, since it fits its width. Every
-- width is covered by one law.
use Rattle.std.specs.Prelude.{◌≡◌, true, ℕ, ◌^◌, ◌<◌, ◌≤◌, ℤ, pos, negsuc, neg_ℤ, nat_abs, ◌+ℤ◌, ◌-ℤ◌}
use Rattle.std.proofs.Common.{arith, leb-true, to_z-of_z}
use Rattle.std.specs.Int.Signed.{mag, le_z}
use Rattle.std.specs.Int.{Width, w64}
use mir.Val.{SFits, to_z, of_z, hbits}
use Rattle.integers.specs.Operations.{sum_size, difference_size}
use Rattle.integers.specs.Parts.{Same, same}

-- for omega's list, where what is read back stands in a test or a cast
pub reads : {w : Width} {z : ℤ} → SFits w z → Same (to_z w (of_z w z)) z
reads f = same (to_z-of_z f)

-- of a call's result, whose range is `c.f.ok`
pub back : (w : Width) (z : ℤ) → mag z < 2 ^ hbits w → to_z w (of_z w z) ≡ z
back w z h = to_z-of_z {w = w} {z = z} (record { sfits = h })

-- of an unsigned number that was cast to a signed type
pub cast_back : (w : Width) (n : ℕ) → n < 2 ^ hbits w → to_z w n ≡ pos n
cast_back w n h = to_z-of_z {w = w} {z = pos n} (record { sfits = h })

-- what the machine reads back, for `grind`: of arguments, of calls' results, of casts
pub ruleset read_back = (to_z-of_z, back, cast_back)

-- a number so small that a sum or difference of two fits 64 bits by far: up to a million million
pub record Small (z : ℤ) : Type 0 where
  pub small : nat_abs z ≤ 1000000000000

module _ (a b : ℤ) (small_a : Small a) (small_b : Small b) where
  pub sum_fits : SFits w64 (a +ℤ b)
  sum_fits = record { sfits = omega (arith, sum_size a b, small_a.small, small_b.small) }

  pub difference_fits : SFits w64 (a -ℤ b)
  difference_fits = record { sfits = omega (arith, difference_size a b, small_a.small, small_b.small) }

-- ---- a number that 32 bits hold

pub held : (z : ℤ) → le_z (neg_ℤ (pos 2147483648)) z ≡ true → le_z z (pos 2147483647) ≡ true → mag z < 2147483648
held (pos n) low high = let h = leb-true n 2147483647 high in omega arith
held (negsuc n) low high = let h = leb-true n 2147483647 low in omega arith
