-- An integer as any difference of two natural numbers. Sums and multiples are then sums and multiples
-- of the two, and laws about distances are laws about natural numbers.
use Rattle.std.specs.Prelude.{◌≡◌, refl, ℕ, ◌+◌, ◌*◌, ◌≤◌, ◌<◌, true, false, ℤ, pos, nat_abs, ◌+ℤ◌, ◌-ℤ◌, ◌*ℤ◌}
use Rattle.std.proofs.Common.{ap, arith}
use Rattle.std.specs.Int.Signed.{lt_z}
use Rattle.integers.specs.Operations.{sum, difference, product, number}
use Rattle.integers.specs.Parts.{above, below, apart, lt_z-true, lt_z-false}

-- z is p - q
pub record Split (z : ℤ) (p q : ℕ) : Type 0 where
  pub balance : above z + q ≡ p + below z

pub split_self : (z : ℤ) → Split z (above z) (below z)
split_self z = record { balance = refl }

pub split_sum : (a b : ℤ) {p q r s : ℕ} → Split a p q → Split b r s → Split (a +ℤ b) (p + r) (q + s)
split_sum a b h k = omega (arith, sum a b)

pub split_difference : (a b : ℤ) {p q r s : ℕ} → Split a p q → Split b r s → Split (a -ℤ b) (p + s) (q + r)
split_difference a b h k = omega (arith, difference a b)

pub split_times : (a : ℤ) (n : ℕ) {p q : ℕ} → Split a p q → Split (a *ℤ pos n) (p * n) (q * n)
split_times a n h = omega (arith, product a (pos n), ap (λ (x : ℕ). x * n) h.balance)

-- a bound on the size, in and out
pub size_in : (z : ℤ) {p q : ℕ} (k : ℕ) → Split z p q → 2 * p ≤ 2 * q + k → 2 * q ≤ 2 * p + k → 2 * nat_abs z ≤ k
size_in z k h a b = omega (arith, number z, apart z)

pub size_out : (z : ℤ) {p q : ℕ} → Split z p q → (p ≤ q + nat_abs z) × (q ≤ p + nat_abs z)
size_out z h = omega (arith, number z)

-- the test of order
pub split_less : (a b : ℤ) {p q r s : ℕ} → Split a p q → Split b r s → lt_z a b ≡ true → p + s < r + q
split_less a b h k e = omega (arith, lt_z-true a b e)

pub split_not_less : (a b : ℤ) {p q r s : ℕ} → Split a p q → Split b r s → lt_z a b ≡ false → r + q ≤ p + s
split_not_less a b h k e = omega (arith, lt_z-false a b e)
