-- What omega is told of a negation, a sum, a difference and a product of integers. Each entry is
-- linear, and so costs no case split.
use Rattle.std.specs.Prelude.{◌≡◌, refl, ℕ, zero, suc, ◌+◌, ◌-◌, ◌*◌, ◌≤◌, ltb, ℤ, pos, negsuc, neg_ℤ, nat_abs, ◌+ℤ◌, ◌-ℤ◌, ◌*ℤ◌}
use Rattle.std.proofs.Common.{mul-le-mul, arith, ltb-true, ltb-false}
use Rattle.std.proofs.Math.IntN.{sub_ℕ}
use Rattle.std.specs.Int.Signed.{mag}
use Rattle.integers.specs.Choice.{by_cases}
use Rattle.integers.specs.Parts.{above, below}

-- of any integer: its size, which bounds what a width must hold
pub record Number (z : ℤ) : Type 0 where
  pub size : nat_abs z ≡ above z + below z
  pub held : mag z ≤ nat_abs z

pub number : (z : ℤ) → Number z
number (pos n) = omega arith
number (negsuc n) = omega arith

-- of an integer that is known to fit a width: bounds the other way
pub record Known (z : ℤ) : Type 0 where
  pub size : nat_abs z ≡ above z + below z
  pub above_held : above z ≤ mag z
  pub below_held : below z ≤ suc (mag z)

pub known : (z : ℤ) → Known z
known (pos n) = omega arith
known (negsuc n) = omega arith

-- ---- negation

pub record Negation (a : ℤ) : Type 0 where
  pub aboves : above (neg_ℤ a) ≡ below a
  pub belows : below (neg_ℤ a) ≡ above a
  pub sizes : nat_abs (neg_ℤ a) ≡ nat_abs a
  pub held : mag (neg_ℤ a) ≤ nat_abs a

pub negation : (a : ℤ) → Negation a
negation (pos zero) = omega arith
negation (pos (suc n)) = omega arith
negation (negsuc n) = omega arith

-- ---- sum and difference

above_sub : (a b : ℕ) → above (sub_ℕ a b) ≡ a - b
above_sub a b =
    by_cases (λ z. above z ≡ a - b) (ltb a b) (negsuc (b - suc a)) (pos (a - b)) (λ e. omega (arith, ltb-true a b e)) (λ e. refl)

below_sub : (a b : ℕ) → below (sub_ℕ a b) ≡ b - a
below_sub a b =
    by_cases (λ z. below z ≡ b - a) (ltb a b) (negsuc (b - suc a)) (pos (a - b)) (λ e. omega (arith, ltb-true a b e))
    (λ e. omega (arith, ltb-false a b e))

pub record Sum (s a b : ℤ) : Type 0 where
  pub self : Number s
  pub balance : above s + (below a + below b) ≡ below s + (above a + above b)
  pub above_most : above s ≤ above a + above b
  pub below_most : below s ≤ below a + below b

pub sum : (a b : ℤ) → Sum (a +ℤ b) a b
sum (pos a) (pos b) = omega arith
sum (pos a) (negsuc b) = omega (arith, above_sub a (suc b), below_sub a (suc b), number (sub_ℕ a (suc b)))
sum (negsuc a) (pos b) = omega (arith, above_sub b (suc a), below_sub b (suc a), number (sub_ℕ b (suc a)))
sum (negsuc a) (negsuc b) = omega arith

pub record Difference (s a b : ℤ) : Type 0 where
  pub self : Number s
  pub balance : above s + (below a + above b) ≡ below s + (above a + below b)
  pub above_most : above s ≤ above a + below b
  pub below_most : below s ≤ below a + above b

pub difference : (a b : ℤ) → Difference (a -ℤ b) a b
difference a b = omega (arith, sum a (neg_ℤ b), negation b)

-- ---- product

pub record Product (a b : ℤ) : Type 0 where
  pub aboves : above (a *ℤ b) ≡ above a * above b + below a * below b
  pub belows : below (a *ℤ b) ≡ above a * below b + below a * above b

pub product : (a b : ℤ) → Product a b
product (pos a) (pos b) = omega arith
product (pos a) (negsuc b) = omega (arith, negation (pos (a * suc b)))
product (negsuc a) (pos b) = omega (arith, negation (pos (suc a * b)))
product (negsuc a) (negsuc b) = omega arith

pub nat_abs-product : (a b : ℤ) → nat_abs (a *ℤ b) ≡ nat_abs a * nat_abs b
nat_abs-product (pos a) (pos b) = refl
nat_abs-product (pos a) (negsuc b) = omega (arith, negation (pos (a * suc b)))
nat_abs-product (negsuc a) (pos b) = omega (arith, negation (pos (suc a * b)))
nat_abs-product (negsuc a) (negsuc b) = refl

-- ---- sizes alone: all that is asked where it matters only that a result fits

pub record Size (z : ℤ) (most : ℕ) : Type 0 where
  pub held : mag z ≤ nat_abs z
  pub size : nat_abs z ≤ most

pub sum_size : (a b : ℤ) → Size (a +ℤ b) (nat_abs a + nat_abs b)
sum_size a b = omega (arith, sum a b, number a, number b)

pub difference_size : (a b : ℤ) → Size (a -ℤ b) (nat_abs a + nat_abs b)
difference_size a b = omega (arith, difference a b, number a, number b)

-- a product of natural numbers is bounded by its factors' bounds
pub bounded : (m n : ℕ) {a b : ℕ} → a ≤ m → b ≤ n → a * b ≤ m * n
bounded m n h k = mul-le-mul h k
