-- An integer made of its sign and its magnitude.
use Rattle.std.specs.Prelude.{◌≡◌, refl, Bool, true, false, not, ℕ, zero, suc, ◌*◌, ℤ, pos, negsuc, neg_ℤ, nat_abs, ◌*ℤ◌}
use Rattle.std.proofs.Common.{sym, ap, ◌∙◌, zero-le, zero-mul, mul-zero, arith, le-ltb}
use Rattle.std.proofs.Math.IntN.{neg_ℤ-neg_ℤ}
use Rattle.std.specs.Int.Signed.{lt_z}
use Rattle.integers.specs.Operations.{negation}

-- -m where minus is true, else m
abbrev pub from_sign : Bool → ℕ → ℤ
from_sign true m = neg_ℤ (pos m)
from_sign false m = pos m

-- whether z lies below zero
abbrev pub is_negative : ℤ → Bool
is_negative z = lt_z z (pos 0)

pub sign_and_size : (z : ℤ) → from_sign (is_negative z) (nat_abs z) ≡ z
sign_and_size (pos n) = ap (λ (t : Bool). from_sign t n) (le-ltb n 0 zero-le)
sign_and_size (negsuc n) = refl

pub nat_abs-from_sign : (minus : Bool) (m : ℕ) → nat_abs (from_sign minus m) ≡ m
nat_abs-from_sign true m = omega (arith, negation (pos m))
nat_abs-from_sign false m = refl

pub negate-from_sign : (minus : Bool) (m : ℕ) → neg_ℤ (from_sign minus m) ≡ from_sign (not minus) m
negate-from_sign true m = neg_ℤ-neg_ℤ (pos m)
negate-from_sign false m = refl

pub from_sign-times : (minus : Bool) (m k : ℕ) → from_sign minus m *ℤ pos k ≡ from_sign minus (m * k)
from_sign-times true zero k = rw zero-mul
from_sign-times true (suc m) k = refl
from_sign-times false m k = refl

pub times-from_sign : (minus : Bool) (k m : ℕ) → pos k *ℤ from_sign minus m ≡ from_sign minus (k * m)
times-from_sign true k zero = rw mul-zero
times-from_sign true k (suc m) = refl
times-from_sign false k m = refl

-- a product with a natural number, by sign and magnitude
pub times_is : (k : ℕ) (z : ℤ) → pos k *ℤ z ≡ from_sign (is_negative z) (k * nat_abs z)
times_is k z = ap (λ (x : ℤ). pos k *ℤ x) (sym (sign_and_size z)) ∙ times-from_sign (is_negative z) k (nat_abs z)

pub timed_is : (z : ℤ) (k : ℕ) → z *ℤ pos k ≡ from_sign (is_negative z) (nat_abs z * k)
timed_is z k = ap (λ (x : ℤ). x *ℤ pos k) (sym (sign_and_size z)) ∙ from_sign-times (is_negative z) (nat_abs z) k
