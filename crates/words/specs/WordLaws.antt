-- Laws of the words' bits.
use Rattle.std.specs.Prelude.{◌≡◌, refl, Bool, true, false, ℕ, ◌+◌, ◌*◌, ◌≤◌}
use Rattle.std.proofs.Common.{arith}
use Rattle.words.specs.Words.{weight, nibble_of, byte_of}

-- a bit adds its weight at most
pub weight_most : (b : Bool) (w : ℕ) → weight b w ≤ w
weight_most true w = omega arith
weight_most false w = omega arith

-- a bit of the upper half weighs 16 times that of the lower half
weight_upper : (b : Bool) (w : ℕ) → weight b (16 * w) ≡ 16 * weight b w
weight_upper true w = refl
weight_upper false w = omega arith

-- a byte by its two halves
pub byte_nibbles : (b7 b6 b5 b4 b3 b2 b1 b0 : Bool) →
    byte_of b7 b6 b5 b4 b3 b2 b1 b0 ≡ 16 * nibble_of b7 b6 b5 b4 + nibble_of b3 b2 b1 b0
unfolding byte_of nibble_of
byte_nibbles b7 b6 b5 b4 b3 b2 b1 b0 =
    omega (arith, weight_upper b7 8, weight_upper b6 4, weight_upper b5 2, weight_upper b4 1)
