-- A signed number in a word of 16 bits, "two's complement", and back.
use Rattle.std.specs.Prelude.{◌≡◌, refl, true, ℕ, ◌-◌, ◌≤◌, ◌<◌, ltb, ℤ, pos, negsuc, nat_abs, ◌-ℤ◌, if◌then◌else◌}
use Rattle.std.proofs.Common.{arith, lt-ltb, le-ltb}
use Rattle.std.specs.Int.{w16, cast_signed, cast_unsigned}
use Rattle.integers.specs.Choice.{by_cases}
use Rattle.integers.specs.Operations.{number, difference}
use Rattle.integers.specs.Parts.{integers, apart}
use Rattle.integers.specs.Sign.{is_negative}

-- a number below zero counts from 65,536 down
unfoldable pub as_word : ℤ → ℕ
as_word v = if is_negative v then 65536 - nat_abs v else nat_abs v

unfoldable pub from_word : ℕ → ℤ
from_word w = if ltb w 32768 then pos w else pos w -ℤ pos 65536

pub word_back : (v : ℤ) → nat_abs v ≤ 32767 → from_word (as_word v) ≡ v
unfolding as_word from_word
word_back (pos n) h = rw (le-ltb n 0 (omega arith), lt-ltb n 32768 (omega arith)) refl
word_back (negsuc n) h =
    let w = 65536 - nat_abs (negsuc n) in
    rw (le-ltb w 32768 (omega arith)) (omega (arith, integers, difference (pos w) (pos 65536), apart (pos w -ℤ pos 65536)))

pub value_back : (w : ℕ) → w < 65536 → as_word (from_word w) ≡ w
unfolding as_word from_word
value_back w h =
    by_cases (λ (z : ℤ). as_word z ≡ w) (ltb w 32768) (pos w) (pos w -ℤ pos 65536)
    (λ e. rw (le-ltb w 0 (omega arith)) refl)
    (λ e. let z = pos w -ℤ pos 65536 in
    let negative : is_negative z ≡ true = omega (arith, integers, difference (pos w) (pos 65536), apart z) in
    rw negative (omega (arith, integers, difference (pos w) (pos 65536), number z, apart z)))

pub word_most : (v : ℤ) → nat_abs v ≤ 65535 → as_word v ≤ 65535
unfolding as_word
word_most (pos n) h = rw (le-ltb n 0 (omega arith)) h
word_most (negsuc n) h = omega arith

-- both are what the type's own conversions give
pub as_word_is : (v : ℤ) → cast_unsigned w16 v ≡ as_word v
unfolding as_word
as_word_is (pos n) = rw (le-ltb n 0 (omega arith)) refl
as_word_is (negsuc n) = refl

pub from_word_is : (w : ℕ) → w < 65536 → cast_signed w16 w ≡ from_word w
unfolding from_word
from_word_is w h =
    by_cases (λ (z : ℤ). cast_signed w16 w ≡ z) (ltb w 32768) (pos w) (pos w -ℤ pos 65536)
    (λ e. rw e refl)
    (λ e. rw e (omega (arith, integers, difference (pos w) (pos 65536), apart (pos w -ℤ pos 65536))))
