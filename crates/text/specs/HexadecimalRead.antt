-- Bytes that are written in hexadecimal digits read as those bytes.
use Rattle.std.specs.Prelude.{◌≡◌, refl, true, false, List, [], ◌∷◌, ℕ, zero, suc, ◌+◌, ◌*◌, ◌/◌, ◌%◌, ◌≤◌, ◌<◌, length, take, get_or}
use Rattle.std.proofs.Common.{◌∙◌, arith, take-suc, take_all, lt-ltb, ne_eqb}
use Rattle.std.proofs.Math.Option.{some}
use Rattle.numerals.specs.Numerals.{digit_byte, last_digits, hexadecimal}
use Rattle.numerals.specs.DigitLaws.{below, byte_value, byte_most, hexadecimal_length, hexadecimal_at}
use Rattle.text.specs.Hexadecimal.{capital, hexadecimal_value, all_digits, pair, pairs, is_dash, bytes_of}
use Rattle.text.specs.HexadecimalLaws.{digits_read}

digit_value_lem : (d : ℕ) → d < 16 → hexadecimal_value (digit_byte d) ≡ d
unfolding hexadecimal_value capital
digit_value_lem d h = rw (below 97 102 (digit_byte d) (omega (arith, byte_most d h))) (byte_value d h)

-- each number of a list is a byte's
abbrev pub AllBytes : List ℕ → Type 0
AllBytes bs = (i : ℕ) → i < length bs → get_or bs i 0 < 256

all_digits_lem : (bs : List ℕ) → all_digits (hexadecimal bs) ≡ true
unfolding hexadecimal last_digits all_digits
all_digits_lem [] = refl
all_digits_lem (b ∷ bs) =
    let high = digit_value_lem (b / 16 % 16) (omega arith) in
    let low = digit_value_lem (b % 16) (omega arith) in
    rw (high, low, lt-ltb (b / 16 % 16) 16 (omega arith), lt-ltb (b % 16) 16 (omega arith)) (all_digits_lem bs)

pairs_written : (bs : List ℕ) → AllBytes bs → (n : ℕ) → n ≤ length bs → pairs (hexadecimal bs) n ≡ take n bs
unfolding pairs
pairs_written bs h zero k = refl
pairs_written bs h (suc n) k =
    let l = h n (omega arith) in
    let d = hexadecimal_at bs n (omega arith) in
    let byte : pair (get_or (hexadecimal bs) (2 * n) 0) (get_or (hexadecimal bs) (2 * n + 1) 0) ≡ get_or bs n 0 =
    rw (d.0, d.1, digit_value_lem (get_or bs n 0 / 16 % 16) (omega arith), digit_value_lem (get_or bs n 0 % 16) (omega arith))
    (omega arith) in
    rw (take-suc bs n 0 (omega arith), byte, pairs_written bs h n (omega arith))

-- two digits or more are no `-`
not_dash : (word : List ℕ) → 1 < length word → is_dash word ≡ false
unfolding is_dash
not_dash word h = simp (ne_eqb (length word) 1 (λ e. omega arith))

-- at least one byte: none are written as no digits, and read from `-`
pub bytes_read : (bs : List ℕ) → AllBytes bs → 0 < length bs → bytes_of (hexadecimal bs) ≡ some bs
bytes_read bs h k =
    let word = hexadecimal bs in
    let size = hexadecimal_length bs in
    let half : length word / 2 ≡ length bs = omega arith in
    let whole : pairs word (length bs) ≡ bs = pairs_written bs h (length bs) (omega arith) ∙ take_all (length bs) bs (omega arith) in
    digits_read word (not_dash word (omega arith)) (λ e. omega arith) (λ e. omega arith) (all_digits_lem bs) ∙ rw (half, whole)
