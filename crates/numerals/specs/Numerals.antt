-- Numbers as ASCII bytes: digits of a base from 2 to 16, decimals and words of 16 bits, written and read.
use Rattle.std.specs.Prelude.{Bool, true, false, ◌&&◌, cond, List, [], ◌∷◌, ◌++◌, ℕ, zero, suc, ◌+◌, ◌-◌, ◌*◌, ◌/◌, ◌%◌, eqb, leb, ltb, ℤ}
use Rattle.std.specs.Prelude.{nat_abs, length, drop, get_or}
use Rattle.std.proofs.Math.Option.{Option, some, none}
use Rattle.integers.specs.Sign.{from_sign, is_negative}

-- ---- written

-- the byte of a digit below 16: `0` to `9`, then `A` to `F`
unfoldable pub digit_byte : ℕ → ℕ
digit_byte d = cond (ltb d 10) (48 + d) (55 + d)

-- the last k digits of n in base b
unfoldable pub last_digits : ℕ → ℕ → ℕ → List ℕ
last_digits b zero n = []
last_digits b (suc k) n = last_digits b k (n / b) ++ (digit_byte (n % b) ∷ [])

-- how many digits n has in base b with no leading zero, where `more` divisions by b are enough to reach its first
unfoldable pub places_within : ℕ → ℕ → ℕ → ℕ
places_within b zero n = 1
places_within b (suc more) n = cond (ltb n b) 1 (suc (places_within b more (n / b)))

-- n divisions are always enough
unfoldable pub places : ℕ → ℕ → ℕ
places b n = places_within b n n

-- the decimal digits of a natural number, with no leading zero
unfoldable pub digits : ℕ → List ℕ
digits n = last_digits 10 (places 10 n) n

-- the same of an integer, with a minus in front where it lies below zero
unfoldable pub decimal : ℤ → List ℕ
decimal z = cond (is_negative z) (45 ∷ digits (nat_abs z)) (digits (nat_abs z))

-- a word of 16 bits in four hexadecimal digits
unfoldable pub hexadecimal_word : ℕ → List ℕ
hexadecimal_word n = last_digits 16 4 n

-- bytes in hexadecimal, two digits for each
unfoldable pub hexadecimal : List ℕ → List ℕ
hexadecimal [] = []
hexadecimal (b ∷ bs) = last_digits 16 2 b ++ hexadecimal bs

-- ---- read

-- whether a number lies between two others, or is one of them
abbrev pub within : ℕ → ℕ → ℕ → Bool
within low high b = leb low b && leb b high

-- the value of a digit, `0` to `9` or `A` to `F`; 16 of another byte
unfoldable pub digit_value : ℕ → ℕ
digit_value b = cond (within 48 57 b) (b - 48) (cond (within 65 70 b) (b - 65 + 10) 16)

-- the value of digits in base b that follow those of v; none where another byte is among them
unfoldable pub read_on : ℕ → ℕ → List ℕ → Option ℕ
read_on b v [] = some v
read_on b v (d ∷ ds) = cond (ltb (digit_value d) b) (read_on b (v * b + digit_value d) ds) none

-- the value of one digit or more in base b, at most so many
unfoldable pub digits_of : ℕ → ℕ → List ℕ → Option ℕ
digits_of b most ds = cond (ltb 0 (length ds)) (cond (leb (length ds) most) (read_on b 0 ds) none) none

unfoldable pub with_sign : Bool → Option ℕ → Option ℤ
with_sign minus none = none
with_sign minus (some n) = some (from_sign minus n)

-- an integer: an optional minus and one decimal digit or more, at most so many
unfoldable pub integer_of : ℕ → List ℕ → Option ℤ
integer_of most s = cond (eqb (get_or s 0 0) 45) (with_sign true (digits_of 10 most (drop 1 s))) (with_sign false (digits_of 10 most s))

-- a word of 16 bits: exactly four hexadecimal digits
unfoldable pub word_of : List ℕ → Option ℕ
word_of s = cond (eqb (length s) 4) (read_on 16 0 s) none
