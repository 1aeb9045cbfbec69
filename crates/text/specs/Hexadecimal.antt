-- Bytes in hexadecimal digits of either case, two to a byte, as a line has them.
use Rattle.std.specs.Prelude.{Bool, true, false, ◌&&◌, cond, List, [], ◌∷◌, ◌++◌, ℕ, zero, suc, ◌+◌, ◌-◌, ◌*◌, ◌/◌, ◌%◌, eqb, leb, ltb}
use Rattle.std.specs.Prelude.{length, drop, get_or}
use Rattle.std.specs.Prelude as answer
use Rattle.std.proofs.Math.Option.{Option, some, none}
use Rattle.numerals.specs.Numerals.{within, digit_value}

-- the capital of a small letter `a` to `f`; another byte as it is
unfoldable pub capital : ℕ → ℕ
capital b = cond (within 97 102 b) (b - 97 + 65) b

-- the value of a digit of either case; 16 of another byte
unfoldable pub hexadecimal_value : ℕ → ℕ
hexadecimal_value b = digit_value (capital b)

-- whether every byte is a digit
unfoldable pub all_digits : List ℕ → Bool
all_digits [] = true
all_digits (b ∷ bs) = ltb (hexadecimal_value b) 16 && all_digits bs

-- the byte of a high and a low digit
abbrev pub pair : ℕ → ℕ → ℕ
pair high low = hexadecimal_value high * 16 + hexadecimal_value low

-- the bytes of the first pairs of digits
unfoldable pub pairs : List ℕ → ℕ → List ℕ
pairs word zero = []
pairs word (suc n) = pairs word n ++ (pair (get_or word (2 * n) 0) (get_or word (2 * n + 1) 0) ∷ [])

-- whether a word is `-`
unfoldable pub is_dash : List ℕ → Bool
is_dash word = cond (eqb (length word) 1) (eqb (get_or word 0 0) 45) false

-- the bytes of a word: none for `-`; else it has digits only, an even number of them and at least two
unfoldable pub bytes_of : List ℕ → Option (List ℕ)
bytes_of word =
    cond (is_dash word) (some [])
    (cond (ltb 0 (length word) && (eqb (length word % 2) 0 && all_digits word)) (some (pairs word (length word / 2))) none)

-- how many bytes there are; a buffer of that length must hold them all
unfoldable pub count_in : Option (List ℕ) → ℕ → answer.Option ℕ
count_in none size = answer.None
count_in (some bytes) size = cond (leb (length bytes) size) (answer.Some (length bytes)) answer.None

-- a buffer with the bytes at its front, where it holds them all; else it stays as it was
unfoldable pub bytes_in : Option (List ℕ) → List ℕ → List ℕ
bytes_in none buffer = buffer
bytes_in (some bytes) buffer = cond (leb (length bytes) (length buffer)) (bytes ++ drop (length bytes) buffer) buffer
