-- The bytes of an image by their places, apart from the rules that decode it. Before each value stand three bytes of
-- tag and length; the values of 1 to 23 and of 41h have two bytes each, the first at byte 3 and each next one five
-- bytes on, those of 42h, 43h and 44h are bytes 123, 127 and 131, the sumcheck begins at byte 135.
use Rattle.std.specs.Prelude.{Bool, List, ℕ, zero, suc, ◌+◌, ◌*◌, ◌%◌, eqb, get_or}

-- two bytes, "high byte first"
abbrev pub word_at : List ℕ → ℕ → ℕ
word_at image k = 256 * get_or image k 0 + get_or image (k + 1) 0

-- the sum of so many two-byte values
unfoldable pub two_byte_sum : List ℕ → ℕ → ℕ
two_byte_sum image zero = 0
two_byte_sum image (suc n) = two_byte_sum image n + word_at image (5 * n + 3)

-- "all earlier values, read unsigned, summed modulo 65,536"
unfoldable pub sum_right : List ℕ → Bool
sum_right image = eqb (word_at image 135) ((two_byte_sum image 24 + get_or image 123 0 + get_or image 127 0 + get_or image 131 0) % 65536)
