-- What the functions that read numbers answer.
use Rattle.std.specs.Prelude.{cond, List, ℕ, ◌^◌, ltb, ℤ}
use Rattle.std.specs.Prelude as answer
use Rattle.std.proofs.Math.Option.{Option, some, none}
use Rattle.numerals.specs.Numerals.{digits_of, integer_of, word_of}

-- a value that 64 bits hold
unfoldable pub within64 : Option ℕ → answer.Option ℕ
within64 (some v) = cond (ltb v (2 ^ 64)) (answer.Some v) answer.None
within64 none = answer.None

-- a natural number of 64 bits: one to twenty digits, and no sign
unfoldable pub natural_of : List ℕ → answer.Option ℕ
natural_of s = within64 (digits_of 10 20 s)

unfoldable pub parsed_number : Option ℤ → answer.Option ℤ
parsed_number (some z) = answer.Some z
parsed_number none = answer.None

-- an integer of at most so many digits
unfoldable pub number_of : ℕ → List ℕ → answer.Option ℤ
number_of most s = parsed_number (integer_of most s)

unfoldable pub word_in : Option ℕ → answer.Option ℕ
word_in (some n) = answer.Some n
word_in none = answer.None

-- a word of exactly four hexadecimal digits
unfoldable pub parsed_word : List ℕ → answer.Option ℕ
parsed_word s = word_in (word_of s)
