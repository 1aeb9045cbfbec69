-- The numbers of a line from a position on, as a call's arguments: at most six.
use Rattle.std.specs.Prelude.{◌&&◌, ◌||◌, cond, List, [], ◌∷◌, ◌++◌, ℕ, zero, suc, ◌-◌, eqb, ltb, ℤ, pos, neg_ℤ, nat_abs}
use Rattle.std.specs.Prelude.{length, take, drop, get_or, replicate, Option, Some, None, Result, Ok, Err}
use Rattle.std.specs.Int.Signed.{le_z}
use Rattle.integers.specs.Sign.{is_negative}
use Rattle.numerals.specs.Parsed.{number_of}
use Rattle.text.specs.Words.{word_at}

-- the bytes of a line from a position up to another
abbrev pub part : List ℕ → ℕ → ℕ → List ℕ
part line from to = take (to - from) (drop from line)

-- the words of a line from a position on, as many as there are, but at most so many
unfoldable pub first_words : ℕ → List ℕ → ℕ → List (List ℕ)
first_words zero line at = []
first_words (suc most) line at =
    let w = word_at line at in
    cond (eqb w.from w.to) [] (part line w.from w.to ∷ first_words most line w.to)

-- a number in front of others; what is no number ends them
unfoldable pub in_front : Option ℤ → List ℤ → List ℤ
in_front (Some value) others = value ∷ others
in_front None others = []

-- the numbers of up to eighteen digits that words are, up to the first word that is none
unfoldable pub numbers_of : List (List ℕ) → List ℤ
numbers_of [] = []
numbers_of (w ∷ ws) = in_front (number_of 18 w) (numbers_of ws)

-- numbers, read of so many words: each word must be one
unfoldable pub read_of : List ℤ → ℕ → Option (List ℤ)
read_of numbers words = cond (eqb (length numbers) words) (Some numbers) None

-- A seventh word is looked for, so that more than six are told from six.
unfoldable pub arguments_from : List ℕ → ℕ → Option (List ℤ)
arguments_from line at =
    let words = first_words 7 line at in
    read_of (numbers_of (take 6 words)) (length words)

-- the numbers in front of the first word that is none, and no more than six
unfoldable pub numbers_from : List ℕ → ℕ → List ℤ
numbers_from line at = numbers_of (take 6 (first_words 7 line at))

-- six values: the numbers, and zeros behind them
unfoldable pub padded : List ℤ → List ℤ
padded numbers = numbers ++ replicate (6 - length numbers) (pos 0)

-- what an answer holds, on a refusal too
abbrev pub held : {A : Type 0} → Result A A → A
held (Ok a) = a
held (Err a) = a

-- an argument, counted from 0
abbrev pub argument : List ℤ → ℕ → ℤ
argument values i = get_or values i (pos 0)

-- what follows of a value, where there is one
abbrev pub given : {A B : Type 0} → Option A → (A → Option B) → Option B
given None f = None
given (Some a) f = f a

-- an integer as a natural number from least to most
unfoldable pub natural_in : ℤ → ℕ → ℕ → Option ℕ
natural_in value least most =
    cond (is_negative value || (ltb (nat_abs value) least || ltb most (nat_abs value))) None (Some (nat_abs value))

-- an integer of 32 bits
unfoldable pub integer_in : ℤ → Option ℤ
integer_in value = cond (le_z (neg_ℤ (pos 2147483648)) value && le_z value (pos 2147483647)) (Some value) None
