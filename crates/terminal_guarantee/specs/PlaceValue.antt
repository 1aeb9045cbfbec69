-- Numbers in digits by place value: what digits are, told apart from how the rules write and read them.
use Rattle.std.specs.Prelude.{List, [], ◌∷◌, ℕ, ◌+◌, ◌*◌, ◌^◌, ◌<◌, length}

-- a byte and its value as a digit: 48 is `0`, 65 is `A`
pub data Digit : ℕ → ℕ → Type 0 where
  numeral : {d : ℕ} → d < 10 → Digit (48 + d) d
  capital : {d : ℕ} → d < 6 → Digit (65 + d) (10 + d)

-- bytes and the number that they are in a base: each digit counts by how many are behind it
pub data Number (base : ℕ) : List ℕ → ℕ → Type 0 where
  no_digit : Number base [] 0
  digit : {c d v : ℕ} {cs : List ℕ} → Digit c d → d < base → Number base cs v → Number base (c ∷ cs) (d * base ^ length cs + v)
