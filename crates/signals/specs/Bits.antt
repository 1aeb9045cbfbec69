-- Bits of words and bytes.
use Rattle.std.specs.Prelude.{Bool, ℕ, ◌/◌, ◌%◌, ◌^◌, eqb}

-- "bit 0 is the lowest"
abbrev pub bit : ℕ → ℕ → Bool
bit word number = eqb (word / 2 ^ number % 2) 1
