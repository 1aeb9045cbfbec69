-- Laws of numbers that are read: which 64 bits hold, and what an answer says of the digits.
use Rattle.std.specs.Prelude.{◌≡◌, refl, Bool, true, false, cond, List, [], ◌∷◌, ℕ, ◌+◌, ◌*◌, ◌^◌, ◌≤◌, ◌<◌, ltb, ℤ, nat_abs}
use Rattle.std.specs.Prelude.{length}
use Rattle.std.specs.Prelude.{Some, None}
use Rattle.std.proofs.Math.Option.{Option, some, none}
use Rattle.std.proofs.Common.{mul_comm, mul-le-mul_right, arith, lt-ltb, le-ltb}
use Rattle.integers.specs.Choice.{by_cases}
use Rattle.numerals.specs.Numerals.{digits, decimal, hexadecimal_word, digit_value, read_on, digits_of, with_sign, integer_of}
use Rattle.numerals.specs.Parsed.{within64, natural_of, parsed_number, number_of, word_in, parsed_word}
use Rattle.numerals.specs.Reading.{read_most}
use Rattle.numerals.specs.Shortest.{natural_some, digits_shortest, decimal_shortest, word_shortest}

-- ---- 64 bits

pub fits : (v : ℕ) → v < 2 ^ 64 → within64 (some v) ≡ Some v
unfolding within64
fits v h = simp (lt-ltb v (2 ^ 64) h)

-- digits of more than 64 bits stay so, whatever follows
pub too_large : (b v : ℕ) (ds : List ℕ) → 1 < b → 2 ^ 64 ≤ v → within64 (read_on b v ds) ≡ None
unfolding within64 read_on
too_large b v [] base h = simp (le-ltb v (2 ^ 64) h)
too_large b v (d ∷ ds) base h =
    let m : 1 * v ≤ b * v = mul-le-mul_right v (omega arith) in
    by_cases (λ (r : Option ℕ). within64 r ≡ None) (ltb (digit_value d) b) (read_on b (v * b + digit_value d) ds) none
    (λ e. too_large b (v * b + digit_value d) ds base (omega (arith, mul_comm b v))) (λ e. refl)

-- ---- what an answer says of the digits

pub told : (o : Option ℕ) (n : ℕ) → within64 o ≡ Some n → o ≡ some n
unfolding within64
told none n e = let z : ◌≡◌ {A = ℕ} 0 1 = cc in absurd (omega arith)
told (some m) n e = go (ltb m (2 ^ 64)) e
  where
    go : (t : Bool) → cond t (Some m) None ≡ Some n → some m ≡ some n
    go true f = cc
    go false f = let z : ◌≡◌ {A = ℕ} 0 1 = cc in absurd (omega arith)

pub untold : (o : Option ℕ) → ((n : ℕ) → o ≡ some n → n < 2 ^ 64) → within64 o ≡ None → o ≡ none
unfolding within64
untold none h e = refl
untold (some m) h e =
    let f = rw (lt-ltb m (2 ^ 64) (h m refl)) at e in
    let z : ◌≡◌ {A = ℕ} 0 1 = cc in
    absurd (omega arith)

-- eighteen digits fit
pub few_digits : (most n : ℕ) (s : List ℕ) → most ≤ 18 → digits_of 10 most s ≡ some n → n < 10 ^ 18
few_digits most n s h e =
    let r = natural_some most n s e in
    read_most 10 18 n s (omega arith) (omega arith) (omega (arith, r.1)) r.2

-- what is empty is no number
pub empty_read : (most : ℕ) (s : List ℕ) → length s ≡ 0 → None ≡ number_of most s
unfolding number_of parsed_number integer_of with_sign digits_of
empty_read most [] h = refl
empty_read most (x ∷ xs) h = absurd (omega arith)

-- ---- what is written is read

pub natural_read : (n : ℕ) → n < 2 ^ 64 → natural_of (digits n) ≡ Some n
unfolding natural_of
natural_read n h = rw (digits_shortest 20 n (omega arith) (omega arith)).reads (fits n h)

pub decimal_read : (most : ℕ) (z : ℤ) → nat_abs z < 10 ^ most → 0 < most → number_of most (decimal z) ≡ Some z
unfolding number_of parsed_number
decimal_read most z h p = rw (decimal_shortest most z h p).reads

pub word_read : (n : ℕ) → n < 65536 → parsed_word (hexadecimal_word n) ≡ Some n
unfolding parsed_word word_in
word_read n h = rw (word_shortest n h).reads
