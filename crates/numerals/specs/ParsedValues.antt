-- What an answer of the functions that read numbers says of the bytes, and how great an integer can be.
use Rattle.std.specs.Prelude.{◌≡◌, refl, Bool, true, false, List, ℕ, ◌^◌, ◌<◌, ℤ, nat_abs, drop}
use Rattle.std.specs.Prelude.{Some, None}
use Rattle.std.proofs.Math.Option.{Option, some, none}
use Rattle.std.proofs.Common.{arith}
use Rattle.integers.specs.Sign.{from_sign, nat_abs-from_sign}
use Rattle.numerals.specs.Numerals.{digits_of, integer_of}
use Rattle.numerals.specs.Parsed.{parsed_number, word_in}
use Rattle.numerals.specs.Reading.{read_most}
use Rattle.numerals.specs.Shortest.{natural_some, integer_some}

pub number_told : (o : Option ℤ) (z : ℤ) → parsed_number o ≡ Some z → o ≡ some z
unfolding parsed_number
number_told none z e = let w : ◌≡◌ {A = ℕ} 0 1 = cc in absurd (omega arith)
number_told (some v) z e = cc

pub number_untold : (o : Option ℤ) → parsed_number o ≡ None → o ≡ none
unfolding parsed_number
number_untold none e = refl
number_untold (some v) e = let w : ◌≡◌ {A = ℕ} 0 1 = cc in absurd (omega arith)

pub word_told : (o : Option ℕ) (n : ℕ) → word_in o ≡ Some n → o ≡ some n
unfolding word_in
word_told none n e = let w : ◌≡◌ {A = ℕ} 0 1 = cc in absurd (omega arith)
word_told (some m) n e = cc

pub word_untold : (o : Option ℕ) → word_in o ≡ None → o ≡ none
unfolding word_in
word_untold none e = refl
word_untold (some m) e = let w : ◌≡◌ {A = ℕ} 0 1 = cc in absurd (omega arith)

-- ---- an integer of at most so many digits

pub integer_most : (most : ℕ) (s : List ℕ) (z : ℤ) → integer_of most s ≡ some z → nat_abs z < 10 ^ most
integer_most most s z e =
    let few : (minus : Bool) (ds : List ℕ) (m : ℕ) → digits_of 10 most ds ≡ some m → from_sign minus m ≡ z → nat_abs z < 10 ^ most =
    λ minus ds m f is.
    let r = natural_some most m ds f in
    rw (← is, nat_abs-from_sign minus m) (read_most 10 most m ds (omega arith) (omega arith) r.1 r.2) in
    integer_some most s z e (λ m sign f is. few true (drop 1 s) m f is) (λ m f is. few false s m f is)
