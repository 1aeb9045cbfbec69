-- A text that was appended to an output buffer.
use Rattle.std.specs.Prelude.{List, ◌++◌, ◌≡◌, ℕ, ◌+◌, ◌≤◌, ◌<◌, ℤ, length}
use Rattle.std.proofs.Common.{arith, length-append}
use Rattle.std.specs.Int.Signed.{mag}
use Rattle.integers.specs.Operations.{known}
use Rattle.integers.specs.Parts.{apart}
use Rattle.numerals.specs.Numerals.{digits, decimal}
use Rattle.numerals.specs.Shortest.{digits_few, decimal_few}
use Rattle.formatting.specs.Buffer.{Buffer, append_all}
use Rattle.formatting.specs.Laws.{then}

-- The text stands behind the bytes used, cut where the buffer ends; it has at most so many bytes.
pub record TextAppended (before after : Buffer) (text : List ℕ) (most : ℕ) : Type 0 where
  pub bytes : after ≡ append_all before text
  pub short : length text ≤ most

pub text_of : {before after : Buffer} {text : List ℕ} (most : ℕ) → after ≡ append_all before text → length text ≤ most
    → TextAppended before after text most
text_of most e h = record { bytes = e; short = h }

-- the same text, otherwise described
pub text_is : {before after : Buffer} {xs ys : List ℕ} {most : ℕ} → TextAppended before after xs most → xs ≡ ys
    → TextAppended before after ys most
text_is a e = rw (← e) a

pub text_most : {before after : Buffer} {text : List ℕ} {m n : ℕ} → TextAppended before after text m → m ≤ n
    → TextAppended before after text n
text_most a h = record { bytes = a.bytes; short = omega (arith, a.short) }

-- one text behind another
pub text_then : {before between after : Buffer} {xs ys : List ℕ} {m n : ℕ} → TextAppended before between xs m
    → TextAppended between after ys n → TextAppended before after (xs ++ ys) (m + n)
text_then {before} {xs = xs} {ys = ys} a b =
    record {
      bytes = then before xs ys a.bytes b.bytes;
      short = simp length-append (omega (arith, a.short, b.short));
    }

-- ---- numbers

pub number_length : (n : ℕ) → n < 4294967296 → length (digits n) ≤ 10
number_length n h = digits_few n 10 (omega arith) (omega arith)

pub pv_length : (z : ℤ) → mag z < 2147483648 → length (decimal z) ≤ 11
pv_length z h = decimal_few 10 z (omega (arith, known z)) (omega arith)

pub sum_length : (z : ℤ) → mag z < 9223372036854775808 → length (decimal z) ≤ 20
sum_length z h = decimal_few 19 z (omega (arith, known z, apart z)) (omega arith)
