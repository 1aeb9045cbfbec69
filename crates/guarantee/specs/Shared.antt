-- Words that the claim borrows from the rules, and what each of them means, told once for all crates of the claim and
-- apart from the definitions: a choice, a bit of a word, a limited value, the arithmetic of fractions, and what stands
-- for an answer that the code gives. What is borrowed besides is told where it is used; docs/DECISIONS.md lists it.
use Rattle.std.specs.Prelude.{◌≡◌, true, false, List, [], ◌∷◌, ℕ, ◌*◌, ◌/◌, ◌%◌, ◌<◌, eqb, ℤ, pos, ◌+ℤ◌, ◌*ℤ◌, get_or, ◌≤ℤ◌, ◌<ℤ◌}
use Rattle.std.specs.Prelude.{if◌then◌else◌, Ok}
use Rattle.std.proofs.Math.Option.{some, none}
use Rattle.integers.specs.Limit as value
use Rattle.signals.specs.Bits.{bit}
use Rattle.terms.specs.Fraction.{Fraction, whole, plus, limited}
use Rattle.answers.specs.declared.ScanValues.{ScanValues}
use Rattle.controller.specs.Answers.{words, reading, acceptance, number, reply_of, reply_of_verdict, reply_of_read, reply_by}
use Rattle.controller.specs.Answers.{response_of, response_of_verdict}
use Rattle.controller.specs.declared.CallResult.{CallResult}
use Rattle.controller.specs.declared.ScanResult.{ScanResult}

-- ---- a choice by a test

abbrev pub Choices : Type 1
Choices = (A : Type 0) (x y : A) → ((if true then x else y) ≡ x) × ((if false then x else y) ≡ y)

-- ---- a bit of a word of 16 bits: "bit 0 is the lowest"

-- what bits 0 to 15 count for
abbrev pub weights : List ℕ
weights = 1 ∷ 2 ∷ 4 ∷ 8 ∷ 16 ∷ 32 ∷ 64 ∷ 128 ∷ 256 ∷ 512 ∷ 1024 ∷ 2048 ∷ 4096 ∷ 8192 ∷ 16384 ∷ 32768 ∷ []

-- a bit is 1 where the word, divided by what the bit counts for, is odd
abbrev pub Bits : Type 0
Bits = (word number : ℕ) → number < 16 → bit word number ≡ eqb (word / get_or weights number 0 % 2) 1

-- ---- a value limited to limits in order

pub record Limited (low high x : ℤ) : Type 0 where
  pub below : x <ℤ low → value.limited low high x ≡ low
  pub above : high <ℤ x → value.limited low high x ≡ high
  pub within : low ≤ℤ x → x ≤ℤ high → value.limited low high x ≡ x

abbrev pub LimitedValues : Type 0
LimitedValues = (low high x : ℤ) → low ≤ℤ high → Limited low high x

-- ---- fractions

-- f is the number n / d: f's denominator lies above zero, and multiplied crosswise the two are equal
pub record Is (f : Fraction) (n : ℤ) (d : ℕ) : Type 0 where
  pub positive : 0 < f.denominator
  pub crosswise : (f.numerator *ℤ pos d) ≡ (n *ℤ pos f.denominator)

-- so many whole units
abbrev pub Wholes : Type 0
Wholes = (units : ℤ) → Is (whole units) units 1

-- a / b + c / d is (a × d + c × b) / (b × d)
abbrev pub Sums : Type 0
Sums =
    (f g : Fraction) → 0 < f.denominator → 0 < g.denominator →
    Is (plus f g) (f.numerator *ℤ pos g.denominator +ℤ g.numerator *ℤ pos f.denominator) (f.denominator * g.denominator)

-- a fraction limited to whole units in order: one below `low` is `low`, one above `high` is `high`, any other is kept
pub record LimitedFraction (low high : ℤ) (f : Fraction) : Type 0 where
  pub below : f.numerator <ℤ (low *ℤ pos f.denominator) → Is (limited low high f) low 1
  pub above : (high *ℤ pos f.denominator) <ℤ f.numerator → Is (limited low high f) high 1
  pub within : (low *ℤ pos f.denominator) ≤ℤ f.numerator → f.numerator ≤ℤ (high *ℤ pos f.denominator) → limited low high f ≡ f

abbrev pub LimitedFractions : Type 0
LimitedFractions = (low high : ℤ) (f : Fraction) → low ≤ℤ high → 0 < f.denominator → LimitedFraction low high f

-- ---- what stands for an answer of the code; of a refusal `RefusalNumbers` tells it (promises)

pub record AcceptedAnswers : Type 0 where
  pub scans : (v : ScanValues) → reply_of (Ok v) ≡ words v.md v.ds v.op v.electrical v.mode v.pv
  pub reads : (v : ℤ) → reply_of_read (Ok v) ≡ reading v
  pub others : reply_of_verdict (Ok tt) ≡ acceptance
  -- by a number, or none
  pub numbered : (n : ℕ) → (reply_by (some n) ≡ number n) × (reply_by none ≡ acceptance)
  -- and with the controller that is returned
  pub scanned : (r : ScanResult) → response_of r ≡ record { next = r.controller; answer = reply_of r.answer }
  pub called : (r : CallResult) → response_of_verdict r ≡ record { next = r.controller; answer = reply_of_verdict r.verdict }

pub record SharedWords : Type 1 where
  pub choices : Choices
  pub bits : Bits
  pub limited_values : LimitedValues
  pub wholes : Wholes
  pub sums : Sums
  pub limited_fractions : LimitedFractions
  pub accepted_answers : AcceptedAnswers
