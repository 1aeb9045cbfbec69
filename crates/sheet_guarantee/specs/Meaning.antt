-- Document 02, request 1: what a list of answers gives, told of the list alone, apart from the step by which a sheet
-- gets there. Shared with the step are the types, and the bits of a word.
use Rattle.std.specs.Prelude.{Option, None, Some}
use Rattle.std.specs.Prelude.{◌≡◌, Bool, not, ◌&&◌, ℕ, ◌+◌, ◌≤◌, eqb, ℤ, pos, ◌+ℤ◌, length, get_or, ◌≤ℤ◌, if◌then◌else◌}
use Rattle.signals.specs.Bits.{bit}
use Rattle.modes.specs.declared.Mode.{Mode}
use Rattle.modes.specs.declared.Mode.TheVariants.{Hold, Track, Forced, Manual, Auto, Remote, Ratio, Fallback}
use Rattle.answers.specs.declared.ScanValues.{ScanValues}
use Rattle.sheet.specs.declared.Bound.{Bound}
use Rattle.sheet.specs.declared.Bound.TheVariants.{Greatest, Least}
use Rattle.sheet.specs.declared.Occurrence.{Occurrence}
use Rattle.sheet.specs.declared.SheetValues.{SheetValues}

-- "one accepted scan's answer after another": the latest stands last
infixl 20 ◌then◌
pub data Answers : Type 0 where
  none : Answers
  ◌then◌ : Answers → ScanValues → Answers

-- how many there are
abbrev pub many : Answers → ℕ
many none = 0
many (xs then a) = many xs + 1

-- "numbered from 1": the answer with a number
pub data Numbered : Answers → ℕ → ScanValues → Type 0 where
  latest : {xs : Answers} {a : ScanValues} → Numbered (xs then a) (many xs + 1) a
  earlier : {xs : Answers} {a b : ScanValues} {n : ℕ} → Numbered xs n b → Numbered (xs then a) n b

-- how many of them pass a test
abbrev pub how_many : (ScanValues → Bool) → Answers → ℕ
how_many test none = 0
how_many test (xs then a) = if test a then how_many test xs + 1 else how_many test xs

-- "each of the eight modes", told apart by their places in the priority order
abbrev pub rank : Mode → ℕ
rank Hold = 0
rank Track = 1
rank Forced = 2
rank Manual = 3
rank Auto = 4
rank Remote = 5
rank Ratio = 6
rank Fallback = 7

abbrev pub is_in : Mode → ScanValues → Bool
is_in m a = eqb (rank a.mode) (rank m)

-- "scans with either alarm or both": document 01's DS has bit 1 zero for the low alarm, bit 0 for the high one, so
-- there is none where both are set
abbrev pub is_alarmed : ScanValues → Bool
is_alarmed a = not (bit a.ds 1 && bit a.ds 0)

-- "the sum of PV and of OP"
abbrev pub sum_pv : Answers → ℤ
sum_pv none = pos 0
sum_pv (xs then a) = sum_pv xs +ℤ a.pv

abbrev pub sum_op : Answers → ℕ
sum_op none = 0
sum_op (xs then a) = sum_op xs + a.op

-- "the greatest and least PV": no PV of the list lies beyond it
abbrev pub NotBeyond : Bound → ℤ → ℤ → Type 0
NotBeyond Greatest pv extreme = pv ≤ℤ extreme
NotBeyond Least pv extreme = extreme ≤ℤ pv

-- "with the number of the scan where each came first": it stands at its number, and nowhere before
pub record IsFirst (b : Bound) (xs : Answers) (first : Occurrence) : Type 0 where
  pub answer : ScanValues
  pub stands : Numbered xs first.number answer
  pub its_pv : answer.pv ≡ first.pv
  pub not_beyond : (n : ℕ) (a : ScanValues) → Numbered xs n a → NotBeyond b a.pv first.pv
  pub not_before : (n : ℕ) (a : ScanValues) → Numbered xs n a → a.pv ≡ first.pv → first.number ≤ n

-- "(none on an empty sheet)"
pub data IsExtreme (b : Bound) : Answers → Option Occurrence → Type 0 where
  of_none : IsExtreme b none None
  of_some : {xs : Answers} {first : Occurrence} → IsFirst b xs first → IsExtreme b xs (Some first)

-- "all it holds equals what the list of answers taken gives"
pub record Gives (xs : Answers) (v : SheetValues) : Type 0 where
  pub scans : v.scans ≡ many xs
  -- as many counts as there are modes, each at its mode's place
  pub size : length v.modes ≡ 8
  pub modes : (m : Mode) → get_or v.modes (rank m) 0 ≡ how_many (is_in m) xs
  pub greatest : IsExtreme Greatest xs v.greatest
  pub least : IsExtreme Least xs v.least
  pub alarms : v.alarms ≡ how_many is_alarmed xs
  pub sum_pv_is : v.sumpv ≡ sum_pv xs
  pub sum_op_is : v.sumop ≡ pos (sum_op xs)
