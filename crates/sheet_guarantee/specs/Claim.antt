-- Document 02, request 1: what is promised of a sheet over every list of answers, by what it hands out.
use Rattle.std.specs.Prelude.{Option, Ok, Err}
use Rattle.std.specs.Prelude.{◌≡◌, List, [], ◌∷◌, ℕ, ◌≤◌, eqb, ℤ, pos, neg_ℤ, ◌≤ℤ◌, if◌then◌else◌}
use Rattle.modes.specs.declared.Mode.{Mode}
use Rattle.answers.specs.declared.ScanValues.{ScanValues}
use Rattle.sheet.specs.declared.Bound.TheVariants.{Greatest, Least}
use Rattle.sheet.specs.declared.EnterResult.{EnterResult}
use Rattle.sheet.specs.declared.KeptResult.{KeptResult}
use Rattle.sheet.specs.declared.Occurrence.{Occurrence}
use Rattle.sheet.specs.declared.Sheet.{Sheet}
use Rattle.sheet.specs.declared.SheetValues.{SheetValues}
use Rattle.sheet.specs.declared.Mean.{Mean}
use Rattle.sheet_guarantee.specs.Linked as linked
use Rattle.sheet_guarantee.specs.Linked.{Entry, Linked, taken_of}
use Rattle.sheet_guarantee.specs.Meaning.{Answers, none, ◌then◌, many, how_many, is_in, is_alarmed, sum_pv, sum_op, IsExtreme, Gives}

-- "A sheet holds up to 4,294,967,295 scans; the next one leaves it as it was and says full.": an answer says full
-- exactly when so many were taken before it
pub data FullExactly : Answers → List Entry → Type 0 where
  no_entry : FullExactly none []
  and_entry : {xs : Answers} {es : List Entry} {a : ScanValues} {e : Entry} → FullExactly xs es →
      e ≡ (if eqb (many (taken_of xs es)) 4294967295 then Err (record {}) else Ok tt) → FullExactly (xs then a) (e ∷ es)

-- of a sheet in which these answers were entered
pub record Results (xs : Answers) (s : Sheet) : Type 0 where
  pub scans : (r : ℕ) → linked.ScansEnsures s r → r ≡ many xs
  pub in_mode_lem : (m : Mode) (r : ℕ) → linked.ScansInEnsures s m r → r ≡ how_many (is_in m) xs
  pub greatest : (r : Option Occurrence) → linked.GreatestEnsures s r → IsExtreme Greatest xs r
  pub least : (r : Option Occurrence) → linked.LeastEnsures s r → IsExtreme Least xs r
  pub with_alarm : (r : ℕ) → linked.AlarmEnsures s r → r ≡ how_many is_alarmed xs
  pub sum_pv_is : (r : ℤ) → linked.SumPVEnsures s r → r ≡ sum_pv xs
  pub sum_op_is : (r : ℤ) → linked.SumOPEnsures s r → r ≡ pos (sum_op xs)
  -- "Means are handed out as a sum and a count, never divided."
  pub mean_pv : (r : Mean) → linked.MeanPVEnsures s r → (r.sum ≡ sum_pv xs) × (r.count ≡ many xs)
  pub mean_op : (r : Mean) → linked.MeanOPEnsures s r → (r.sum ≡ pos (sum_op xs)) × (r.count ≡ many xs)
  -- all of it, for a host that keeps the sheet
  pub values : (r : SheetValues) → linked.ValuesEnsures s r → Gives xs r

pub record SheetClaim (xs : Answers) (es : List Entry) (s : Sheet) : Type 0 where
  -- "From an empty sheet on, all it holds equals what the list of answers taken gives."
  pub results : Results (taken_of xs es) s
  pub full_exactly : FullExactly xs es
  pub taken_most : many (taken_of xs es) ≤ 4294967295
  -- values that were kept of it give the same sheet again
  pub kept_again : (v : SheetValues) (r : KeptResult) → linked.ValuesEnsures s v → linked.KeptEnsures v r →
      r ≡ record { sheet = s; verdict = Ok tt }
  -- "the next one leaves it as it was"
  pub full_stays : (a : ScanValues) (r : EnterResult) → linked.EnterEnsures s a r → r.entry ≡ Err (record {}) → r.sheet ≡ s
  -- and neither the type nor a `requires` shuts a call out
  pub ready : linked.Ready s

-- after every list of answers
abbrev pub Always : Type 0
Always = (xs : Answers) (es : List Entry) (s : Sheet) → Linked xs es s → SheetClaim xs es s

-- ---- there is such a sheet for every list: what is said of lists is said of something

-- values that the types of an answer hold: OP has 16 bits, PV 32 with its sign
pub record InTypes (a : ScanValues) : Type 0 where
  pub op : a.op ≤ 65535
  pub pv_least : neg_ℤ (pos 2147483648) ≤ℤ a.pv
  pub pv_most : a.pv ≤ℤ pos 2147483647

abbrev pub AllInTypes : Answers → Type 0
AllInTypes none = Unit {0}
AllInTypes (xs then a) = AllInTypes xs × InTypes a

pub record Chain (xs : Answers) : Type 0 where
  pub entries : List Entry
  pub last : Sheet
  pub chain : Linked xs entries last

abbrev pub AlwaysLinked : Type 0
AlwaysLinked = (xs : Answers) → AllInTypes xs → Chain xs

-- ---- kept values are valid exactly if some list of answers gives them, and the sheet then holds these values. The
-- answers are any that their types hold: a sheet doesn't know which of these a controller can give

pub record Possible (v : SheetValues) : Type 0 where
  pub answers : Answers
  pub in_types : AllInTypes answers
  pub few : many answers ≤ 4294967295
  pub gives : Gives answers v

abbrev pub KeptExactly : Type 0
KeptExactly =
    (v : SheetValues) (r : KeptResult) → linked.KeptEnsures v r →
    (r.verdict ≡ Ok tt → Possible v × (r.sheet.values ≡ v)) ×
    (Possible v → r ≡ record { sheet = record { values = v }; verdict = Ok tt })
