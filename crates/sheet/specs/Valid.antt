-- Which values are those of a sheet: those that some list of answers gives, of any values that an answer's types hold.
-- A host keeps sheets over a power cut, and what it brings back is tested by this. Nothing that is valid can pass its
-- type when one more answer is entered.
use Rattle.std.specs.Prelude.{Option, None, Some, Ok, Err, sum}
use Rattle.std.specs.Prelude.{◌≡◌, Bool, true, false, not, ◌&&◌, ◌||◌, ℕ, ◌-◌, ◌*◌, eqb, leb, ltb, ℤ, pos, neg_ℤ, ◌+ℤ◌}
use Rattle.std.specs.Prelude.{◌-ℤ◌, ◌*ℤ◌, length, if◌then◌else◌}
use Rattle.std.specs.Int.Signed.{le_z, lt_z}
use Rattle.sheet.specs.Sheet.{empty_sheet}
use Rattle.sheet.specs.declared.Bound.{Bound}
use Rattle.sheet.specs.declared.Bound.TheVariants.{Greatest, Least}
use Rattle.sheet.specs.declared.KeptResult.{KeptResult}
use Rattle.sheet.specs.declared.Occurrence.{Occurrence}
use Rattle.sheet.specs.declared.Sheet.{Sheet}
use Rattle.sheet.specs.declared.SheetValues.{SheetValues}

-- ---- PV

-- the number of a scan of the sheet, and a PV, which has 32 bits
unfoldable pub is_occurrence : ℕ → Occurrence → Bool
is_occurrence scans first =
    leb 1 first.number && leb first.number scans &&
    le_z (neg_ℤ (pos 2147483648)) first.pv && le_z first.pv (pos 2147483647)

-- Where the least PV lies below the greatest, each came first at a number of its own, and the first scan of all is one
-- of the two, or had a PV between them. Otherwise all are equal, and both came first at number 1
unfoldable pub in_order : Occurrence → Occurrence → Bool
in_order greatest least =
    if lt_z least.pv greatest.pv then
    not (eqb greatest.number least.number) &&
    ((eqb greatest.number 1 || eqb least.number 1) || lt_z (least.pv +ℤ pos 1) greatest.pv)
    else (le_z least.pv greatest.pv && eqb greatest.number 1 && eqb least.number 1)

-- how many scans stand before number `here`, the one at `other` left out
unfoldable pub scans_before : ℕ → ℕ → ℕ
scans_before here other = if ltb other here then here - 2 else here - 1

-- The greatest sum: all scans have the greatest PV but for one that has the least; and those before the first of the
-- greatest PV are below it, by 1. The least sum likewise
unfoldable pub sum_bound : Bound → ℕ → Occurrence → Occurrence → ℤ
sum_bound Greatest scans here other =
    (here.pv *ℤ pos (scans - 1)) +ℤ other.pv -ℤ pos (scans_before here.number other.number)
sum_bound Least scans here other =
    (here.pv *ℤ pos (scans - 1)) +ℤ other.pv +ℤ pos (scans_before here.number other.number)

unfoldable pub is_possible : ℕ → Occurrence → Occurrence → ℤ → Bool
is_possible scans greatest least sum =
    is_occurrence scans greatest && is_occurrence scans least && in_order greatest least &&
    (le_z (sum_bound Least scans least greatest) sum && le_z sum (sum_bound Greatest scans greatest least))

-- "none on an empty sheet"
abbrev pub are_extremes : ℕ → Option Occurrence → Option Occurrence → ℤ → Bool
are_extremes scans None None sum = eqb scans 0 && le_z (pos 0) sum && le_z sum (pos 0)
are_extremes scans None (Some least) sum = false
are_extremes scans (Some greatest) None sum = false
are_extremes scans (Some greatest) (Some least) sum = is_possible scans greatest least sum

-- ---- the other values

-- an answer's OP has 16 bits
abbrev pub is_sum_op : ℕ → ℤ → Bool
is_sum_op scans sum = le_z (pos 0) sum && le_z sum (pos (65535 * scans))

unfoldable pub is_valid : SheetValues → Bool
is_valid v =
    leb v.scans 4294967295 && eqb (length v.modes) 8 && eqb (sum v.modes) v.scans && leb v.alarms v.scans &&
    are_extremes v.scans v.greatest v.least v.sumpv && is_sum_op v.scans v.sumop

pub record Valid (s : Sheet) : Type 0 where
  pub tested : is_valid s.values ≡ true

-- what isn't valid is refused, and an empty sheet stands in its place
unfoldable pub kept_sheet : SheetValues → KeptResult
kept_sheet v =
    if is_valid v then record { sheet = record { values = v }; verdict = Ok tt } else
    record { sheet = empty_sheet; verdict = Err (record {}) }
