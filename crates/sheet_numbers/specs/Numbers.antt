-- The sixteen numbers of a kept sheet, and the values that they stand for: each within the range of its type.
use Rattle.std.specs.Prelude.{◌&&◌, List, [], ◌∷◌, ℕ, eqb, leb, ltb, ℤ, pos, negsuc, neg_ℤ, get_or, set, replicate, if◌then◌else◌}
use Rattle.std.specs.Prelude.{Option, None, Some}
use Rattle.std.specs.Option.{unwrap_or}
use Rattle.std.specs.Int.Signed.{le_z}
use Rattle.sheet.specs.declared.Occurrence.{Occurrence}
use Rattle.sheet.specs.declared.SheetValues.{SheetValues}

-- before any is set
abbrev pub no_numbers : List ℤ
no_numbers = replicate 16 (pos 0)

-- with one of them set; a place beyond sets none
unfoldable pub with_number : List ℤ → ℕ → ℤ → List ℤ
with_number numbers place value = if ltb place 16 then set numbers place value else numbers

abbrev pub number_at : List ℤ → ℕ → ℤ
number_at numbers place = get_or numbers place (pos 0)

-- 32 bits, never below zero
unfoldable pub count_in : ℤ → Option ℕ
count_in (pos n) = if leb n 4294967295 then Some n else None
count_in (negsuc n) = None

-- 32 bits with the sign
unfoldable pub pv_in : ℤ → Option ℤ
pv_in z = if le_z (neg_ℤ (pos 2147483648)) z && le_z z (pos 2147483647) then Some z else None

-- what is made of a number that is in its range
abbrev pub given : {A B : Type 0} → Option A → (A → Option B) → Option B
given None f = None
given (Some x) f = f x

-- a PV and the number of its scan; 0 there means none, whatever the PV is
unfoldable pub extreme_in : (pv number : ℤ) → Option (Option Occurrence)
extreme_in pv number =
    given (count_in number) (λ n.
    if eqb n 0 then Some None else
    given (pv_in pv) (λ v. Some (Some (record { pv = v; number = n }))))

-- places 1 to 8: how many scans in each mode, in the priority order
unfoldable pub counts_in : List ℤ → Option (List ℕ)
counts_in numbers =
    given (count_in (number_at numbers 1)) (λ hold.
    given (count_in (number_at numbers 2)) (λ track.
    given (count_in (number_at numbers 3)) (λ forced.
    given (count_in (number_at numbers 4)) (λ manual.
    given (count_in (number_at numbers 5)) (λ auto.
    given (count_in (number_at numbers 6)) (λ remote.
    given (count_in (number_at numbers 7)) (λ ratio.
    given (count_in (number_at numbers 8)) (λ fallback.
    Some (hold ∷ track ∷ forced ∷ manual ∷ auto ∷ remote ∷ ratio ∷ fallback ∷ [])))))))))

-- place 0: how many scans; 9 and 10: the greatest PV and the number of its scan; 11 and 12: those of the least PV; 13:
-- how many scans with an alarm; 14 and 15: the sums of PV and of OP
unfoldable pub values_in : List ℤ → Option SheetValues
values_in numbers =
    given (count_in (number_at numbers 0)) (λ scans.
    given (counts_in numbers) (λ modes.
    given (extreme_in (number_at numbers 9) (number_at numbers 10)) (λ greatest.
    given (extreme_in (number_at numbers 11) (number_at numbers 12)) (λ least.
    given (count_in (number_at numbers 13)) (λ alarms.
    Some (record {
      scans = scans;
      modes = modes;
      greatest = greatest;
      least = least;
      alarms = alarms;
      sumpv = number_at numbers 14;
      sumop = number_at numbers 15;
    }))))))

-- ---- where one is out of its range: the values of the others

-- 0 for a number out of its range
unfoldable pub count_or_zero : ℤ → ℕ
count_or_zero number = unwrap_or (count_in number) 0

-- none where the number of the scan is 0 or out of its range; a PV out of its range is 0
unfoldable pub extreme_or_none : (pv number : ℤ) → Option Occurrence
extreme_or_none pv number =
    if eqb (count_or_zero number) 0 then None else
    Some (record { pv = unwrap_or (pv_in pv) (pos 0); number = count_or_zero number })

-- each of its place, as `values_in` has them
unfoldable pub values_or_zero : List ℤ → SheetValues
values_or_zero numbers =
    record {
      scans = count_or_zero (number_at numbers 0);
      modes =
          count_or_zero (number_at numbers 1) ∷ count_or_zero (number_at numbers 2) ∷ count_or_zero (number_at numbers 3)
          ∷ count_or_zero (number_at numbers 4) ∷ count_or_zero (number_at numbers 5) ∷ count_or_zero (number_at numbers 6)
          ∷ count_or_zero (number_at numbers 7) ∷ count_or_zero (number_at numbers 8) ∷ [];
      greatest = extreme_or_none (number_at numbers 9) (number_at numbers 10);
      least = extreme_or_none (number_at numbers 11) (number_at numbers 12);
      alarms = count_or_zero (number_at numbers 13);
      sumpv = number_at numbers 14;
      sumop = number_at numbers 15;
    }
