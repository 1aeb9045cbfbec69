-- The text of a sheet in a line.
use Rattle.std.specs.Prelude.{List, [], ◌∷◌, ◌++◌, ◌≡◌, refl, ℕ, ℤ, pos, negsuc, Option, None, Some}
use Rattle.modes.specs.declared.Mode.{Mode}
use Rattle.modes.specs.declared.Mode.TheVariants.{Hold, Track, Forced, Manual, Auto, Remote, Ratio, Fallback}
use Rattle.sheet.specs.Sheet.{scans_in}
use Rattle.sheet.specs.declared.Occurrence.{Occurrence}
use Rattle.sheet.specs.declared.SheetValues.{SheetValues}
use Rattle.numerals.specs.Numerals.{digit_byte, last_digits, places_within, places, digits, decimal}
use Rattle.formatting.specs.Ascii.{ascii}
use Rattle.sheet_lines.specs.ModeWords.{mode_word}

-- a blank, a name and an equals sign
unfoldable pub named : List ℕ → List ℕ
named name = ascii " " ++ name ++ ascii "="

unfoldable pub number_text : List ℕ → ℕ → List ℕ
number_text name n = named name ++ digits n

unfoldable pub sum_text : List ℕ → ℤ → List ℕ
sum_text name z = named name ++ decimal z

-- ---- "how many scans in each of the eight modes"

unfoldable pub count_text : SheetValues → Mode → List ℕ
count_text v m = number_text (mode_word m) (scans_in v m)

unfoldable pub counts_text : SheetValues → List ℕ
counts_text v =
    count_text v Hold ++ count_text v Track ++ count_text v Forced ++ count_text v Manual ++ count_text v Auto ++ count_text v Remote ++
    count_text v Ratio ++ count_text v Fallback

-- ---- "the greatest and least PV with the number of the scan where each came first (none on an empty sheet)"

unfoldable pub occurrence_text : Occurrence → List ℕ
occurrence_text first = decimal first.pv ++ ascii "@" ++ digits first.number

unfoldable pub extreme_text : List ℕ → Option Occurrence → List ℕ
extreme_text name None = named name ++ ascii "none"
extreme_text name (Some first) = named name ++ occurrence_text first

unfoldable pub extremes_text : SheetValues → List ℕ
extremes_text v = extreme_text (ascii "max") v.greatest ++ extreme_text (ascii "min") v.least

-- ---- all of it

unfoldable pub sheet_text : SheetValues → List ℕ
sheet_text v =
    ascii "sheet" ++ number_text (ascii "scans") v.scans ++ counts_text v ++ extremes_text v ++ number_text (ascii "alarms") v.alarms ++
    sum_text (ascii "sumpv") v.sumpv ++ sum_text (ascii "sumop") v.sumop

-- two scans in Manual and one in Fall-back
sheet_example :
    sheet_text (record {
      scans = 3;
      modes = 0 ∷ 0 ∷ 0 ∷ 2 ∷ 0 ∷ 0 ∷ 0 ∷ 1 ∷ [];
      greatest = Some (record { pv = pos 5; number = 1 });
      least = Some (record { pv = negsuc 19; number = 2 });
      alarms = 1;
      sumpv = negsuc 9;
      sumop = pos 700;
    })
    ≡ ascii "sheet scans=3 hold=0 track=0 forced=0 manual=2 auto=0 remote=0 ratio=0 fallback=1" ++
    ascii " max=5@1 min=-20@2 alarms=1 sumpv=-10 sumop=700"
unfolding sheet_text counts_text count_text scans_in extremes_text extreme_text occurrence_text number_text sum_text named
    mode_word digit_byte last_digits places_within places digits decimal
sheet_example = refl
