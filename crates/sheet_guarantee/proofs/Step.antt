-- One more answer taken: the sheet holds what the longer list gives.
use Rattle.std.specs.Prelude.{Option, None, Some, if◌then◌else◌}
use mathlib.Core.Path.{◌≡◌, refl, sym, ap, subst, ◌∙◌}
use mathlib.Core.Bool.{Bool, true, false, not, ◌&&◌, ◌||◌}
use mathlib.Core.List.{List, [], ◌∷◌}
use Prim.Native.Nat.{ℕ, ◌+◌, ◌≤◌, ◌<◌}
use native.Mathlib.Omega.{arith}
use lib.Dec.{eqb}
use lib.IntN.{ℤ, pos, ◌+ℤ◌}
use lib.ListN.{length, get_or, set, length-set}
use lib.Seq.{get_or-set_same, get_or-set_other}
use borrow.Author.Tests.{eqb-true, eqb-false}
use Rattle.integers.specs.Choice.{by_cases}
use Rattle.integers.specs.Parts.{integers}
use Rattle.signals.specs.Bits.{bit}
use Rattle.modes.specs.declared.Mode.{Mode}
use Rattle.modes.specs.declared.Mode.TheVariants.{Hold, Track, Forced, Manual, Auto, Remote, Ratio, Fallback}
use Rattle.answers.specs.declared.ScanValues.{ScanValues}
use Rattle.sheet.specs.Sheet.{place_of, counted, is_beyond, extreme_after, has_alarm, alarms_after, empty_sheet, taken}
use Rattle.sheet.specs.TotalLaws.{place_few}
use Rattle.sheet.specs.declared.Bound.{Bound}
use Rattle.sheet.specs.declared.Bound.TheVariants.{Greatest, Least}
use Rattle.sheet.specs.declared.Occurrence.{Occurrence}
use Rattle.sheet.specs.declared.SheetValues.{SheetValues}
use Rattle.sheet_guarantee.specs.Meaning.{Answers, none, ◌then◌, many, Numbered, latest, earlier, rank, is_alarmed}
use Rattle.sheet_guarantee.specs.Meaning.{NotBeyond, IsFirst, IsExtreme, of_none, of_some, Gives}

-- ---- counts

pub place_is : (m : Mode) → place_of m ≡ rank m
place_is Hold = refl
place_is Track = refl
place_is Forced = refl
place_is Manual = refl
place_is Auto = refl
place_is Remote = refl
place_is Ratio = refl
place_is Fallback = refl

counted_at : (counts : List ℕ) (mode m : Mode) → length counts ≡ 8 →
    get_or (counted counts mode) (rank m) 0 ≡ (if eqb (rank mode) (rank m) then get_or counts (rank m) 0 + 1 else get_or counts (rank m) 0)
unfolding counted
counted_at counts mode m size =
    let k = rank mode in
    let few : rank mode < length counts = rw (sym (place_is mode)) (omega (arith, place_few mode)) in
    rw (place_is mode)
    (by_cases (λ (n : ℕ). get_or (set counts k (get_or counts k 0 + 1)) (rank m) 0 ≡ n) (eqb k (rank m)) _ _
    (λ e. subst (λ (n : ℕ). get_or (set counts k (get_or counts k 0 + 1)) n 0 ≡ get_or counts n 0 + 1) (eqb-true k (rank m) e)
    (get_or-set_same counts k _ 0 few))
    (λ e. get_or-set_other counts k (rank m) _ 0 (λ q. eqb-false k (rank m) e (sym q))))

alarm_is : (a : ScanValues) → has_alarm a.ds ≡ is_alarmed a
alarm_is a = go (bit a.ds 0) (bit a.ds 1)
  where
    go : (high low : Bool) → not high || not low ≡ not (low && high)
    go true true = refl
    go true false = refl
    go false true = refl
    go false false = refl

-- ---- extremes

pub number_most : {xs : Answers} {n : ℕ} {a : ScanValues} → Numbered xs n a → n ≤ many xs
number_most latest = omega arith
number_most (earlier h) = let k = number_most h in omega arith

some_numbered : {xs : Answers} {n : ℕ} {a : ScanValues} → Numbered xs n a → 1 ≤ many xs
some_numbered latest = omega arith
some_numbered (earlier h) = omega arith

pub never_numbered : {A : Type 0} {n : ℕ} {a : ScanValues} → Numbered none n a → A
never_numbered h = let k = some_numbered h in absurd (omega arith)

not_beyond_self : (b : Bound) (x : ℤ) → NotBeyond b x x
not_beyond_self Greatest x = omega (arith, integers)
not_beyond_self Least x = omega (arith, integers)

-- beyond an extreme lies also beyond what isn't beyond that
passes : (b : Bound) (x pv extreme : ℤ) → NotBeyond b x extreme → is_beyond b pv extreme ≡ true → NotBeyond b x pv
passes Greatest x pv extreme h e = omega (arith, integers, h, e)
passes Least x pv extreme h e = omega (arith, integers, h, e)

differs : (b : Bound) (x pv extreme : ℤ) → NotBeyond b x extreme → is_beyond b pv extreme ≡ true → x ≡ pv → ⊥
differs Greatest x pv extreme h e q = omega (arith, integers, h, e, q)
differs Least x pv extreme h e q = omega (arith, integers, h, e, q)

stays_within : (b : Bound) (pv extreme : ℤ) → is_beyond b pv extreme ≡ false → NotBeyond b pv extreme
stays_within Greatest pv extreme e = omega (arith, integers, e)
stays_within Least pv extreme e = omega (arith, integers, e)

module _ (b : Bound) (xs : Answers) (a : ScanValues) where
  newest : Occurrence
  newest = record { pv = a.pv; number = many xs + 1 }

  -- an answer beyond the extreme so far, or the first of all
  comes_first : ((n : ℕ) (x : ScanValues) → Numbered xs n x → NotBeyond b x.pv a.pv) →
      ((n : ℕ) (x : ScanValues) → Numbered xs n x → x.pv ≡ a.pv → ⊥) → IsFirst b (xs then a) newest
  unfolding newest
  comes_first within other =
      record { answer = a; stands = latest; its_pv = refl; not_beyond = all; not_before = first }
    where
      all : (n : ℕ) (x : ScanValues) → Numbered (xs then a) n x → NotBeyond b x.pv a.pv
      all n x latest = not_beyond_self b a.pv
      all n x (earlier h) = within n x h

      first : (n : ℕ) (x : ScanValues) → Numbered (xs then a) n x → x.pv ≡ a.pv → many xs + 1 ≤ n
      first n x latest e = omega arith
      first n x (earlier h) e = absurd (other n x h e)

  -- an answer that isn't
  stays_first : (o : Occurrence) → IsFirst b xs o → NotBeyond b a.pv o.pv → IsFirst b (xs then a) o
  stays_first o f within =
      record { answer = f.answer; stands = earlier f.stands; its_pv = f.its_pv; not_beyond = all; not_before = first }
    where
      all : (n : ℕ) (x : ScanValues) → Numbered (xs then a) n x → NotBeyond b x.pv o.pv
      all n x latest = within
      all n x (earlier h) = f.not_beyond n x h

      first : (n : ℕ) (x : ScanValues) → Numbered (xs then a) n x → x.pv ≡ o.pv → o.number ≤ n
      first n x latest e = let most = number_most f.stands in omega arith
      first n x (earlier h) e = f.not_before n x h e

  first_after : (o : Occurrence) → IsFirst b xs o →
      IsFirst b (xs then a) (if is_beyond b a.pv o.pv then record { pv = a.pv; number = many xs + 1 } else o)
  unfolding newest
  first_after o f =
      by_cases (IsFirst b (xs then a)) (is_beyond b a.pv o.pv) _ _
      (λ e. comes_first (λ n x h. passes b x.pv a.pv o.pv (f.not_beyond n x h) e)
      (λ n x h. differs b x.pv a.pv o.pv (f.not_beyond n x h) e))
      (λ e. stays_first o f (stays_within b a.pv o.pv e))

extreme_after_lem : (b : Bound) (xs : Answers) (a : ScanValues) (e : Option Occurrence) → IsExtreme b xs e →
    IsExtreme b (xs then a) (extreme_after b e a.pv (many xs + 1))
unfolding newest
extreme_after_lem b none a None of_none =
    of_some (comes_first b none a (λ n x h. never_numbered h) (λ n x h. never_numbered h))
extreme_after_lem b xs a (Some o) (of_some f) = of_some (first_after b xs a o f)
extreme_after_lem b (_ then _) a None x = elim x [ ]

-- ---- the whole sheet

pub empty_gives : Gives none empty_sheet.values
unfolding empty_sheet
empty_gives =
    record {
      scans = refl;
      size = refl;
      modes = zeros;
      greatest = of_none;
      least = of_none;
      alarms = refl;
      sum_pv_is = refl;
      sum_op_is = refl;
    }
  where
    zeros : (m : Mode) → ◌≡◌ {A = ℕ} (get_or (0 ∷ 0 ∷ 0 ∷ 0 ∷ 0 ∷ 0 ∷ 0 ∷ 0 ∷ []) (rank m) 0) 0
    zeros Hold = refl
    zeros Track = refl
    zeros Forced = refl
    zeros Manual = refl
    zeros Auto = refl
    zeros Remote = refl
    zeros Ratio = refl
    zeros Fallback = refl

pub taken_gives : (xs : Answers) (v : SheetValues) (a : ScanValues) → Gives xs v → Gives (xs then a) (taken v a)
unfolding taken alarms_after counted
taken_gives xs v a g =
    record {
      scans = ap (λ (n : ℕ). n + 1) g.scans;
      size = length-set v.modes (place_of a.mode) _ ∙ g.size;
      modes = λ m.
          counted_at v.modes a.mode m g.size ∙
          ap (λ (n : ℕ). if eqb (rank a.mode) (rank m) then n + 1 else n) (g.modes m);
      greatest = extreme Greatest v.greatest g.greatest;
      least = extreme Least v.least g.least;
      alarms = rw (alarm_is a) (ap (λ (n : ℕ). if is_alarmed a then n + 1 else n) g.alarms);
      sum_pv_is = ap (λ (z : ℤ). z +ℤ a.pv) g.sum_pv_is;
      sum_op_is = ap (λ (z : ℤ). z +ℤ pos a.op) g.sum_op_is;
    }
  where
    extreme : (b : Bound) (e : Option Occurrence) → IsExtreme b xs e → IsExtreme b (xs then a) (extreme_after b e a.pv (v.scans + 1))
    extreme b e h =
        subst (λ (n : ℕ). IsExtreme b (xs then a) (extreme_after b e a.pv (n + 1))) (sym g.scans) (extreme_after_lem b xs a e h)
