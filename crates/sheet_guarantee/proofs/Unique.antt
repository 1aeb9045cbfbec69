-- A list of answers gives the values of one sheet only, and these are valid.
use Rattle.std.specs.Prelude.{Option, None, Some}
use mathlib.Core.Path.{◌≡◌, refl, sym, ap, subst, ◌∙◌}
use mathlib.Core.Bool.{true}
use mathlib.Core.List.{List, [], ◌∷◌}
use Prim.Native.Nat.{ℕ, zero, suc, ◌≤◌, ◌<◌}
use native.Mathlib.Omega.{arith}
use lib.IntN.{ℤ}
use lib.ListN.{length, get_or}
use Rattle.integers.specs.Parts.{integers}
use Rattle.modes.specs.declared.Mode.{Mode}
use Rattle.modes.specs.declared.Mode.TheVariants.{Hold, Track, Forced, Manual, Auto, Remote, Ratio, Fallback}
use Rattle.answers.specs.declared.ScanValues.{ScanValues}
use Rattle.sheet.specs.EnteredLaws.{Answerable, empty_valid, taken_valid}
use Rattle.sheet.specs.Sheet.{empty_sheet, taken}
use Rattle.sheet.specs.Valid.{is_valid}
use Rattle.sheet.specs.SumLaws.{Held}
use Rattle.sheet.specs.declared.Bound.{Bound}
use Rattle.sheet.specs.declared.Bound.TheVariants.{Greatest, Least}
use Rattle.sheet.specs.declared.Occurrence.{Occurrence}
use Rattle.sheet.specs.declared.SheetValues.{SheetValues}
use Rattle.sheet_guarantee.specs.Claim.{InTypes, AllInTypes, Possible}
use Rattle.sheet_guarantee.specs.Meaning.{Answers, none, ◌then◌, many, rank, NotBeyond}
use Rattle.sheet_guarantee.specs.Meaning.{IsFirst, IsExtreme, of_none, of_some, Gives}
use Rattle.sheet_guarantee.proofs.Step.{never_numbered, empty_gives, taken_gives}

-- ---- counts

same_lists : (ms ns : List ℕ) → length ms ≡ length ns → ((k : ℕ) → k < length ms → get_or ms k 0 ≡ get_or ns k 0) → ms ≡ ns
same_lists [] [] e f = refl
same_lists [] (n ∷ ns) e f = absurd (omega arith)
same_lists (m ∷ ms) [] e f = absurd (omega arith)
same_lists (m ∷ ms) (n ∷ ns) e f =
    let head : m ≡ n = f 0 (omega arith) in
    rw (head, same_lists ms ns (omega arith) (λ k h. f (suc k) (omega arith))) refl

-- each place is a mode's
pub record At (k : ℕ) : Type 0 where
  pub mode : Mode
  pub is : rank mode ≡ k

pub at_place : (k : ℕ) → k < 8 → At k
at_place zero h = record { mode = Hold; is = refl }
at_place (suc zero) h = record { mode = Track; is = refl }
at_place (suc (suc zero)) h = record { mode = Forced; is = refl }
at_place (suc (suc (suc zero))) h = record { mode = Manual; is = refl }
at_place (suc (suc (suc (suc zero)))) h = record { mode = Auto; is = refl }
at_place (suc (suc (suc (suc (suc zero))))) h = record { mode = Remote; is = refl }
at_place (suc (suc (suc (suc (suc (suc zero)))))) h = record { mode = Ratio; is = refl }
at_place (suc (suc (suc (suc (suc (suc (suc zero))))))) h = record { mode = Fallback; is = refl }
at_place (suc (suc (suc (suc (suc (suc (suc (suc k)))))))) h = absurd (omega arith)

same_modes : (xs : Answers) (v w : SheetValues) → Gives xs v → Gives xs w → v.modes ≡ w.modes
same_modes xs v w g h =
    same_lists v.modes w.modes (g.size ∙ sym h.size) (λ k l.
    let m = at_place k (omega (arith, g.size)) in
    subst (λ (n : ℕ). get_or v.modes n 0 ≡ get_or w.modes n 0) m.is (g.modes m.mode ∙ sym (h.modes m.mode)))

-- ---- extremes

same_pv : (b : Bound) (x y : ℤ) → NotBeyond b x y → NotBeyond b y x → x ≡ y
same_pv Greatest x y h k = omega (arith, integers, h, k)
same_pv Least x y h k = omega (arith, integers, h, k)

same_first : (b : Bound) (xs : Answers) (o p : Occurrence) → IsFirst b xs o → IsFirst b xs p → o ≡ p
same_first b xs o p f g =
    let below : NotBeyond b o.pv p.pv =
    subst (λ (z : ℤ). NotBeyond b z p.pv) f.its_pv (g.not_beyond o.number f.answer f.stands) in
    let over : NotBeyond b p.pv o.pv =
    subst (λ (z : ℤ). NotBeyond b z o.pv) g.its_pv (f.not_beyond p.number g.answer g.stands) in
    let pv : o.pv ≡ p.pv = same_pv b o.pv p.pv below over in
    let later : o.number ≤ p.number = f.not_before p.number g.answer g.stands (g.its_pv ∙ sym pv) in
    let sooner : p.number ≤ o.number = g.not_before o.number f.answer f.stands (f.its_pv ∙ pv) in
    let number : o.number ≡ p.number = omega arith in
    same o p pv number
  where
    same : (o p : Occurrence) → o.pv ≡ p.pv → o.number ≡ p.number → o ≡ p
    same o p e d = ap (λ (z : ℤ). record { pv = z; number = o.number }) e ∙ ap (λ (n : ℕ). record { pv = p.pv; number = n }) d

same_extreme : (b : Bound) (xs : Answers) (d e : Option Occurrence) → IsExtreme b xs d → IsExtreme b xs e → d ≡ e
same_extreme b none None None of_none of_none = refl
same_extreme b none None (Some p) of_none (of_some g) = never_numbered g.stands
same_extreme b none (Some o) None (of_some f) of_none = never_numbered f.stands
same_extreme b xs (Some o) (Some p) (of_some f) (of_some g) = ap Some (same_first b xs o p f g)
same_extreme b (_ then _) None e x _ = elim x [ ]
same_extreme b (_ then _) (Some o) None _ x = elim x [ ]

-- ---- the whole

pub one_sheet : (xs : Answers) (v w : SheetValues) → Gives xs v → Gives xs w → v ≡ w
one_sheet xs v w g h =
    same v w (g.scans ∙ sym h.scans) (same_modes xs v w g h)
    (same_extreme Greatest xs v.greatest w.greatest g.greatest h.greatest)
    (same_extreme Least xs v.least w.least g.least h.least) (g.alarms ∙ sym h.alarms) (g.sum_pv_is ∙ sym h.sum_pv_is)
    (g.sum_op_is ∙ sym h.sum_op_is)
  where
    same : (v w : SheetValues) → v.scans ≡ w.scans → v.modes ≡ w.modes → v.greatest ≡ w.greatest → v.least ≡ w.least →
        v.alarms ≡ w.alarms → v.sumpv ≡ w.sumpv → v.sumop ≡ w.sumop → v ≡ w
    same v w a b c d e f g = rw (a, b, c, d, e, f, g) refl

-- the values that entering leads to, while there is room
values_of : Answers → SheetValues
values_of none = empty_sheet.values
values_of (xs then a) = taken (values_of xs) a

values_given : (xs : Answers) → Gives xs (values_of xs)
unfolding values_of
values_given none = empty_gives
values_given (xs then a) = taken_gives xs (values_of xs) a (values_given xs)

-- values that the types of an answer hold are such as the sheet's laws ask for
pub answerable : (a : ScanValues) → InTypes a → Answerable a
answerable a h = let held : Held a.pv = record { least = h.pv_least; most = h.pv_most } in record { pv = held; op = h.op }

values_valid : (xs : Answers) → AllInTypes xs → many xs ≤ 4294967295 → is_valid (values_of xs) ≡ true
unfolding values_of
values_valid none h few = empty_valid.tested
values_valid (xs then a) h few =
    taken_valid (values_of xs) a (values_valid xs h.0 (omega arith)) (omega (arith, (values_given xs).scans)) (answerable a h.1)

pub possible_valid : (v : SheetValues) → Possible v → is_valid v ≡ true
possible_valid v p =
    subst (λ (w : SheetValues). is_valid w ≡ true) (one_sheet p.answers _ v (values_given p.answers) p.gives)
    (values_valid p.answers p.in_types p.few)
