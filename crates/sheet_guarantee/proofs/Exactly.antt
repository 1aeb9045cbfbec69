-- Kept values are taken exactly if some list of answers gives them.
use Rattle.std.specs.Prelude.{Option, None, Some, Ok}
use mathlib.Core.Path.{◌≡◌, refl, sym, ap, subst, ◌∙◌}
use mathlib.Core.Bool.{Bool, true, false, ◌&&◌}
use Prim.Native.Nat.{ℕ, zero, suc, ◌+◌, ◌≤◌}
use native.Mathlib.Omega.{arith}
use lib.Dec.{eqb, ltb}
use lib.IntN.{ℤ, pos, nat_abs}
use lib.Signed.{le_z, ◌≤ℤ◌}
use borrow.Author.Tests.{eqb-true, eqb-false, ltb-true, ltb-false}
use Rattle.integers.specs.Choice.{by_cases, both, never}
use Rattle.integers.specs.Operations.{number}
use Rattle.integers.specs.Parts.{integers}
use Rattle.answers.specs.declared.ScanValues.{ScanValues}
use Rattle.sheet.specs.EnteredLaws.{Parts, parts}
use Rattle.sheet.specs.ExtremeLaws as laws
use Rattle.sheet.specs.ExtremeLaws.{order_turned}
use Rattle.sheet.specs.SumLaws.{Inside}
use Rattle.sheet.specs.Valid.{are_extremes, is_valid, kept_sheet}
use Rattle.sheet.specs.TotalLaws.{count_most}
use Rattle.sheet.specs.ValidLaws.{possible_of, no_scan}
use Rattle.sheet.specs.declared.Bound.{Bound}
use Rattle.sheet.specs.declared.Bound.TheVariants.{Greatest, Least}
use Rattle.sheet.specs.declared.KeptResult.{KeptResult}
use Rattle.sheet.specs.declared.Occurrence.{Occurrence}
use Rattle.sheet.specs.declared.SheetValues.{SheetValues}
use Rattle.sheet_guarantee.specs.Claim.{Possible, KeptExactly}
use Rattle.sheet_guarantee.specs.Meaning.{Answers, none, ◌then◌, many, Numbered, latest, earlier, rank}
use Rattle.sheet_guarantee.specs.Meaning.{NotBeyond, IsFirst, IsExtreme, of_none, of_some}
use Rattle.sheet_guarantee.proofs.Ends.{end, ends_are}
use Rattle.sheet_guarantee.proofs.Room.{end_within, end_short, end_at}
use Rattle.sheet_guarantee.proofs.Filled.{fill}
use Rattle.sheet_guarantee.proofs.Unique.{possible_valid}

-- an answer with each number
record Found (xs : Answers) (n : ℕ) : Type 0 where
  answer : ScanValues
  stands : Numbered xs n answer

found_later : (xs : Answers) (a : ScanValues) (n : ℕ) → (n ≤ many xs → Found xs n) → n ≤ many xs + 1 → Found (xs then a) n
found_later xs a n before t = go (eqb n (many xs + 1)) refl
  where
    go : (b : Bool) → eqb n (many xs + 1) ≡ b → Found (xs then a) n
    go true e = subst (Found (xs then a)) (sym (eqb-true n (many xs + 1) e)) (record { answer = a; stands = latest })
    go false e =
        let f = before (omega (arith, eqb-false n (many xs + 1) e)) in record { answer = f.answer; stands = earlier f.stands }

found : (xs : Answers) (n : ℕ) → 1 ≤ n → n ≤ many xs → Found xs n
found none n f t = absurd (omega arith)
found (xs then a) n f t = found_later xs a n (λ h. found xs n f h) t

from_one : {xs : Answers} {n : ℕ} {a : ScanValues} → Numbered xs n a → 1 ≤ n
from_one latest = omega arith
from_one (earlier h) = from_one h

-- ---- answers between the ends have these extremes

between_ends : (b : Bound) (pv extreme end : ℤ) → NotBeyond b pv end → NotBeyond b end extreme → NotBeyond b pv extreme
between_ends Greatest pv extreme end h k = omega (arith, integers, h, k)
between_ends Least pv extreme end h k = omega (arith, integers, h, k)

short_of : (b : Bound) (pv extreme end : ℤ) → NotBeyond b pv end → Inside b end extreme → pv ≡ extreme → ⊥
short_of Greatest pv extreme end h k e = omega (arith, integers, h, k, e)
short_of Least pv extreme end h k e = omega (arith, integers, h, k, e)

same_pv : (b : Bound) (pv extreme : ℤ) → NotBeyond b pv extreme → NotBeyond (laws.opposite b) pv extreme → pv ≡ extreme
same_pv Greatest pv extreme h k = omega (arith, integers, h, k)
same_pv Least pv extreme h k = omega (arith, integers, h, k)

module _ (b : Bound) (here other : Occurrence) (xs : Answers) (o : laws.Order b here other) (from : 1 ≤ here.number)
    (to : here.number ≤ many xs)
    (placed : (n : ℕ) (a : ScanValues) → Numbered xs n a →
    NotBeyond b a.pv (end b here other n) × NotBeyond (laws.opposite b) a.pv (end (laws.opposite b) other here n)) where
  within : (n : ℕ) (a : ScanValues) → Numbered xs n a → NotBeyond b a.pv here.pv
  within n a h = between_ends b a.pv here.pv (end b here other n) (placed n a h).0 (end_within b here other o n)

  not_before : (n : ℕ) (a : ScanValues) → Numbered xs n a → a.pv ≡ here.pv → here.number ≤ n
  not_before n a h e = go (ltb n here.number) refl
    where
      go : (t : Bool) → ltb n here.number ≡ t → here.number ≤ n
      go true d =
          absurd (short_of b a.pv here.pv (end b here other n) (placed n a h).0
          (end_short b here other o n (from_one h) (ltb-true n here.number d)) e)
      go false d = ltb-false n here.number d

  is_first : IsFirst b xs here
  is_first =
      let f = found xs here.number from to in
      let here_end = subst (NotBeyond (laws.opposite b) f.answer.pv) (end_at (laws.opposite b) other here)
      (placed here.number f.answer f.stands).1 in
      record {
        answer = f.answer;
        stands = f.stands;
        its_pv = same_pv b f.answer.pv here.pv (within here.number f.answer f.stands) here_end;
        not_beyond = within;
        not_before = not_before;
      }

-- ---- the answers of a valid sheet

op_size : (z : ℤ) → pos 0 ≤ℤ z → z ≡ pos (nat_abs z)
op_size z h = omega (arith, integers, number z)

module _ (v : SheetValues) (p : Parts v) where
  op : ℕ
  op = nat_abs v.sumop

  -- a sheet with scans
  filled : (more : ℕ) (g l : Occurrence) → v.scans ≡ suc more → v.greatest ≡ Some g → v.least ≡ Some l →
      laws.Possible Greatest more g l v.sumpv → Possible v
  unfolding op
  filled more g l k d e q =
      let f = fill g l q.order q.here_held q.other_held (suc more) v.modes v.alarms op v.sumpv p.size (p.counts ∙ k)
      (omega (arith, p.alarms)) (omega (arith, integers, number v.sumop, p.op_most, p.op_least))
      (subst (λ (z : ℤ). z ≤ℤ v.sumpv)
      (sym (ends_are Least l g more q.other_from q.other_to q.here_from q.here_to)) q.sum_other)
      (subst (λ (z : ℤ). v.sumpv ≤ℤ z)
      (sym (ends_are Greatest g l more q.here_from q.here_to q.other_from q.other_to)) q.sum_here) in
      record {
        answers = f.answers;
        in_types = f.in_types;
        few = omega (arith, f.many_are, p.scans);
        gives = record {
          scans = k ∙ sym f.many_are;
          size = p.size;
          modes = f.modes;
          greatest = subst (IsExtreme Greatest f.answers) (sym d)
              (of_some (is_first Greatest g l f.answers q.order q.here_from (omega (arith, f.many_are, q.here_to))
              (λ n a h. ((f.placed n a h).1, (f.placed n a h).0))));
          least = subst (IsExtreme Least f.answers) (sym e)
              (of_some (is_first Least l g f.answers (order_turned Greatest g l q.order) q.other_from
              (omega (arith, f.many_are, q.other_to)) (λ n a h. ((f.placed n a h).0, (f.placed n a h).1))));
          alarms = f.alarms_are;
          sum_pv_is = f.pv_is;
          sum_op_is = op_size v.sumop p.op_least ∙ ap pos f.op_is;
        };
      }

  -- an empty one
  empty : v.scans ≡ 0 → v.greatest ≡ None → v.least ≡ None → v.sumpv ≡ pos 0 → Possible v
  empty k d e q =
      record {
        answers = none;
        in_types = tt;
        few = omega arith;
        gives = record {
          scans = k;
          size = p.size;
          modes = λ m. let most = count_most v.modes (rank m) in omega (arith, p.counts);
          greatest = subst (IsExtreme Greatest none) (sym d) of_none;
          least = subst (IsExtreme Least none) (sym e) of_none;
          alarms = omega (arith, p.alarms);
          sum_pv_is = q;
          sum_op_is = omega (arith, integers, p.op_least, p.op_most);
        };
      }

  by_extremes : (scans : ℕ) (g l : Option Occurrence) (s : ℤ) → v.scans ≡ scans → v.greatest ≡ g → v.least ≡ l → v.sumpv ≡ s →
      are_extremes scans g l s ≡ true → Possible v
  by_extremes scans None None s k d e q t =
      let a = both (eqb scans 0 && le_z (pos 0) s) (le_z s (pos 0)) t in
      let b = both (eqb scans 0) (le_z (pos 0) s) a.0 in
      empty (k ∙ eqb-true scans 0 b.0) d e (q ∙ omega (arith, integers, a.1, b.1))
  by_extremes scans None (Some l) s k d e q t = never t
  by_extremes scans (Some g) None s k d e q t = never t
  by_extremes zero (Some g) (Some l) s k d e q t = absurd (no_scan g l s t)
  by_extremes (suc more) (Some g) (Some l) s k d e q t =
      filled more g l k d e (subst (laws.Possible Greatest more g l) (sym q) (possible_of more g l s t))

  pub some_answers : Possible v
  some_answers = by_extremes v.scans v.greatest v.least v.sumpv refl refl refl refl p.extremes

-- ---- over the contract

abbrev Exactly : SheetValues → KeptResult → Type 0
Exactly v r =
    (r.verdict ≡ Ok tt → Possible v × (r.sheet.values ≡ v)) ×
    (Possible v → r ≡ record { sheet = record { values = v }; verdict = Ok tt })

exactly : (v : SheetValues) → Exactly v (kept_sheet v)
unfolding kept_sheet
exactly v =
    by_cases (Exactly v) (is_valid v) _ _ (λ e. (λ q. (some_answers v (parts v e), refl), λ p. refl))
    (λ e. (λ q. cc, λ p. never (sym e ∙ possible_valid v p)))

pub kept_exactly : KeptExactly
kept_exactly v r e = subst (Exactly v) (sym e.0) (exactly v)
