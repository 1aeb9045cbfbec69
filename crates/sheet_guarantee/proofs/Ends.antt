-- For given extremes, how high and how low the PV of each number can be, and that the sums of these are the bounds by
-- which a kept sum is tested.
use Rattle.std.specs.Prelude.{if◌then◌else◌}
use mathlib.Core.Path.{◌≡◌, refl, ap, ◌∙◌}
use mathlib.Core.Bool.{Bool, true, false}
use Prim.Native.Nat.{ℕ, zero, suc, ◌+◌, ◌-◌, ◌≤◌, ◌<◌, min}
use native.Mathlib.Omega.{arith}
use lib.Dec.{eqb, ltb}
use lib.IntN.{ℤ, pos, ◌+ℤ◌, ◌-ℤ◌}
use borrow.Author.Tests.{eqb-true, eqb-false, ltb-true, ltb-false}
use Rattle.integers.specs.Choice.{by_cases}
use Rattle.integers.specs.Operations.{sum, difference}
use Rattle.integers.specs.Parts.{integers}
use Rattle.sheet.specs.SumLaws.{reach, lowered, raised}
use Rattle.sheet.specs.Valid.{scans_before}
use Rattle.sheet.specs.declared.Bound.{Bound}
use Rattle.sheet.specs.declared.Bound.TheVariants.{Greatest, Least}
use Rattle.sheet.specs.declared.Occurrence.{Occurrence}

-- next to an extreme, on its inner side
abbrev pub inner : Bound → ℤ → ℤ
inner Greatest z = z -ℤ pos 1
inner Least z = z +ℤ pos 1

-- the farthest PV at a number: the other extreme at its own, short of this extreme before its first, else this extreme
unfoldable pub end : Bound → Occurrence → Occurrence → ℕ → ℤ
end b here other n =
    if eqb n other.number then other.pv else if ltb n here.number then inner b here.pv else here.pv

-- the sum of these up to a number
unfoldable pub ends : Bound → Occurrence → Occurrence → ℕ → ℤ
ends b here other zero = pos 0
ends b here other (suc k) = ends b here other k +ℤ end b here other (suc k)

-- how many up to a number are short of the extreme
unfoldable short : Occurrence → Occurrence → ℕ → ℕ
short here other zero = 0
short here other (suc k) =
    if eqb (suc k) other.number then short here other k else
    if ltb (suc k) here.number then short here other k + 1 else short here other k

-- all before the first, but for the other
record Short (i j k s : ℕ) : Type 0 where
  with_other : j ≤ min k (i - 1) → s + 1 ≡ min k (i - 1)
  without : min k (i - 1) < j → s ≡ min k (i - 1)

short_is : (here other : Occurrence) → 1 ≤ here.number → 1 ≤ other.number → (k : ℕ) →
    Short here.number other.number k (short here other k)
unfolding short
short_is here other f g zero = record { with_other = λ h. absurd (omega arith); without = λ h. omega arith }
short_is here other f g (suc k) =
    let i = here.number in
    let j = other.number in
    let s = short here other k in
    let p = short_is here other f g k in
    by_cases (Short i j (suc k)) (eqb (suc k) j) _ _
    (λ d.
    let e = eqb-true (suc k) j d in
    record {
      with_other = λ h. let w : s ≡ min k (i - 1) = p.without (omega arith) in omega arith;
      without = λ h. let w : s ≡ min k (i - 1) = p.without (omega arith) in omega arith;
    })
    (λ d.
    let e = eqb-false (suc k) j d in
    by_cases (Short i j (suc k)) (ltb (suc k) i) _ _
    (λ u.
    let l = ltb-true (suc k) i u in
    record {
      with_other = λ h. let w : s + 1 ≡ min k (i - 1) = p.with_other (omega (arith, e)) in omega arith;
      without = λ h. let w : s ≡ min k (i - 1) = p.without (omega arith) in omega arith;
    })
    (λ u.
    let l = ltb-false (suc k) i u in
    record {
      with_other = λ h. let w : s + 1 ≡ min k (i - 1) = p.with_other (omega arith) in omega arith;
      without = λ h. let w : s ≡ min k (i - 1) = p.without (omega arith) in omega arith;
    }))

-- when the first has come, as many as are tested for
short_all : (here other : Occurrence) → 1 ≤ here.number → 1 ≤ other.number → (k : ℕ) → here.number ≤ k →
    short here other k ≡ scans_before here.number other.number
unfolding scans_before
short_all here other f g k h =
    let p = short_is here other f g k in
    by_cases (λ (n : ℕ). short here other k ≡ n) (ltb other.number here.number) _ _
    (λ e.
    let l = ltb-true other.number here.number e in
    let w : short here other k + 1 ≡ min k (here.number - 1) = p.with_other (omega arith) in
    omega arith)
    (λ e.
    let l = ltb-false other.number here.number e in
    let w : short here other k ≡ min k (here.number - 1) = p.without (omega arith) in
    omega arith)

-- ---- the sums

-- before the other extreme has come, and since
record Sums (b : Bound) (here other : Occurrence) (k : ℕ) (z : ℤ) (n : ℕ) : Type 0 where
  without : k < other.number → z ≡ reach b here.pv (pos 0) k n
  with_other : other.number ≤ k → z ≡ reach b here.pv other.pv (k - 1) n

add_other : (b : Bound) (here other : ℤ) (k n : ℕ) → reach b here (pos 0) k n +ℤ other ≡ reach b here other k n
add_other Greatest here other k n =
    omega (arith, integers, sum (reach Greatest here (pos 0) k n) other, lowered here (pos 0) k n, lowered here other k n)
add_other Least here other k n =
    omega (arith, integers, sum (reach Least here (pos 0) k n) other, raised here (pos 0) k n, raised here other k n)

add_here : (b : Bound) (here other : ℤ) (k n : ℕ) → reach b here other k n +ℤ here ≡ reach b here other (suc k) n
add_here Greatest here other k n =
    omega (arith, integers, sum (reach Greatest here other k n) here, lowered here other k n, lowered here other (suc k) n)
add_here Least here other k n =
    omega (arith, integers, sum (reach Least here other k n) here, raised here other k n, raised here other (suc k) n)

add_inner : (b : Bound) (here other : ℤ) (k n : ℕ) → reach b here other k n +ℤ inner b here ≡ reach b here other (suc k) (n + 1)
add_inner Greatest here other k n =
    let x = here -ℤ pos 1 in
    let now = lowered here other k n in
    omega (arith, integers, sum (reach Greatest here other k n) x, difference here (pos 1), now, lowered here other (suc k) (n + 1))
add_inner Least here other k n =
    let x = here +ℤ pos 1 in
    let now = raised here other k n in
    omega (arith, integers, sum (reach Least here other k n) x, sum here (pos 1), now, raised here other (suc k) (n + 1))

module _ (b : Bound) (here other : Occurrence) (g : 1 ≤ other.number) (k : ℕ) (z : ℤ) (n : ℕ) (p : Sums b here other k z n) where
  -- one more, which isn't the other extreme
  one_more_lem : (x : ℤ) (m : ℕ) → ((y : ℤ) (q : ℕ) → reach b here.pv y q n +ℤ x ≡ reach b here.pv y (suc q) m) →
      (suc k ≡ other.number → ⊥) → Sums b here other (suc k) (z +ℤ x) m
  one_more_lem x m add d =
      record {
        without = λ h. ap (λ (y : ℤ). y +ℤ x) (p.without (omega arith)) ∙ add (pos 0) k;
        with_other = λ h.
            let come : other.number ≤ k = omega (arith, d) in
            let less : suc (k - 1) ≡ suc k - 1 = omega arith in
            ap (λ (y : ℤ). y +ℤ x) (p.with_other come) ∙ add other.pv (k - 1) ∙
            ap (λ (q : ℕ). reach b here.pv other.pv q m) less;
      }

  one_step : (t u : Bool) → eqb (suc k) other.number ≡ t →
      Sums b here other (suc k) (z +ℤ (if t then other.pv else if u then inner b here.pv else here.pv))
      (if t then n else if u then n + 1 else n)
  one_step true u d =
      let e = eqb-true (suc k) other.number d in
      record {
        without = λ h. absurd (omega arith);
        with_other = λ h.
            let less : k ≡ suc k - 1 = omega arith in
            ap (λ (y : ℤ). y +ℤ other.pv) (p.without (omega arith)) ∙ add_other b here.pv other.pv k n ∙
            ap (λ (q : ℕ). reach b here.pv other.pv q n) less;
      }
  one_step false true d = one_more_lem (inner b here.pv) (n + 1) (λ y q. add_inner b here.pv y q n) (eqb-false (suc k) other.number d)
  one_step false false d = one_more_lem here.pv n (λ y q. add_here b here.pv y q n) (eqb-false (suc k) other.number d)

nothing_yet : (b : Bound) (z : ℤ) → pos 0 ≡ reach b z (pos 0) 0 0
nothing_yet Greatest z = omega (arith, integers, lowered z (pos 0) 0 0)
nothing_yet Least z = omega (arith, integers, raised z (pos 0) 0 0)

sums_are : (b : Bound) (here other : Occurrence) → 1 ≤ other.number → (k : ℕ) →
    Sums b here other k (ends b here other k) (short here other k)
unfolding ends short end
sums_are b here other g zero = record { without = λ h. nothing_yet b here.pv; with_other = λ h. absurd (omega arith) }
sums_are b here other g (suc k) =
    one_step b here other g k (ends b here other k) (short here other k) (sums_are b here other g k) (eqb (suc k) other.number)
    (ltb (suc k) here.number) refl

-- with all of them, the bound that is tested
pub ends_are : (b : Bound) (here other : Occurrence) (more : ℕ) → 1 ≤ here.number → here.number ≤ suc more → 1 ≤ other.number →
    other.number ≤ suc more →
    ends b here other (suc more) ≡ reach b here.pv other.pv more (scans_before here.number other.number)
ends_are b here other more f t g u =
    let less : suc more - 1 ≡ more = omega arith in
    (sums_are b here other g (suc more)).with_other u ∙
    ap (λ (q : ℕ). reach b here.pv other.pv q (short here other (suc more))) less ∙
    ap (reach b here.pv other.pv more) (short_all here other f g (suc more) t)
