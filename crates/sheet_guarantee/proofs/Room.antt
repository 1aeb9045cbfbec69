-- What the farthest PVs of each number leave room for: they are in order, and an extreme comes first at its number.
use Rattle.std.specs.Prelude.{if◌then◌else◌}
use mathlib.Core.Logic.{◌⊎◌, inl, inr}
use mathlib.Core.Path.{◌≡◌, refl, sym, ◌∙◌}
use mathlib.Core.Bool.{Bool, true, false}
use Prim.Native.Nat.{ℕ, zero, suc, ◌≤◌, ◌<◌}
use native.Mathlib.Omega.{arith}
use lib.Dec.{eqb, ltb}
use lib.IntN.{ℤ, pos, ◌+ℤ◌, ◌-ℤ◌}
use lib.Signed.{◌≤ℤ◌, ◌<ℤ◌}
use borrow.Author.Tests.{eqb-true, eq-eqb, ltb-true, lt-ltb}
use Rattle.integers.specs.Choice.{by_cases}
use Rattle.integers.specs.Operations.{sum, difference}
use Rattle.integers.specs.Parts.{integers}
use Rattle.sheet.specs.ExtremeLaws.{Order, different, equal, at_here, at_other, between}
use Rattle.sheet.specs.SumLaws.{Inside}
use Rattle.sheet.specs.declared.Bound.{Bound}
use Rattle.sheet.specs.declared.Bound.TheVariants.{Greatest, Least}
use Rattle.sheet.specs.declared.Occurrence.{Occurrence}
use Rattle.sheet_guarantee.specs.Meaning.{NotBeyond}
use Rattle.sheet_guarantee.proofs.Ends.{inner, end, ends}

pub end_within : (b : Bound) (here other : Occurrence) → Order b here other → (n : ℕ) → NotBeyond b (end b here other n) here.pv
unfolding end
end_within b here other o n =
    by_cases (λ (z : ℤ). NotBeyond b z here.pv) (eqb n other.number) _ _ (λ e. extreme b o)
    (λ e. by_cases (λ (z : ℤ). NotBeyond b z here.pv) (ltb n here.number) _ _ (λ u. inside b) (λ u. itself b))
  where
    extreme : (b : Bound) → Order b here other → NotBeyond b other.pv here.pv
    extreme Greatest (different i d f) = omega (arith, integers, i)
    extreme Greatest (equal e u v) = omega (arith, integers, e)
    extreme Least (different i d f) = omega (arith, integers, i)
    extreme Least (equal e u v) = omega (arith, integers, e)

    inside : (b : Bound) → NotBeyond b (inner b here.pv) here.pv
    inside Greatest = omega (arith, integers, difference here.pv (pos 1))
    inside Least = omega (arith, integers, sum here.pv (pos 1))

    itself : (b : Bound) → NotBeyond b here.pv here.pv
    itself Greatest = omega (arith, integers)
    itself Least = omega (arith, integers)

-- before its first, an extreme isn't reached
pub end_short : (b : Bound) (here other : Occurrence) → Order b here other → (n : ℕ) → 1 ≤ n → n < here.number →
    Inside b (end b here other n) here.pv
unfolding end
end_short b here other o n f h =
    by_cases (λ (z : ℤ). Inside b z here.pv) (eqb n other.number) _ _ (λ e. extreme o)
    (λ e. rw (lt-ltb n here.number h) (inside b))
  where
    extreme : Order b here other → Inside b other.pv here.pv
    extreme (different i d first) = i
    extreme (equal e u v) = absurd (omega arith)

    inside : (b : Bound) → Inside b (inner b here.pv) here.pv
    inside Greatest = omega (arith, integers, difference here.pv (pos 1))
    inside Least = omega (arith, integers, sum here.pv (pos 1))

-- at the first of the other extreme nothing else is left
pub end_at : (b : Bound) (here other : Occurrence) → end b here other other.number ≡ other.pv
unfolding end
end_at b here other = rw (eq-eqb other.number other.number refl) refl

module _ (g l : Occurrence) (o : Order Greatest g l) (n : ℕ) (f : 1 ≤ n) where
  both_short : Order Greatest g l → n < g.number → n < l.number → (l.pv +ℤ pos 1) ≤ℤ (g.pv -ℤ pos 1)
  both_short (different i d (at_here e)) h k = absurd (omega arith)
  both_short (different i d (at_other e)) h k = absurd (omega arith)
  both_short (different i d (between pv u v)) h k = omega (arith, integers, sum l.pv (pos 1), difference g.pv (pos 1), u, v)
  both_short (equal e u v) h k = absurd (omega arith)

  apart : Order Greatest g l → (n < g.number) ⊎ (n < l.number) → l.pv <ℤ g.pv
  apart (different i d first) h = i
  apart (equal e u v) (inl h) = absurd (omega arith)
  apart (equal e u v) (inr h) = absurd (omega arith)

  in_order_lem : Order Greatest g l → l.pv ≤ℤ g.pv
  in_order_lem (different i d first) = omega (arith, integers, i)
  in_order_lem (equal e u v) = omega (arith, integers, e)

  together : Order Greatest g l → n ≡ g.number → n ≡ l.number → g.pv ≤ℤ l.pv
  together (different i d first) e u = absurd (d (sym e ∙ u))
  together (equal q v w) e u = omega (arith, integers, q)

  pub ends_ordered : end Least l g n ≤ℤ end Greatest g l n
  unfolding end
  ends_ordered =
      go (eqb n g.number) (ltb n l.number) (eqb n l.number) (ltb n g.number) refl refl refl refl
    where
      go : (here below there above : Bool) → eqb n g.number ≡ here → ltb n l.number ≡ below → eqb n l.number ≡ there →
          ltb n g.number ≡ above →
          (if here then g.pv else if below then l.pv +ℤ pos 1 else l.pv)
          ≤ℤ (if there then l.pv else if above then g.pv -ℤ pos 1 else g.pv)
      go true below true above a b c d = together o (eqb-true n g.number a) (eqb-true n l.number c)
      go true below false true a b c d =
          let e = eqb-true n g.number a in let u = ltb-true n g.number d in absurd (omega arith)
      go true below false false a b c d = omega (arith, integers)
      go false true true above a b c d =
          let e = eqb-true n l.number c in let u = ltb-true n l.number b in absurd (omega arith)
      go false false true above a b c d = omega (arith, integers)
      go false true false true a b c d = both_short o (ltb-true n g.number d) (ltb-true n l.number b)
      go false true false false a b c d =
          omega (arith, integers, sum l.pv (pos 1), apart o (inr (ltb-true n l.number b)))
      go false false false true a b c d =
          omega (arith, integers, difference g.pv (pos 1), apart o (inl (ltb-true n g.number d)))
      go false false false false a b c d = in_order_lem o

-- so the sums are in order too
pub sums_ordered : (g l : Occurrence) → Order Greatest g l → (k : ℕ) → ends Least l g k ≤ℤ ends Greatest g l k
unfolding ends
sums_ordered g l o zero = omega (arith, integers)
sums_ordered g l o (suc k) =
    let a = ends Least l g k in
    let b = ends Greatest g l k in
    omega (
      arith,
      integers,
      sum a (end Least l g (suc k)),
      sum b (end Greatest g l (suc k)),
      sums_ordered g l o k,
      ends_ordered g l o (suc k) (omega arith),
    )
