-- `terms::stored_term` meets its contract.
use mathlib.Core.Path.{ap, ◌≡◌, ◌∙◌}
use Prim.Native.Nat.{◌*◌, ◌<◌, ◌≤◌}
use native.Mathlib.Nat.{le-div_iff_mul-le, div-lt_iff_lt-mul}
use native.Mathlib.Omega.{arith}
use lib.IntN.{nat_abs, ℤ}
use mir.Syntax.{w64}
use Rattle.integers.specs.Machine.{back}
use Rattle.integers.specs.RoundingLaws.{half_even-most}
use Rattle.integers.specs.Sign.{from_sign}
use Rattle.terms.specs.Fraction.{Fraction, Positive}
use Rattle.terms.specs.TermLaws.{term_limited, term_within, term_size}
use Rattle.terms.specs.Terms.{stored_term}
use Rattle.terms.proofs.stored_term.Goals.{Else-numerator-denominator-ge-TERM_MOST}
use Rattle.terms.proofs.stored_term.Goals as goal

-- what is the stored term of a fraction is small as well
sized : {z : ℤ} (f : Fraction) → Positive f → z ≡ stored_term f → (z ≡ stored_term f) × (nat_abs z ≤ 655360000)
sized f some is = (is, rw is (term_size f some))

pub returns-then-numerator-denominator-ge-TERM_MOST : goal.returns-then-numerator-denominator-ge-TERM_MOST
returns-then-numerator-denominator-ge-TERM_MOST c =
    sized _ c.requires.some (back w64 _ c.signed.type_inv ∙ c.signed.ensures ∙
    term_limited c.args.numerator c.args.denominator c.args.minus c.requires.some
    ((le-div_iff_mul-le c.requires.some).0 c.if-numerator-denominator-ge-TERM_MOST.true))

-- the fraction is within its limits, and so its numerator is small
within : (c : Else-numerator-denominator-ge-TERM_MOST) → c.args.numerator < 10000 * c.args.denominator
within c = (div-lt_iff_lt-mul c.requires.some).0 c.if-numerator-denominator-ge-TERM_MOST.false

pub signed-requires-2 : goal.signed-requires-2
signed-requires-2 c =
    omega (
      arith,
      within c.before,
      c.nearest_even-size.ensures,
      half_even-most (c.args.numerator * 65536) c.args.denominator c.requires.some,
    )

pub returns : goal.returns
returns c =
    sized _ c.requires.some (back w64 _ c.signed-2.type_inv ∙ c.signed-2.ensures ∙
    ap (from_sign c.args.minus) c.nearest_even-size.ensures ∙
    term_within c.args.numerator c.args.denominator c.args.minus c.requires.some (omega (arith, within c.before.before)))
