-- What a call does to the output, as an instruction, and how it is executed: by our controller in whole
-- 1/65,536 units, by the exact controller in fractions. The rules give the instruction once, for both.
use Rattle.std.specs.Prelude.{ℤ, ◌+ℤ◌}
use Rattle.terms.specs.Fraction.{Fraction, whole, plus, limited, stored_units, limited_stored}
use Rattle.terms.specs.Terms.{limited_term, stored_term}

pub data Change : Type 0 where
  keep : Change
  -- to so many whole units, outright
  set_to : ℤ → Change
  -- by so many whole units
  move_by : ℤ → Change
  -- the proportional, integral and derivative term, exact and not yet limited
  add_terms : Fraction → Fraction → Fraction → Change

pub data Limits : Type 0 where
  unlimited : Limits
  -- between so many whole units and so many
  between : ℤ → ℤ → Limits

pub record Instruction : Type 0 where
  pub change : Change
  pub limits : Limits

-- what an output of the type X is computed with
pub record Arithmetic (X : Type 0) : Type 0 where
  -- so many whole units
  pub units : ℤ → X
  pub sum : X → X → X
  -- what is added of an exact term
  pub term : Fraction → X
  -- an output limited to so many whole units
  pub limited : ℤ → ℤ → X → X

-- ours: "the stored output is a whole number of 1/65,536 units"; each term limited, then rounded
unfoldable pub stored_arithmetic : Arithmetic ℤ
stored_arithmetic =
    record {
      units = λ u. stored_units u;
      sum = λ x y. x +ℤ y;
      term = λ f. stored_term f;
      limited = λ low high x. limited_stored low high x;
    }

-- the exact controller: "its output is a fraction of two whole numbers and its limited terms are added unrounded"
unfoldable pub exact_arithmetic : Arithmetic Fraction
exact_arithmetic =
    record { units = λ u. whole u; sum = λ f g. plus f g; term = λ f. limited_term f; limited = λ low high f. limited low high f }

unfoldable pub changed : {X : Type 0} → Arithmetic X → Change → X → X
changed A keep x = x
changed A (set_to u) x = A.units u
changed A (move_by u) x = A.sum x (A.units u)
changed A (add_terms p i d) x = A.sum (A.sum (A.sum x (A.term p)) (A.term i)) (A.term d)

unfoldable pub limited_to : {X : Type 0} → Arithmetic X → Limits → X → X
limited_to A unlimited x = x
limited_to A (between low high) x = A.limited low high x

-- the change, and then the limits
unfoldable pub executed : {X : Type 0} → Arithmetic X → Instruction → X → X
executed A o x = limited_to A o.limits (changed A o.change x)
