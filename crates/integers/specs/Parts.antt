-- An integer read as two natural numbers, one of which is 0: how far it lies above zero, and how far
-- below. `omega` reads natural numbers only; with the rules of `integers` in its list it also reads and
-- proves orders, equations and tests of integers.
use Rattle.std.specs.Prelude.{◌≡◌, refl, Bool, true, false, not, ℕ, suc, ◌+◌, ◌*◌, ◌≤◌, ◌<◌, min, T, ℤ, pos, negsuc, nat_abs, ◌≤ℤ◌, ◌<ℤ◌}
use Rattle.std.proofs.Common.{sym, ap, subst, arith, leb→le, le→leb, ltb→lt, lt→ltb}
use Rattle.std.proofs.Math.Dec.{nleb→lt}
use Rattle.std.specs.Int.Signed.{mag, non_neg, lt_z, le_z}
use Rattle.std.specs.Int.Signed as Signed

abbrev pub above : ℤ → ℕ
above (pos n) = n
above (negsuc n) = 0

abbrev pub below : ℤ → ℕ
below (pos n) = 0
below (negsuc n) = suc n

-- one of the two is 0; each use costs omega a case split
pub apart : (z : ℤ) → min (above z) (below z) ≡ 0
apart (pos n) = omega arith
apart (negsuc n) = omega arith

-- ---- all that an order or an equation says, for omega's list

pub record Order (a b : ℤ) : Type 0 where
  pub aboves : above a ≤ above b
  pub belows : below b ≤ below a

pub record Strict (a b : ℤ) : Type 0 where
  pub order : Order a b
  pub less : above a + below b < above b + below a

pub record Same (a b : ℤ) : Type 0 where
  pub aboves : above a ≡ above b
  pub belows : below a ≡ below b
  pub sizes : nat_abs a ≡ nat_abs b
  pub mags : mag a ≡ mag b

le_parts : (a b : ℤ) → T (le_z a b) → Order a b
le_parts (pos a) (pos b) t = omega (arith, leb→le a b t)
le_parts (pos a) (negsuc b) t = absurd t
le_parts (negsuc a) (pos b) t = omega arith
le_parts (negsuc a) (negsuc b) t = omega (arith, leb→le b a t)

lt_parts : (a b : ℤ) → T (lt_z a b) → Strict a b
lt_parts (pos a) (pos b) t = omega (arith, ltb→lt a b t)
lt_parts (pos a) (negsuc b) t = absurd t
lt_parts (negsuc a) (pos b) t = omega arith
lt_parts (negsuc a) (negsuc b) t = omega (arith, ltb→lt b a t)

pub at_most_lem : {a b : ℤ} → a ≤ℤ b → Order a b
at_most_lem {a} {b} h = le_parts a b h.le

pub less_than : {a b : ℤ} → a <ℤ b → Strict a b
less_than {a} {b} h = lt_parts a b h.lt

pub same : {a b : ℤ} → a ≡ b → Same a b
same e = record { aboves = ap above e; belows = ap below e; sizes = ap nat_abs e; mags = ap mag e }

-- ---- rules that read a hypothesis: omega applies the first that fits, so those for a literal bound,
-- which say more, stand first

pub from_nonnegative : {z : ℤ} → pos 0 ≤ℤ z → below z ≡ 0
from_nonnegative h = omega (arith, at_most_lem h)

-- below z is 0 here. A rule gives one statement, so the factor says that too, wherever above z is known
-- to be less than the factor
pub from_at_least : {z : ℤ} {n : ℕ} → pos n ≤ℤ z → n + 18446744073709551616 * below z ≤ above z
from_at_least h = omega (arith, at_most_lem h)

pub from_at_most : {z : ℤ} {n : ℕ} → z ≤ℤ pos n → above z ≤ n
from_at_most h = (at_most_lem h).aboves

pub from_at_least_minus : {z : ℤ} {n : ℕ} → negsuc n ≤ℤ z → below z ≤ suc n
from_at_least_minus h = (at_most_lem h).belows

pub from_≤ : {a b : ℤ} → a ≤ℤ b → above a + below b ≤ above b + below a
from_≤ h = omega (arith, at_most_lem h)

pub from_< : {a b : ℤ} → a <ℤ b → above a + below b < above b + below a
from_< h = (less_than h).less

pub from_≡ : {a b : ℤ} → a ≡ b → above a + below b ≡ above b + below a
from_≡ e = omega (arith, same e)

-- ---- rules that prove a goal

pub to_≤ : {a b : ℤ} → above a + below b ≤ above b + below a → a ≤ℤ b
to_≤ {a = pos a} {b = pos b} h = record { le = le→leb a b (omega arith) }
to_≤ {a = pos a} {b = negsuc b} h = absurd (omega arith)
to_≤ {a = negsuc a} {b = pos b} h = record { le = tt }
to_≤ {a = negsuc a} {b = negsuc b} h = record { le = le→leb b a (omega arith) }

pub to_< : {a b : ℤ} → above a + below b < above b + below a → a <ℤ b
to_< {a = pos a} {b = pos b} h = record { lt = lt→ltb a b (omega arith) }
to_< {a = pos a} {b = negsuc b} h = absurd (omega arith)
to_< {a = negsuc a} {b = pos b} h = record { lt = tt }
to_< {a = negsuc a} {b = negsuc b} h = record { lt = lt→ltb b a (omega arith) }

pub to_≡ : {a b : ℤ} → above a + below b ≡ above b + below a → a ≡ b
to_≡ {a = pos a} {b = pos b} h = ap pos (omega arith)
to_≡ {a = pos a} {b = negsuc b} h = absurd (omega arith)
to_≡ {a = negsuc a} {b = pos b} h = absurd (omega arith)
to_≡ {a = negsuc a} {b = negsuc b} h = ap negsuc (omega arith)

-- a cast to an unsigned type asks this
pub to_nonnegative : (z : ℤ) → below z ≤ above z → T (non_neg z)
to_nonnegative (pos n) h = tt
to_nonnegative (negsuc n) h = absurd (omega arith)

-- ---- a test's flag, read and proved

nle_lt : (a b : ℤ) → T (not (le_z a b)) → b <ℤ a
nle_lt (pos a) (pos b) t = to_< (omega (arith, nleb→lt a b t))
nle_lt (pos a) (negsuc b) t = to_< (omega arith)
nle_lt (negsuc a) (pos b) t = absurd t
nle_lt (negsuc a) (negsuc b) t = to_< (omega (arith, nleb→lt b a t))

pub lt_z-true : (a b : ℤ) → lt_z a b ≡ true → above a + below b < above b + below a
lt_z-true a b e = (lt_parts a b (subst T (sym e) tt)).less

pub lt_z-false : (a b : ℤ) → lt_z a b ≡ false → above b + below a ≤ above a + below b
lt_z-false a b e = from_≤ (Signed.lt_z_no {a = a} {b = b} (subst (λ (t : Bool). T (not t)) (sym e) tt))

pub le_z-true : (a b : ℤ) → le_z a b ≡ true → above a + below b ≤ above b + below a
le_z-true a b e = omega (arith, le_parts a b (subst T (sym e) tt))

pub le_z-false : (a b : ℤ) → le_z a b ≡ false → above b + below a < above a + below b
le_z-false a b e = from_< (nle_lt a b (subst (λ (t : Bool). T (not t)) (sym e) tt))

is_true : (t : Bool) → T t → t ≡ true
is_true true h = refl
is_true false h = absurd h

is_false : (t : Bool) → (t ≡ true → ⊥) → t ≡ false
is_false true h = absurd (h refl)
is_false false h = refl

pub true-lt_z : (a b : ℤ) → above a + below b < above b + below a → lt_z a b ≡ true
true-lt_z a b h = is_true (lt_z a b) (to_< {a = a} {b = b} h).lt

pub true-le_z : (a b : ℤ) → above a + below b ≤ above b + below a → le_z a b ≡ true
true-le_z a b h = is_true (le_z a b) (to_≤ {a = a} {b = b} h).le

pub false-lt_z : (a b : ℤ) → above b + below a ≤ above a + below b → lt_z a b ≡ false
false-lt_z a b h = is_false (lt_z a b) (λ e. omega (arith, lt_z-true a b e))

pub false-le_z : (a b : ℤ) → above b + below a < above a + below b → le_z a b ≡ false
false-le_z a b h = is_false (le_z a b) (λ e. omega (arith, le_z-true a b e))

pub ruleset integers = (
  from_nonnegative,
  from_at_least,
  from_at_most,
  from_at_least_minus,
  from_≤,
  from_<,
  from_≡,
  lt_z-true,
  lt_z-false,
  le_z-true,
  le_z-false,
  to_≤,
  to_<,
  to_≡,
  to_nonnegative,
  true-lt_z,
  false-lt_z,
  true-le_z,
  false-le_z,
)
