-- An integer limited to low..high.
use Rattle.std.specs.Prelude.{◌≡◌, refl, cond, ℤ, ◌≤ℤ◌}
use Rattle.std.proofs.Common.{arith}
use Rattle.std.specs.Int.Signed.{lt_z}
use Rattle.integers.specs.Choice.{by_cases}
use Rattle.integers.specs.Parts.{integers}

unfoldable pub at_least : ℤ → ℤ → ℤ
at_least low x = cond (lt_z x low) low x

unfoldable pub at_most : ℤ → ℤ → ℤ
at_most high x = cond (lt_z high x) high x

-- x, but low where x is below low, and high where it is above high
unfoldable pub limited : ℤ → ℤ → ℤ → ℤ
limited low high x = at_most high (at_least low x)

pub at_least-low : (low x : ℤ) → low ≤ℤ at_least low x
unfolding at_least
at_least-low low x = by_cases (λ r. low ≤ℤ r) (lt_z x low) low x (λ e. omega (arith, integers)) (λ e. omega (arith, integers))

pub limited_low : (low high x : ℤ) → low ≤ℤ high → low ≤ℤ limited low high x
unfolding limited at_most
limited_low low high x h = by_cases (λ r. low ≤ℤ r) (lt_z high (at_least low x)) high (at_least low x) (λ e. h) (λ e. at_least-low low x)

pub limited_high : (low high x : ℤ) → limited low high x ≤ℤ high
unfolding limited at_most
limited_high low high x =
    by_cases (λ r. r ≤ℤ high) (lt_z high (at_least low x)) high (at_least low x) (λ e. omega (arith, integers))
    (λ e. omega (arith, integers))

-- a value within its limits is kept
pub limited_same : (low high x : ℤ) → low ≤ℤ x → x ≤ℤ high → limited low high x ≡ x
unfolding limited at_most at_least
limited_same low high x h k =
    by_cases (λ r. cond (lt_z high r) high r ≡ x) (lt_z x low) low x (λ e. absurd (omega (arith, integers)))
    (λ e. by_cases (λ r. r ≡ x) (lt_z high x) high x (λ f. omega (arith, integers)) (λ f. refl))
