-- A test of each number of a short range.
use Rattle.std.specs.Prelude.{◌≡◌, Bool, true, ◌&&◌}
use Rattle.std.proofs.Math.Path.{refl}
use Rattle.std.proofs.Common.{subst, ⊎_elim, eq-or-lt_of_le, ap, ◌∙◌, add-one}
use Rattle.std.specs.List.{list_all, range_with_len}
use Prim.Native.Nat.{ℕ, zero, suc, ◌+◌, ◌-◌, ◌≤◌, ◌<◌}
use native.Mathlib.Omega.{arith}
use Rattle.integers.specs.Choice.{both}

-- a test that holds at so many numbers from `first` on
unfoldable pub every : (ℕ → Bool) → ℕ → ℕ → Bool
every test first zero = true
every test first (suc many) = test first && every test (suc first) many

pub tested_in : (test : ℕ → Bool) (many first n : ℕ) → every test first many ≡ true → first ≤ n → n < first + many → test n ≡ true
unfolding every
tested_in test zero first n e h l = absurd (omega arith)
tested_in test (suc many) first n e h l =
    let now = both (test first) (every test (suc first) many) e in
    ⊎_elim (λ q. subst (λ (m : ℕ). test m ≡ true) q now.0) (λ m. tested_in test many (suc first) n now.1 m (omega arith))
    (eq-or-lt_of_le h)

pub every_of : (test : ℕ → Bool) (many first : ℕ) → ((n : ℕ) → first ≤ n → n < first + many → test n ≡ true) → every test first many ≡ true
unfolding every
every_of test zero first f = refl
every_of test (suc many) first f =
    rw (f first (omega arith) (omega arith)) (every_of test many (suc first) (λ n h l. f n (omega arith) (omega arith)))

-- what `all` of the numbers gives
pub every_is : (test : ℕ → Bool) (first many : ℕ) → list_all test (range_with_len first many) ≡ every test first many
unfolding every
every_is test first zero = refl
every_is test first (suc many) =
    ap (λ (others : Bool). test first && others)
    (ap (λ (n : ℕ). list_all test (range_with_len n many)) (add-one first) ∙ every_is test (suc first) many)
