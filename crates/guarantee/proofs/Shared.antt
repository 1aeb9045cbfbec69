-- The rules' words mean what the claim says of them.
use mathlib.Core.Path.{◌≡◌, refl, ap}
use mathlib.Core.Bool.{true, false}
use Prim.Native.Nat.{ℕ, ◌/◌, ◌%◌, ◌^◌, ◌<◌}
use native.Mathlib.Nat.{mul-pos, mul-le-mul_right}
use native.Mathlib.Omega.{arith}
use lib.Dec.{eqb}
use lib.IntN.{ℤ, pos, ◌*ℤ◌}
use lib.ListN.{get_or}
use lib.Signed.{lt_z, ◌≤ℤ◌, ◌<ℤ◌}
use Rattle.integers.specs.Limit as value
use Rattle.integers.specs.Limit.{limited_same}
use Rattle.integers.specs.Listed.{listed, listed_same}
use Rattle.integers.specs.Parts.{integers, at_most_lem}
use Rattle.integers.specs.Split.{split_self, split_times}
use Rattle.terms.specs.Fraction.{whole, plus, at_least, at_most, limited}
use Rattle.guarantee.specs.Shared.{weights, Bits, Is, LimitedValues, Sums, LimitedFractions, SharedWords}

less_is : (a b : ℤ) → a <ℤ b → lt_z a b ≡ true
less_is a b h = omega (arith, integers)

not_less_is : (a b : ℤ) → b ≤ℤ a → lt_z a b ≡ false
not_less_is a b h = omega (arith, integers)

pub limited_values : LimitedValues
unfolding value.limited value.at_least value.at_most
limited_values low high x order =
    record {
      below = λ h. rw (less_is x low h, not_less_is high low order) refl;
      above = λ h. rw (not_less_is x low (omega (arith, integers)), less_is high x h) refl;
      within = limited_same low high x;
    }

-- what a bit counts for is a power of two, in each of the 16 places
weight_is : (number : ℕ) → number < 16 → 2 ^ number ≡ get_or weights number 0
unfolding listed
weight_is number h = listed_same (λ n. 2 ^ n) (λ n. get_or weights n 0) 0 16 number refl (omega arith) h

bits : Bits
bits word number h = ap (λ (n : ℕ). eqb (word / n % 2) 1) (weight_is number h)

-- ---- fractions

crosswise_sum : Sums
unfolding plus
crosswise_sum f g h k = record { positive = mul-pos h k; crosswise = refl }

-- an order stays where both sides are taken so many times
times_order : (a b : ℤ) (n : ℕ) → a ≤ℤ b → (a *ℤ pos n) ≤ℤ (b *ℤ pos n)
times_order a b n h =
    omega (
      arith,
      integers,
      split_times a n (split_self a),
      split_times b n (split_self b),
      mul-le-mul_right n (at_most_lem h).aboves,
      mul-le-mul_right n (at_most_lem h).belows,
    )

whole_is : (units : ℤ) → Is (whole units) units 1
unfolding whole
whole_is units = record { positive = omega arith; crosswise = refl }

limited_fractions : LimitedFractions
unfolding limited at_least at_most whole
limited_fractions low high f order some =
    let d = f.denominator in
    let n = f.numerator in
    record {
      below = λ h.
          let kept : lt_z (high *ℤ pos 1) low ≡ false =
          not_less_is (high *ℤ pos 1) low (omega (arith, integers, split_times high 1 (split_self high))) in
          rw (less_is n (low *ℤ pos d) h) (rw kept (whole_is low));
      above = λ h.
          let kept = not_less_is n (low *ℤ pos d) (omega (arith, integers, times_order low high d order)) in
          rw kept (rw (less_is (high *ℤ pos d) n h) (whole_is high));
      within = λ h k. rw (not_less_is n (low *ℤ pos d) h) (rw (not_less_is (high *ℤ pos d) n k) refl);
    }

pub shared_words : SharedWords
shared_words =
    record {
      choices = λ A x y. (refl, refl);
      bits = bits;
      limited_values = limited_values;
      wholes = whole_is;
      sums = crosswise_sum;
      limited_fractions = limited_fractions;
      accepted_answers = record {
        scans = λ v. refl;
        reads = λ v. refl;
        others = refl;
        numbered = λ n. (refl, refl);
        scanned = λ r. refl;
        called = λ r. refl;
      };
    }
