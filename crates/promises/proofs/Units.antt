-- Limited in units, then stored, or stored, then limited: the same.
use Rattle.std.specs.Prelude.{if◌then◌else◌}
use mathlib.Core.Path.{◌≡◌, refl, ap, ◌∙◌}
use mathlib.Core.Bool.{Bool, true, false}
use Prim.Native.Nat.{ℕ}
use native.Mathlib.Omega.{arith}
use lib.IntN.{ℤ, pos, ◌*ℤ◌}
use lib.Signed.{◌≤ℤ◌, lt_z}
use Rattle.integers.specs.Limit.{limited, at_least, at_most, limited_same}
use Rattle.integers.specs.Operations.{product}
use Rattle.integers.specs.Parts.{integers}
use Rattle.parameters.specs.Legal.{Legal}
use Rattle.parameters.specs.LegalLaws.{ranges}
use Rattle.parameters.specs.Table.{LO, HO}
use Rattle.parameters.specs.declared.Parameters.{Parameters}
use Rattle.terms.specs.Fraction.{stored_units, limited_stored}

scaled_less : (a b : ℤ) → lt_z (a *ℤ pos 65536) (b *ℤ pos 65536) ≡ lt_z a b
scaled_less a b = go (lt_z a b) refl
  where
    go : (t : Bool) → lt_z a b ≡ t → lt_z (a *ℤ pos 65536) (b *ℤ pos 65536) ≡ lt_z a b
    go true e = rw e (omega (arith, integers, e, product a (pos 65536), product b (pos 65536)))
    go false e = rw e (omega (arith, integers, e, product a (pos 65536), product b (pos 65536)))

pulled : (t : Bool) (a b : ℤ) → (if t then a *ℤ pos 65536 else b *ℤ pos 65536) ≡ (if t then a else b) *ℤ pos 65536
pulled true a b = refl
pulled false a b = refl

units_limited : (low high x : ℤ) → limited_stored low high (stored_units x) ≡ limited low high x *ℤ pos 65536
unfolding limited_stored stored_units limited at_least at_most
units_limited low high x =
    let z = if lt_z x low then low else x in
    rw (scaled_less x low, pulled (lt_z x low) low x, scaled_less high z, pulled (lt_z high z) high z) refl

-- minimum lies within the limits, and OP is limited
pub to_output : (p : Parameters) → Legal p → (on inverted : Bool) (op : ℕ) →
    limited_stored (LO p) (HO p) (stored_units (if on then (if inverted then HO p else LO p) else pos op))
    ≡ (if on then (if inverted then HO p else LO p) else limited (LO p) (HO p) (pos op)) *ℤ pos 65536
to_output p legal on inverted op = let order = (ranges p legal).outputs.order in go on inverted order
  where
    go : (a b : Bool) → LO p ≤ℤ HO p →
        limited_stored (LO p) (HO p) (stored_units (if a then (if b then HO p else LO p) else pos op))
        ≡ (if a then (if b then HO p else LO p) else limited (LO p) (HO p) (pos op)) *ℤ pos 65536
    go true true h =
        units_limited (LO p) (HO p) (HO p) ∙ ap (λ (z : ℤ). z *ℤ pos 65536) (limited_same (LO p) (HO p) (HO p) h (omega (arith, integers)))
    go true false h =
        units_limited (LO p) (HO p) (LO p) ∙ ap (λ (z : ℤ). z *ℤ pos 65536) (limited_same (LO p) (HO p) (LO p) (omega (arith, integers)) h)
    go false b h = units_limited (LO p) (HO p) (pos op)
