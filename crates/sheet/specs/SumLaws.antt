-- The greatest and the least sum that PVs can have, as one more PV comes.
use Rattle.std.specs.Prelude.{◌⊎◌, ◌≡◌, ℕ, suc, ◌+◌, ◌*◌, ◌≤◌, ◌<◌, ℤ, pos, neg_ℤ, nat_abs, ◌+ℤ◌, ◌-ℤ◌, ◌*ℤ◌, ◌≤ℤ◌, ◌<ℤ◌}
use Rattle.std.proofs.Common.{inl, inr, mul-le-mul_right, arith}
use Rattle.std.specs.Int.Signed.{mag}
use Rattle.integers.specs.Operations.{number, known, sum, difference, product}
use Rattle.integers.specs.Parts.{above, below, integers, apart}
use Rattle.sheet.specs.declared.Bound.{Bound}
use Rattle.sheet.specs.declared.Bound.TheVariants.{Greatest, Least}

-- the bound with `more` scans besides one, `earlier` of which are short of the extreme
abbrev pub reach : Bound → ℤ → ℤ → ℕ → ℕ → ℤ
reach Greatest here other more earlier = (here *ℤ pos more) +ℤ other -ℤ pos earlier
reach Least here other more earlier = (here *ℤ pos more) +ℤ other +ℤ pos earlier

-- not beyond a bound, and on its inner side
abbrev pub Within : Bound → ℤ → ℤ → Type 0
Within Greatest x y = x ≤ℤ y
Within Least x y = y ≤ℤ x

abbrev pub Inside : Bound → ℤ → ℤ → Type 0
Inside Greatest x y = x <ℤ y
Inside Least x y = y <ℤ x

-- ---- what omega is told of a bound

pub lowered : (here other : ℤ) (more earlier : ℕ) → let z = reach Greatest here other more earlier in
    above z + (below here * more + below other + earlier) ≡ below z + (above here * more + above other)
lowered here other more earlier =
    let a = here *ℤ pos more in omega (arith, sum a other, difference (a +ℤ other) (pos earlier), product here (pos more))

pub raised : (here other : ℤ) (more earlier : ℕ) → let z = reach Least here other more earlier in
    above z + (below here * more + below other) ≡ below z + (above here * more + above other + earlier)
raised here other more earlier =
    let a = here *ℤ pos more in omega (arith, sum a other, sum (a +ℤ other) (pos earlier), product here (pos more))

-- ---- one more PV

-- one that isn't beyond the extreme
pub stays : (b : Bound) (here other s x : ℤ) (more earlier : ℕ) →
    Within b s (reach b here other more earlier) → Within b x here → Within b (s +ℤ x) (reach b here other (suc more) earlier)
stays Greatest here other s x more earlier h k =
    omega (arith, integers, sum s x, lowered here other more earlier, lowered here other (suc more) earlier)
stays Least here other s x more earlier h k =
    omega (arith, integers, sum s x, raised here other more earlier, raised here other (suc more) earlier)

-- one that is beyond the extreme: all before it are short of it, but for the first of the other extreme
pub passed : (b : Bound) (here other s x : ℤ) (more earlier : ℕ) →
    Within b s (reach b here other more earlier) → Inside b here x → Within b (s +ℤ x) (reach b x other (suc more) more)
passed Greatest here other s x more earlier h k =
    let step : suc (above here + below x) ≤ above x + below here = omega (arith, integers) in
    omega (arith, integers, sum s x, lowered here other more earlier, lowered x other (suc more) more, mul-le-mul_right more step)
passed Least here other s x more earlier h k =
    let step : suc (above x + below here) ≤ above here + below x = omega (arith, integers) in
    omega (arith, integers, sum s x, raised here other more earlier, raised x other (suc more) more, mul-le-mul_right more step)

-- one that becomes the other extreme: then `last` are short of this one, where `earlier` were
pub other_passed : (b : Bound) (here other s x : ℤ) (more earlier last : ℕ) →
    Within b s (reach b here other more earlier) → Within b (reach b (pos 0) other 0 earlier) (reach b (pos 0) here 0 last) →
    Within b (s +ℤ x) (reach b here x (suc more) last)
other_passed Greatest here other s x more earlier last h k =
    omega (
      arith,
      integers,
      sum s x,
      lowered here other more earlier,
      lowered here x (suc more) last,
      lowered (pos 0) other 0 earlier,
      lowered (pos 0) here 0 last,
    )
other_passed Least here other s x more earlier last h k =
    omega (
      arith,
      integers,
      sum s x,
      raised here other more earlier,
      raised here x (suc more) last,
      raised (pos 0) other 0 earlier,
      raised (pos 0) here 0 last,
    )

-- ---- what fits 64 bits

-- a PV has 32 bits
pub record Held (pv : ℤ) : Type 0 where
  pub least : neg_ℤ (pos 2147483648) ≤ℤ pv
  pub most : pv ≤ℤ pos 2147483647

pub held_by : (pv : ℤ) → mag pv < 2147483648 → Held pv
held_by pv h = record { least = omega (arith, integers, known pv); most = omega (arith, integers, known pv) }

most_above : (pv : ℤ) → Held pv → above pv ≤ 2147483647
most_above pv h = omega (arith, integers, h.most)

most_below : (pv : ℤ) → Held pv → below pv ≤ 2147483648
most_below pv h = omega (arith, integers, h.least)

pub held_size : (pv : ℤ) → Held pv → nat_abs pv ≤ 2147483648
held_size pv h = omega (arith, integers, h.least, h.most, number pv, apart pv)

-- a number that is p - q, by a balance as above
balanced : (z : ℤ) (p q n : ℕ) → above z + q ≡ below z + p → p ≤ n + q → q ≤ n + p → nat_abs z ≤ n
balanced z p q n e h k = omega (arith, number z, apart z)

-- a bound, where it is one: with none short of the extreme, or with the other extreme inside it
pub reach_fits : (b : Bound) (here other : ℤ) (more earlier : ℕ) → earlier ≤ more → Held here → Held other →
    (earlier ≡ 0) ⊎ Inside b other here → nat_abs (reach b here other more earlier) ≤ 2147483648 * suc more
reach_fits Greatest here other more earlier e h k short =
    balanced (reach Greatest here other more earlier) (above here * more + above other) (below here * more + below other + earlier)
    (2147483648 * suc more) (lowered here other more earlier)
    (let most = mul-le-mul_right more (most_above here h) in omega (arith, most_above other k))
    (below_most short)
  where
    below_most : (earlier ≡ 0) ⊎ Inside Greatest other here →
        below here * more + below other + earlier ≤ 2147483648 * suc more + (above here * more + above other)
    below_most (inl none) = let most = mul-le-mul_right more (most_below here h) in omega (arith, most_below other k)
    below_most (inr inside) =
        let less : below here ≤ 2147483647 = omega (arith, integers, most_below other k, apart here, apart other) in
        let most = mul-le-mul_right more less in
        omega (arith, most_below other k)
reach_fits Least here other more earlier e h k short =
    balanced (reach Least here other more earlier) (above here * more + above other + earlier) (below here * more + below other)
    (2147483648 * suc more) (raised here other more earlier)
    (let most = mul-le-mul_right more (most_above here h) in omega (arith, most_above other k))
    (let most = mul-le-mul_right more (most_below here h) in omega (arith, most_below other k))

-- a sum between the two bounds
pub sum_fits : (most least s : ℤ) (more first last : ℕ) → Held most → Held least → s ≤ℤ reach Greatest most least more first →
    reach Least least most more last ≤ℤ s → nat_abs s ≤ 2147483648 * suc more
sum_fits most least s more first last h k upper lower =
    let above_most = mul-le-mul_right more (most_above most h) in
    let below_most = mul-le-mul_right more (most_below least k) in
    balanced s (above s) (below s) (2147483648 * suc more) (omega arith)
    (omega (arith, integers, lowered most least more first, most_above least k, upper))
    (omega (arith, integers, raised least most more last, most_below most h, lower))
