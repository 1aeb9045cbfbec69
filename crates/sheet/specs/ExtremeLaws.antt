-- Extremes and a sum that scans can have given stay so with one more scan. A law that holds of both extremes is stated
-- of one, `here`, and the other.
use Rattle.std.specs.Prelude.{◌⊎◌, ◌≡◌, refl, Bool, true, false, cond, ℕ, suc, ◌-◌, ◌*◌, ◌≤◌, ◌<◌, ltb, ℤ, pos, nat_abs, ◌+ℤ◌, ◌-ℤ◌, ◌*ℤ◌}
use Rattle.std.proofs.Common.{inl, inr, sym, subst, arith, ltb-true, lt-ltb, le-ltb}
use Rattle.std.specs.Int.Signed.{mag}
use Rattle.integers.specs.Choice.{by_cases}
use Rattle.integers.specs.Operations.{number, bounded, sum_size, nat_abs-product}
use Rattle.integers.specs.Parts.{integers}
use Rattle.sheet.specs.SumLaws.{reach, Within, Inside, Held, held_size, reach_fits, lowered, raised, stays, passed, other_passed}
use Rattle.sheet.specs.Valid.{scans_before, sum_bound}
use Rattle.sheet.specs.declared.Bound.{Bound}
use Rattle.sheet.specs.declared.Bound.TheVariants.{Greatest, Least}
use Rattle.sheet.specs.declared.Occurrence.{Occurrence}

-- ---- the scans before a number

pub before_latest : (other more : ℕ) → other ≤ suc more → scans_before (suc (suc more)) other ≡ more
unfolding scans_before
before_latest other more h = rw (lt-ltb other (suc (suc more)) (omega arith)) (omega arith)

pub before_later : (here more : ℕ) → here ≤ suc more → scans_before here (suc (suc more)) ≡ here - 1
unfolding scans_before
before_later here more h = rw (le-ltb (suc (suc more)) here (omega arith)) refl

pub before_most : (here other more : ℕ) → 1 ≤ here → here ≤ suc more → scans_before here other ≤ more
unfolding scans_before
before_most here other more h k =
    by_cases (λ (n : ℕ). n ≤ more) (ltb other here) (here - 2) (here - 1) (λ e. omega arith) (λ e. omega arith)

-- ---- extremes that scans can have given

abbrev pub opposite : Bound → Bound
opposite Greatest = Least
opposite Least = Greatest

-- what the first scan of all was
pub data FirstScan (b : Bound) (here other : Occurrence) : Type 0 where
  at_here : here.number ≡ 1 → FirstScan b here other
  at_other : other.number ≡ 1 → FirstScan b here other
  between : (pv : ℤ) → Inside b other.pv pv → Inside b pv here.pv → FirstScan b here other

pub data Order (b : Bound) (here other : Occurrence) : Type 0 where
  different : Inside b other.pv here.pv → (here.number ≡ other.number → ⊥) → FirstScan b here other → Order b here other
  equal : other.pv ≡ here.pv → here.number ≡ 1 → other.number ≡ 1 → Order b here other

-- what a bound of the sum is asked of
pub record Bounded (b : Bound) (scans : ℕ) (here other : Occurrence) : Type 0 where
  pub from : 1 ≤ here.number
  pub to : here.number ≤ scans
  pub other_from : 1 ≤ other.number
  pub held : Held here.pv
  pub other_held : Held other.pv
  pub order : Order b here other

-- one scan, and `more` besides
pub record Possible (b : Bound) (more : ℕ) (here other : Occurrence) (s : ℤ) : Type 0 where
  pub here_from : 1 ≤ here.number
  pub here_to : here.number ≤ suc more
  pub other_from : 1 ≤ other.number
  pub other_to : other.number ≤ suc more
  pub here_held : Held here.pv
  pub other_held : Held other.pv
  pub order : Order b here other
  pub sum_here : Within b s (reach b here.pv other.pv more (scans_before here.number other.number))
  pub sum_other :
      Within (opposite b) s (reach (opposite b) other.pv here.pv more (scans_before other.number here.number))

-- ---- a bound of the sum fits 64 bits, and so do the steps to it

pub times_fits : (here : ℤ) (scans : ℕ) → Held here → scans ≤ 4294967295 → nat_abs here * (scans - 1) < 9223372036854775808
times_fits here scans h few =
    let more : scans - 1 ≤ 4294967294 = omega arith in
    omega (arith, bounded 2147483648 4294967294 (held_size here h) more)

pub sum_of_fits : (here other : ℤ) (scans : ℕ) → Held here → Held other → scans ≤ 4294967295 →
    mag ((here *ℤ pos (scans - 1)) +ℤ other) < 9223372036854775808
sum_of_fits here other scans h k few =
    let more : scans - 1 ≤ 4294967294 = omega arith in
    let most = bounded 2147483648 4294967294 (held_size here h) more in
    let size : nat_abs (here *ℤ pos (scans - 1)) ≡ nat_abs here * (scans - 1) = nat_abs-product here (pos (scans - 1)) in
    omega (arith, sum_size (here *ℤ pos (scans - 1)) other, held_size other k)

none_short : (b : Bound) (here other : Occurrence) → Order b here other → (scans_before here.number other.number ≡ 0) ⊎
    Inside b other.pv here.pv
unfolding scans_before
none_short b here other (different i d first) = inr i
none_short b here other (equal e n m) = inl (rw (n, m) refl)

pub bound_fits : (b : Bound) (scans : ℕ) (here other : Occurrence) → Bounded b scans here other → scans ≤ 4294967295 →
    mag (sum_bound b scans here other) < 9223372036854775808
unfolding sum_bound
bound_fits Greatest scans here other p few =
    let z = (here.pv *ℤ pos (scans - 1)) +ℤ other.pv -ℤ pos (scans_before here.number other.number) in
    let size = reach_fits Greatest here.pv other.pv (scans - 1) (scans_before here.number other.number)
    (before_most here.number other.number (scans - 1) p.from (omega (arith, p.to, p.from))) p.held p.other_held
    (none_short Greatest here other p.order) in
    omega (arith, number z, size, p.from, p.to)
bound_fits Least scans here other p few =
    let z = (here.pv *ℤ pos (scans - 1)) +ℤ other.pv +ℤ pos (scans_before here.number other.number) in
    let size = reach_fits Least here.pv other.pv (scans - 1) (scans_before here.number other.number)
    (before_most here.number other.number (scans - 1) p.from (omega (arith, p.to, p.from))) p.held p.other_held
    (none_short Least here other p.order) in
    omega (arith, number z, size, p.from, p.to)

-- ---- seen from the other extreme

pub order_turned : (b : Bound) (here other : Occurrence) → Order b here other → Order (opposite b) other here
order_turned Greatest here other (different i n (at_here e)) = different i (λ q. n (sym q)) (at_other e)
order_turned Greatest here other (different i n (at_other e)) = different i (λ q. n (sym q)) (at_here e)
order_turned Greatest here other (different i n (between pv u v)) = different i (λ q. n (sym q)) (between pv v u)
order_turned Least here other (different i n (at_here e)) = different i (λ q. n (sym q)) (at_other e)
order_turned Least here other (different i n (at_other e)) = different i (λ q. n (sym q)) (at_here e)
order_turned Least here other (different i n (between pv u v)) = different i (λ q. n (sym q)) (between pv v u)
order_turned b here other (equal e n m) = equal (sym e) m n

pub turned : (b : Bound) (more : ℕ) (here other : Occurrence) (s : ℤ) → Possible b more here other s →
    Possible (opposite b) more other here s
turned b more here other s p =
    record {
      here_from = p.other_from;
      here_to = p.other_to;
      other_from = p.here_from;
      other_to = p.here_to;
      here_held = p.other_held;
      other_held = p.here_held;
      order = order_turned b here other p.order;
      sum_here = p.sum_other;
      sum_other = back b p.sum_here;
    }
  where
    back : (b : Bound) → Within b s (reach b here.pv other.pv more (scans_before here.number other.number)) →
        Within (opposite (opposite b)) s
        (reach (opposite (opposite b)) here.pv other.pv more (scans_before here.number other.number))
    back Greatest h = h
    back Least h = h

-- ---- one more scan

-- its PV is beyond neither
pub within_both : (b : Bound) (more : ℕ) (here other : Occurrence) (s x : ℤ) → Possible b more here other s →
    Within b x here.pv → Within (opposite b) x other.pv → Possible b (suc more) here other (s +ℤ x)
within_both b more here other s x p h k =
    record {
      here_from = p.here_from;
      here_to = omega (arith, p.here_to);
      other_from = p.other_from;
      other_to = omega (arith, p.other_to);
      here_held = p.here_held;
      other_held = p.other_held;
      order = p.order;
      sum_here = stays b here.pv other.pv s x more _ p.sum_here h;
      sum_other = stays (opposite b) other.pv here.pv s x more _ p.sum_other k;
    }

-- The scans before the other extreme that are short of it were one fewer where this extreme is one of them; then the
-- two PVs differ
short : (b : Bound) (here other : Occurrence) → Order b here other → 1 ≤ other.number → 1 ≤ here.number →
    Within (opposite b) (reach (opposite b) (pos 0) here.pv 0 (scans_before other.number here.number))
    (reach (opposite b) (pos 0) other.pv 0 (other.number - 1))
unfolding scans_before
short b here other o f g = go b o (ltb here.number other.number) refl
  where
    j : ℕ
    j = other.number

    go : (b : Bound) → Order b here other → (t : Bool) → ltb here.number other.number ≡ t →
        Within (opposite b) (reach (opposite b) (pos 0) here.pv 0 (cond t (other.number - 2) (other.number - 1)))
        (reach (opposite b) (pos 0) other.pv 0 (other.number - 1))
    go Greatest (different i d first) true e =
        let l = ltb-true here.number j e in
        omega (arith, integers, raised (pos 0) here.pv 0 (j - 2), raised (pos 0) other.pv 0 (j - 1), i)
    go Greatest (different i d first) false e =
        omega (arith, integers, raised (pos 0) here.pv 0 (j - 1), raised (pos 0) other.pv 0 (j - 1), i)
    go Least (different i d first) true e =
        let l = ltb-true here.number j e in
        omega (arith, integers, lowered (pos 0) here.pv 0 (j - 2), lowered (pos 0) other.pv 0 (j - 1), i)
    go Least (different i d first) false e =
        omega (arith, integers, lowered (pos 0) here.pv 0 (j - 1), lowered (pos 0) other.pv 0 (j - 1), i)
    go b (equal q u v) true e = let l = ltb-true here.number j e in absurd (omega arith)
    go Greatest (equal q u v) false e =
        omega (arith, integers, raised (pos 0) here.pv 0 (j - 1), raised (pos 0) other.pv 0 (j - 1), q)
    go Least (equal q u v) false e =
        omega (arith, integers, lowered (pos 0) here.pv 0 (j - 1), lowered (pos 0) other.pv 0 (j - 1), q)

inside_trans : (b : Bound) (x y z : ℤ) → Inside b x y → Inside b y z → Inside b x z
inside_trans Greatest x y z h k = omega (arith, integers, h, k)
inside_trans Least x y z h k = omega (arith, integers, h, k)

order_beyond : (b : Bound) (here other : Occurrence) (x : ℤ) (n : ℕ) → Order b here other → other.number < n → Inside b here.pv x →
    Order b (record { pv = x; number = n }) other
order_beyond b here other x n (different i d first) l h =
    different (inside_trans b _ _ _ i h) (λ e. omega arith) (between here.pv i h)
order_beyond b here other x n (equal e u v) l h =
    different (subst (λ (z : ℤ). Inside b z x) (sym e) h) (λ e. omega arith) (at_other v)

-- its PV is beyond this extreme, and becomes it
pub beyond : (b : Bound) (more : ℕ) (here other : Occurrence) (s x : ℤ) → Possible b more here other s → Held x →
    Inside b here.pv x → Possible b (suc more) (record { pv = x; number = suc (suc more) }) other (s +ℤ x)
beyond b more here other s x p held h =
    record {
      here_from = omega arith;
      here_to = omega arith;
      other_from = p.other_from;
      other_to = omega (arith, p.other_to);
      here_held = held;
      other_held = p.other_held;
      order = order_beyond b here other x (suc (suc more)) p.order (omega (arith, p.other_to)) h;
      sum_here =
          subst (λ (n : ℕ). Within b (s +ℤ x) (reach b x other.pv (suc more) n)) (sym (before_latest other.number more p.other_to))
          (passed b here.pv other.pv s x more _ p.sum_here h);
      sum_other =
          subst (λ (n : ℕ). Within (opposite b) (s +ℤ x) (reach (opposite b) other.pv x (suc more) n))
          (sym (before_later other.number more p.other_to))
          (other_passed (opposite b) other.pv here.pv s x more _ _ p.sum_other
          (short b here other p.order p.other_from p.here_from));
    }
