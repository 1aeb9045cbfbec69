-- The tests of extremes and sum, read as laws; and extremes and sum after one more scan.
use Rattle.std.specs.Prelude.{Option, None, Some}
use Rattle.std.specs.Prelude.{◌⊎◌, ◌≡◌, refl, Bool, true, false, not, ◌&&◌, ◌||◌, ℕ, zero, suc, ◌+◌, ◌≤◌, ◌<◌, eqb, leb}
use Rattle.std.specs.Prelude.{ℤ, pos, neg_ℤ, ◌+ℤ◌}
use Rattle.std.specs.Prelude.{◌-ℤ◌, ◌*ℤ◌, ◌≤ℤ◌, if◌then◌else◌}
use Rattle.std.proofs.Common.{inl, inr, ⊎_elim, sym, ap, subst, arith, leb-true, le-leb, eqb-true, eq-eqb, ne_eqb}
use Rattle.std.specs.Int.Signed.{mag, le_z, lt_z}
use Rattle.std.proofs.lemmas.Bool.{eqb-false}
use Rattle.integers.specs.Choice.{both, never}
use Rattle.integers.specs.Operations.{sum, difference, product}
use Rattle.integers.specs.Parts.{integers}
use Rattle.sheet.specs.ExtremeLaws.{FirstScan, at_here, at_other, between, Order, different, equal, order_turned}
use Rattle.sheet.specs.ExtremeLaws.{Bounded, Possible, within_both, beyond, turned}
use Rattle.sheet.specs.Sheet.{extreme_after}
use Rattle.sheet.specs.SumLaws.{reach, Held, held_by}
use Rattle.sheet.specs.Valid.{is_occurrence, in_order, scans_before, sum_bound, is_possible, are_extremes}
use Rattle.sheet.specs.declared.Bound.{Bound}
use Rattle.sheet.specs.declared.Bound.TheVariants.{Greatest, Least}
use Rattle.sheet.specs.declared.Occurrence.{Occurrence}

-- ---- the tests, read

-- the number of a scan, and a PV
pub record Numbered (scans : ℕ) (first : Occurrence) : Type 0 where
  pub from : 1 ≤ first.number
  pub to : first.number ≤ scans
  pub held : Held first.pv

pub numbered : (scans : ℕ) (first : Occurrence) → is_occurrence scans first ≡ true → Numbered scans first
unfolding is_occurrence
numbered scans first e =
    let from = leb 1 first.number in
    let to = leb first.number scans in
    let least = le_z (neg_ℤ (pos 2147483648)) first.pv in
    let most = le_z first.pv (pos 2147483647) in
    let a = both (from && to && least) most e in
    let b = both (from && to) least a.0 in
    let c = both from to b.0 in
    record {
      from = leb-true 1 first.number c.0;
      to = leb-true first.number scans c.1;
      held = record { least = omega (arith, integers, b.1); most = omega (arith, integers, a.1) };
    }

pub numbered_is : (scans : ℕ) (first : Occurrence) → Numbered scans first → is_occurrence scans first ≡ true
unfolding is_occurrence
numbered_is scans first n =
    let least : le_z (neg_ℤ (pos 2147483648)) first.pv ≡ true = omega (arith, integers, n.held.least) in
    let most : le_z first.pv (pos 2147483647) ≡ true = omega (arith, integers, n.held.most) in
    rw (le-leb 1 first.number n.from, le-leb first.number scans n.to, least, most) refl

either : (a b : Bool) → a || b ≡ true → (a ≡ true) ⊎ (b ≡ true)
either true b e = inl refl
either false b e = inr e

is_not : (t : Bool) → not t ≡ true → t ≡ false
is_not true e = never e
is_not false e = refl

pub occurrence_by : (scans : ℕ) (first : Occurrence) → mag first.pv < 2147483648 →
    is_occurrence scans first ≡ leb 1 first.number && leb first.number scans
unfolding is_occurrence
occurrence_by scans first f =
    let h = held_by first.pv f in
    let least : le_z (neg_ℤ (pos 2147483648)) first.pv ≡ true = omega (arith, integers, h.least) in
    let most : le_z first.pv (pos 2147483647) ≡ true = omega (arith, integers, h.most) in
    rw (least, most) (all_true (leb 1 first.number && leb first.number scans))
  where
    all_true : (t : Bool) → t && true && true ≡ t
    all_true true = refl
    all_true false = refl

any_true : (a : Bool) → a || true ≡ true
any_true true = refl
any_true false = refl

or_true : (a b : Bool) → (a || true) || b ≡ true
or_true true b = refl
or_true false b = refl

pub order_of : (g l : Occurrence) → in_order g l ≡ true → Order Greatest g l
unfolding in_order
order_of g l = go (lt_z l.pv g.pv) refl
  where
    first_scan_lem : (eqb g.number 1 || eqb l.number 1) || lt_z (l.pv +ℤ pos 1) g.pv ≡ true → FirstScan Greatest g l
    first_scan_lem e =
        ⊎_elim
        (λ n. ⊎_elim (λ q. at_here (eqb-true g.number 1 q)) (λ q. at_other (eqb-true l.number 1 q))
        (either (eqb g.number 1) (eqb l.number 1) n))
        (λ q. between (l.pv +ℤ pos 1) (omega (arith, integers, sum l.pv (pos 1))) (omega (arith, integers, q)))
        (either (eqb g.number 1 || eqb l.number 1) (lt_z (l.pv +ℤ pos 1) g.pv) e)

    go : (t : Bool) → lt_z l.pv g.pv ≡ t →
        (if t then
        not (eqb g.number l.number) && ((eqb g.number 1 || eqb l.number 1) || lt_z (l.pv +ℤ pos 1) g.pv)
        else (le_z l.pv g.pv && eqb g.number 1 && eqb l.number 1)) ≡ true →
        Order Greatest g l
    go true q e =
        let a = both (not (eqb g.number l.number)) ((eqb g.number 1 || eqb l.number 1) || lt_z (l.pv +ℤ pos 1) g.pv) e in
        different (omega (arith, integers, q)) (eqb-false g.number l.number (is_not (eqb g.number l.number) a.0))
        (first_scan_lem a.1)
    go false q e =
        let a = both (le_z l.pv g.pv && eqb g.number 1) (eqb l.number 1) e in
        let b = both (le_z l.pv g.pv) (eqb g.number 1) a.0 in
        equal (omega (arith, integers, q, b.0)) (eqb-true g.number 1 b.1) (eqb-true l.number 1 a.1)

pub order_is : (g l : Occurrence) → Order Greatest g l → in_order g l ≡ true
unfolding in_order
order_is g l (different i d f) =
    let less : lt_z l.pv g.pv ≡ true = omega (arith, integers, i) in
    rw (less, ne_eqb g.number l.number d) (first_is f)
  where
    first_is : FirstScan Greatest g l → (eqb g.number 1 || eqb l.number 1) || lt_z (l.pv +ℤ pos 1) g.pv ≡ true
    first_is (at_here e) = rw (eq-eqb g.number 1 e) refl
    first_is (at_other e) = rw (eq-eqb l.number 1 e) (or_true (eqb g.number 1) (lt_z (l.pv +ℤ pos 1) g.pv))
    first_is (between pv u v) =
        let less : lt_z (l.pv +ℤ pos 1) g.pv ≡ true = omega (arith, integers, sum l.pv (pos 1), u, v) in
        rw less (any_true (eqb g.number 1 || eqb l.number 1))
order_is g l (equal e n m) =
    let not_less : lt_z l.pv g.pv ≡ false = omega (arith, integers, e) in
    let not_above : le_z l.pv g.pv ≡ true = omega (arith, integers, e) in
    rw (not_less, not_above, eq-eqb g.number 1 n, eq-eqb l.number 1 m) refl

-- ---- extremes and sum

-- extremes that are in order have bounds of the sum
pub bounded_greatest : (scans : ℕ) (g l : Occurrence) → is_occurrence scans g ≡ true → is_occurrence scans l ≡ true →
    in_order g l ≡ true → Bounded Greatest scans g l
bounded_greatest scans g l e f order =
    let n = numbered scans g e in
    let m = numbered scans l f in
    record { from = n.from; to = n.to; other_from = m.from; held = n.held; other_held = m.held; order = order_of g l order }

pub bounded_least : (scans : ℕ) (g l : Occurrence) → is_occurrence scans g ≡ true → is_occurrence scans l ≡ true →
    in_order g l ≡ true → Bounded Least scans l g
bounded_least scans g l e f order =
    let n = numbered scans g e in
    let m = numbered scans l f in
    let turned-order = order_turned Greatest g l (order_of g l order) in
    record { from = m.from; to = m.to; other_from = n.from; held = m.held; other_held = n.held; order = turned-order }

bound_is : (b : Bound) (more : ℕ) (here other : Occurrence) →
    sum_bound b (suc more) here other ≡ reach b here.pv other.pv more (scans_before here.number other.number)
unfolding sum_bound
bound_is Greatest more here other =
    ap (λ (n : ℕ). (here.pv *ℤ pos n) +ℤ other.pv -ℤ pos (scans_before here.number other.number)) (omega arith)
bound_is Least more here other =
    ap (λ (n : ℕ). (here.pv *ℤ pos n) +ℤ other.pv +ℤ pos (scans_before here.number other.number)) (omega arith)

pub possible_of : (more : ℕ) (g l : Occurrence) (s : ℤ) → is_possible (suc more) g l s ≡ true → Possible Greatest more g l s
unfolding is_possible
possible_of more g l s e =
    let scans = suc more in
    let lower = le_z (sum_bound Least scans l g) s in
    let upper = le_z s (sum_bound Greatest scans g l) in
    let a = both (is_occurrence scans g && is_occurrence scans l && in_order g l) (lower && upper) e in
    let b = both (is_occurrence scans g && is_occurrence scans l) (in_order g l) a.0 in
    let c = both (is_occurrence scans g) (is_occurrence scans l) b.0 in
    let d = both lower upper a.1 in
    let greatest = numbered scans g c.0 in
    let least = numbered scans l c.1 in
    record {
      here_from = greatest.from;
      here_to = greatest.to;
      other_from = least.from;
      other_to = least.to;
      here_held = greatest.held;
      other_held = least.held;
      order = order_of g l b.1;
      sum_here = subst (λ (z : ℤ). s ≤ℤ z) (bound_is Greatest more g l) (omega (arith, integers, d.1));
      sum_other = subst (λ (z : ℤ). z ≤ℤ s) (bound_is Least more l g) (omega (arith, integers, d.0));
    }

pub possible_is : (more : ℕ) (g l : Occurrence) (s : ℤ) → Possible Greatest more g l s → is_possible (suc more) g l s ≡ true
unfolding is_possible
possible_is more g l s p =
    let scans = suc more in
    let greatest : Numbered scans g = record { from = p.here_from; to = p.here_to; held = p.here_held } in
    let least : Numbered scans l = record { from = p.other_from; to = p.other_to; held = p.other_held } in
    let lower : le_z (sum_bound Least scans l g) s ≡ true =
    subst (λ (z : ℤ). le_z z s ≡ true) (sym (bound_is Least more l g)) (omega (arith, integers, p.sum_other)) in
    let upper : le_z s (sum_bound Greatest scans g l) ≡ true =
    subst (λ (z : ℤ). le_z s z ≡ true) (sym (bound_is Greatest more g l)) (omega (arith, integers, p.sum_here)) in
    rw (numbered_is scans g greatest, numbered_is scans l least, order_is g l p.order, lower, upper) refl

-- the first scan of a sheet
first_possible : (x : ℤ) → Held x → let first : Occurrence = record { pv = x; number = 1 } in Possible Greatest 0 first first (pos 0 +ℤ x)
unfolding scans_before
first_possible x h =
    record {
      here_from = omega arith;
      here_to = omega arith;
      other_from = omega arith;
      other_to = omega arith;
      here_held = h;
      other_held = h;
      order = equal refl refl refl;
      sum_here = omega (arith, integers, sum (pos 0) x, product x (pos 0), sum (x *ℤ pos 0) x, difference (x *ℤ pos 0 +ℤ x) (pos 0));
      sum_other = omega (arith, integers, sum (pos 0) x, product x (pos 0), sum (x *ℤ pos 0) x, sum (x *ℤ pos 0 +ℤ x) (pos 0));
    }

-- the least PV isn't above the greatest
in_order_lem : (g l : Occurrence) → Order Greatest g l → l.pv ≤ℤ g.pv
in_order_lem g l (different i d f) = omega (arith, integers, i)
in_order_lem g l (equal e n m) = omega (arith, integers, e)

possible_after : (more : ℕ) (g l : Occurrence) (s x : ℤ) → Possible Greatest more g l s → Held x →
    let latest : Occurrence = record { pv = x; number = suc (suc more) } in
    Possible Greatest (suc more) (if lt_z g.pv x then latest else g) (if lt_z x l.pv then latest else l) (s +ℤ x)
possible_after more g l s x p h = go (lt_z g.pv x) (lt_z x l.pv) refl refl
  where
    latest : Occurrence
    latest = record { pv = x; number = suc (suc more) }

    ordered : l.pv ≤ℤ g.pv
    ordered = in_order_lem g l p.order

    go : (u v : Bool) → lt_z g.pv x ≡ u → lt_z x l.pv ≡ v →
        Possible Greatest (suc more) (if u then latest else g) (if v then latest else l) (s +ℤ x)
    go true true d e = absurd (omega (arith, integers, d, e, ordered))
    go true false d e = beyond Greatest more g l s x p h (omega (arith, integers, d))
    go false true d e =
        turned Least (suc more) latest g (s +ℤ x)
        (beyond Least more l g s x (turned Greatest more g l s p) h (omega (arith, integers, e)))
    go false false d e = within_both Greatest more g l s x p (omega (arith, integers, d)) (omega (arith, integers, e))

-- no scan can have given an extreme
pub no_scan : (g l : Occurrence) (s : ℤ) → is_possible 0 g l s ≡ true → ⊥
unfolding is_possible
no_scan g l s e =
    let bounds = le_z (sum_bound Least 0 l g) s && le_z s (sum_bound Greatest 0 g l) in
    let a = both (is_occurrence 0 g && is_occurrence 0 l && in_order g l) bounds e in
    let b = both (is_occurrence 0 g && is_occurrence 0 l) (in_order g l) a.0 in
    let n = numbered 0 g (both (is_occurrence 0 g) (is_occurrence 0 l) b.0).0 in
    omega (arith, n.from, n.to)

-- with so many scans, numbered as the latest
abbrev pub Extended : Option Occurrence → Option Occurrence → ℤ → ℤ → ℕ → Type 0
Extended g l s x n = are_extremes n (extreme_after Greatest g x n) (extreme_after Least l x n) (s +ℤ x) ≡ true

pub extremes_after : (scans : ℕ) (g l : Option Occurrence) (s x : ℤ) → are_extremes scans g l s ≡ true → Held x →
    Extended g l s x (scans + 1)
extremes_after scans None None s x e h =
    let a = both (eqb scans 0 && le_z (pos 0) s) (le_z s (pos 0)) e in
    let b = both (eqb scans 0) (le_z (pos 0) s) a.0 in
    let nothing : s ≡ pos 0 = omega (arith, integers, a.1, b.1) in
    let one : scans + 1 ≡ 1 = ap (λ (n : ℕ). n + 1) (eqb-true scans 0 b.0) in
    subst (Extended None None s x) (sym one)
    (subst (λ (z : ℤ). Extended None None z x 1) (sym nothing) (possible_is 0 _ _ (pos 0 +ℤ x) (first_possible x h)))
extremes_after scans None (Some l) s x e h = never e
extremes_after scans (Some g) None s x e h = never e
extremes_after zero (Some g) (Some l) s x e h = absurd (no_scan g l s e)
extremes_after (suc more) (Some g) (Some l) s x e h =
    let two : suc (suc more) ≡ suc more + 1 = omega arith in
    subst (Extended (Some g) (Some l) s x) two
    (possible_is (suc more) _ _ (s +ℤ x) (possible_after more g l s x (possible_of more g l s e) h))
