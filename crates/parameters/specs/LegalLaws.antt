-- The defaults are legal, a setpoint and a ratio within their limits keep parameters legal, and what
-- legal parameters satisfy.
use Rattle.std.specs.Prelude.{◌≡◌, Bool, true, false, ◌&&◌, ℕ, ◌≤◌, ◌<◌, ltb, ℤ, pos, neg_ℤ, nat_abs, length, get_or, set, ◌≤ℤ◌, ◌<ℤ◌}
use Rattle.std.specs.Prelude.{if◌then◌else◌}
use Rattle.std.proofs.Math.Path.{refl, ap}
use Rattle.std.proofs.Common.{sym, ◌∙◌, subst, arith, get_or-set_same, get_or-set_other}
use Rattle.std.proofs.Math.Dec.{eqb}
use Rattle.std.proofs.Math.ListN.{length-set}
use Rattle.std.specs.Int.Signed.{le_z, lt_z}
use borrow.Author.Tests.{eqb-true, eqb-false, eq-eqb, ne_eqb, ltb-true, ltb-false}
use Rattle.integers.specs.Choice.{by_cases, never, both}
use Rattle.integers.specs.Limit.{limited, limited_low, limited_high}
use Rattle.integers.specs.Listed.{listed, listed_same}
use Rattle.integers.specs.Operations.{number}
use Rattle.integers.specs.Parts.{integers, apart}
use Rattle.parameters.specs.Legal.{Legal, keeps, in_range, pair_in_order, is_within, in_order}
use Rattle.parameters.specs.PairLaws.{upper, lower, row_of, same_row}
use Rattle.parameters.specs.RuleLaws.{is_from_lem}
use Rattle.parameters.specs.Table as t
use Rattle.parameters.specs.Table.{value, with_value, rule_of, defaults}
use Rattle.parameters.specs.Written.{limited_anew}
use Rattle.parameters.specs.declared.Parameters.{Parameters}
use Rattle.parameters.specs.declared.Rule.{Rule}
use Rattle.parameters.specs.declared.Rule.TheVariants.{Unknown, ReadOnly, Word, Free, Pair, Between}

-- a fresh controller's parameters
abbrev pub fresh : Parameters
fresh = record { values = defaults }

pub defaults_legal : Legal fresh
unfolding value rule_of listed
defaults_legal =
    record {
      size = refl;
      unused = refl;
      rules = λ n a b.
          listed_same (λ (m : ℕ). keeps (rule_of m) (value fresh) m) (λ (m : ℕ). true) 1 23 n refl a (omega arith);
    }

-- ---- one value changed

abbrev pub changed : (ℕ → ℤ) → ℕ → ℤ → ℕ → ℤ
changed values k v n = if eqb n k then v else values n

pub value_with : (p : Parameters) (k : ℕ) (v : ℤ) → length p.values ≡ 24 → k < 24 → (n : ℕ) →
    value (with_value p k v) n ≡ changed (value p) k v n
unfolding value with_value
value_with p k v size h n =
    by_cases (λ (w : ℤ). get_or (set p.values k v) n (pos 0) ≡ w) (eqb n k) v (value p n)
    (λ e. subst (λ (m : ℕ). get_or (set p.values k v) m (pos 0) ≡ v) (sym (eqb-true n k e))
    (get_or-set_same p.values k v (pos 0) (omega arith)))
    (λ e. get_or-set_other p.values k n v (pos 0) (eqb-false n k e))

pub keeps_same : (r : Rule) (f g : ℕ → ℤ) (n : ℕ) → ((m : ℕ) → f m ≡ g m) → keeps r f n ≡ keeps r g n
keeps_same (Unknown refusal) f g n e = refl
keeps_same (ReadOnly refusal) f g n e = refl
keeps_same (Word low high) f g n e = rw (e n) refl
keeps_same (Free low high) f g n e = rw (e n) refl
keeps_same (Pair least most high low strict) f g n e = rw (e n, e high, e low) refl
keeps_same (Between low high) f g n e = rw (e n, e low, e high) refl

pub by_place : {A : Type 0} (n k : ℕ) → (n < k → A) → (n ≡ k → A) → (k < n → A) → A
by_place {A} n k f g h = go (ltb n k) refl (eqb n k) refl
  where
    go : (s : Bool) → ltb n k ≡ s → (t : Bool) → eqb n k ≡ t → A
    go true e t d = f (ltb-true n k e)
    go false e true d = g (eqb-true n k d)
    go false e false d = h (omega (arith, ltb-false n k e, eqb-false n k d))

pub and_true : {b : Bool} → b ≡ true → b && true ≡ true
and_true e = rw e refl

-- row by row: those of SL and RS, and the others
pub legal_by : (p : Parameters) → length p.values ≡ 24 → value p 0 ≡ pos 0 →
    ((n : ℕ) → 1 ≤ n → n ≤ 23 → (n ≡ 20 → ⊥) → (n ≡ 21 → ⊥) → keeps (rule_of n) (value p) n ≡ true) →
    keeps (rule_of 20) (value p) 20 ≡ true → keeps (rule_of 21) (value p) 21 ≡ true → Legal p
legal_by p size unused others sl rs =
    let P : ℕ → Type 0 = λ m. keeps (rule_of m) (value p) m ≡ true in
    record {
      size = size;
      unused = unused;
      rules = λ n a b.
          by_place n 20 (λ l. others n a b (λ q. omega arith) (λ q. omega arith)) (λ q. subst P (sym q) sl)
          (λ l. by_place n 21 (λ k. absurd (omega arith)) (λ q. subst P (sym q) rs)
          (λ k. others n a b (λ q. omega arith) (λ q. omega arith)));
    }

-- ---- SL and RS limited anew

module _ (p : Parameters) (size : length p.values ≡ 24) (m low high : ℕ) (l : m < 24) where
  abbrev anew : Parameters
  anew = limited_anew p m low high

  pub anew_size : length anew.values ≡ 24
  unfolding limited_anew with_value
  anew_size = length-set p.values m _ ∙ size

  -- the others stay
  pub anew_other : (n : ℕ) → (n ≡ m → ⊥) → value anew n ≡ value p n
  unfolding limited_anew
  anew_other n d = value_with p m _ size l n ∙ rw (ne_eqb n m d) refl

  limited_is : value anew m ≡ limited (value p low) (value p high) (value p m)
  unfolding limited_anew
  limited_is = value_with p m _ size l m ∙ rw (eq-eqb m m refl) refl

  pub anew_value : (low ≡ m → ⊥) → (high ≡ m → ⊥) → value anew m ≡ limited (value anew low) (value anew high) (value p m)
  anew_value a b = rw (anew_other low a, anew_other high b) limited_is

-- a value limited to two others that are in order keeps its row
pub limited_row : (f : ℕ → ℤ) (m low high : ℕ) (x : ℤ) → rule_of m ≡ Between low high → le_z (f low) (f high) ≡ true →
    f m ≡ limited (f low) (f high) x → keeps (rule_of m) f m ≡ true
limited_row f m low high x row order e =
    let least : le_z (f low) (limited (f low) (f high) x) ≡ true =
    omega (arith, integers, limited_low (f low) (f high) x (omega (arith, integers, order))) in
    let most : le_z (limited (f low) (f high) x) (f high) ≡ true = omega (arith, integers, limited_high (f low) (f high) x) in
    rw (row, e, least, most) refl

-- ---- no other parameter's rule looks at SL or RS: within their limits they may take any values

module _ (p : Parameters) (legal : Legal p) (sl rs : ℤ) where
  unfoldable pub settings : ℕ → ℤ
  settings = changed (changed (value p) 20 sl) 21 rs

  settings_size : length (with_value p 20 sl).values ≡ 24
  unfolding with_value
  settings_size = length-set p.values 20 sl ∙ legal.size

  pub settings_are : (n : ℕ) → value (with_value (with_value p 20 sl) 21 rs) n ≡ settings n
  unfolding settings
  settings_are n =
      value_with (with_value p 20 sl) 21 rs settings_size (omega arith) n ∙
      ap (λ (v : ℤ). if eqb n 21 then rs else v) (value_with p 20 sl legal.size (omega arith) n)

  pub settings_legal : is_within (t.LS p) (t.HS p) sl ≡ true → is_within (t.LR p) (t.HR p) rs ≡ true →
      Legal (with_value (with_value p 20 sl) 21 rs)
  unfolding rule_of with_value settings
  settings_legal e d =
      let q = with_value (with_value p 20 sl) 21 rs in
      let same : (n : ℕ) → keeps (rule_of n) (value q) n ≡ keeps (rule_of n) settings n =
      λ n. keeps_same (rule_of n) (value q) settings n settings_are in
      let kept : (n : ℕ) → (n ≡ 20 → ⊥) → (n ≡ 21 → ⊥) → settings n ≡ value p n =
      λ n a b. rw (ne_eqb n 21 b, ne_eqb n 20 a) refl in
      legal_by q (length-set (set p.values 20 sl) 21 rs ∙ settings_size) (settings_are 0 ∙ legal.unused)
      (λ n a b u v.
      let row = row_of n a b u v in
      let high = row.upper_other in
      let low = row.lower_other in
      same n ∙ same_row (rule_of n) (value p) settings n row.stands (kept n u v)
      (kept (upper (rule_of n) n) high.not_setpoint high.not_ratio) (kept (lower (rule_of n) n) low.not_setpoint low.not_ratio)
      ∙ legal.rules n a b)
      (same 20 ∙ and_true e) (same 21 ∙ and_true d)

-- ---- what the rules come to, in orders of integers

pub record Ordered (least low high most : ℤ) : Type 0 where
  pub not_below : least ≤ℤ low
  pub order : low ≤ℤ high
  pub not_above : high ≤ℤ most

pub record Inside (least v most : ℤ) : Type 0 where
  pub not_below : least ≤ℤ v
  pub not_above : v ≤ℤ most

-- of each parameter that a scan computes with
pub record Ranges (p : Parameters) : Type 0 where
  pub channel1 : Ordered (neg_ℤ (pos 9999)) (t.L1 p) (t.H1 p) (pos 9999)
  pub channel2 : Ordered (neg_ℤ (pos 9999)) (t.L2 p) (t.H2 p) (pos 9999)
  pub channel3 : Ordered (neg_ℤ (pos 9999)) (t.L3 p) (t.H3 p) (pos 9999)
  pub span1 : t.L1 p <ℤ t.H1 p
  pub span2 : t.L2 p <ℤ t.H2 p
  pub span3 : t.L3 p <ℤ t.H3 p
  pub ratios : Ordered (pos 1) (t.LR p) (t.HR p) (pos 9999)
  pub setpoints : Ordered (neg_ℤ (pos 9999)) (t.LS p) (t.HS p) (pos 9999)
  pub outputs : Ordered (pos 0) (t.LO p) (t.HO p) (pos 9999)
  pub low_deviation : Inside (pos 0) (t.LD p) (pos 9999)
  pub band : Inside (pos 1) (t.XP p) (pos 9999)
  pub integral_time : Inside (pos 0) (t.TI p) (pos 9999)
  pub derivative_time : Inside (pos 0) (t.TD p) (pos 9999)
  pub setpoint : Inside (t.LS p) (t.SL p) (t.HS p)
  pub ratio : Inside (t.LR p) (t.RS p) (t.HR p)
  pub bias : Inside (neg_ℤ (pos 9999)) (t.RB p) (pos 9999)

pub inside : (low high v : ℤ) → is_within low high v ≡ true → Inside low v high
inside low high v e = let h = both (le_z low v) (le_z v high) e in omega (arith, integers, h.0, h.1)

-- of a row that asks for a range alone
ranged : (low high v : ℤ) → (is_within low high v && true) ≡ true → Inside low v high
ranged low high v e = inside low high v (both (is_within low high v) true e).0

-- the lower of a pair and the upper, from the rules of both
ordered : (strict : Bool) (least most low high : ℤ) → (is_within least most high && in_order strict low high) ≡ true →
    (is_within least most low && in_order strict low high) ≡ true → Ordered least low high most
ordered true least most low high d e =
    let h = both (is_within least most high) (lt_z low high) d in let k = both (is_within least most low) (lt_z low high) e in
    omega (arith, integers, inside least most high h.0, inside least most low k.0, h.1)
ordered false least most low high d e =
    let h = both (is_within least most high) (le_z low high) d in let k = both (is_within least most low) (le_z low high) e in
    omega (arith, integers, inside least most high h.0, inside least most low k.0, h.1)

spanned : (least most low high : ℤ) → (is_within least most high && lt_z low high) ≡ true → low <ℤ high
spanned least most low high d = let h = both (is_within least most high) (lt_z low high) d in omega (arith, integers, h.1)

pub ranges : (p : Parameters) → Legal p → Ranges p
unfolding rule_of
ranges p legal =
    let row : (n : ℕ) → t.is_from n 1 23 ≡ true → keeps (rule_of n) (value p) n ≡ true =
    λ n e. let h = is_from_lem n 1 23 e in legal.rules n h.0 h.1 in
    record {
      channel1 = ordered true _ _ _ _ (row 1 refl) (row 2 refl);
      channel2 = ordered true _ _ _ _ (row 3 refl) (row 4 refl);
      channel3 = ordered true _ _ _ _ (row 5 refl) (row 6 refl);
      span1 = spanned (neg_ℤ (pos 9999)) (pos 9999) (t.L1 p) (t.H1 p) (row 1 refl);
      span2 = spanned (neg_ℤ (pos 9999)) (pos 9999) (t.L2 p) (t.H2 p) (row 3 refl);
      span3 = spanned (neg_ℤ (pos 9999)) (pos 9999) (t.L3 p) (t.H3 p) (row 5 refl);
      ratios = ordered false _ _ _ _ (row 7 refl) (row 8 refl);
      setpoints = ordered false _ _ _ _ (row 9 refl) (row 10 refl);
      outputs = ordered false _ _ _ _ (row 15 refl) (row 16 refl);
      low_deviation = ranged _ _ _ (row 14 refl);
      band = ranged _ _ _ (row 17 refl);
      integral_time = ranged _ _ _ (row 18 refl);
      derivative_time = ranged _ _ _ (row 19 refl);
      setpoint = ranged _ _ _ (row 20 refl);
      ratio = ranged _ _ _ (row 21 refl);
      bias = ranged _ _ _ (row 22 refl);
    }

-- ---- every value lies in -9999..9999

abbrev bounded : Rule → Bool
bounded (Unknown refusal) = false
bounded (ReadOnly refusal) = false
bounded (Word least most) = false
bounded (Free least most) = is_within (neg_ℤ (pos 9999)) most least && le_z most (pos 9999)
bounded (Pair least most high low strict) = is_within (neg_ℤ (pos 9999)) most least && le_z most (pos 9999)
bounded (Between low high) = false

between_most : (least most v : ℤ) → is_within (neg_ℤ (pos 9999)) most least && le_z most (pos 9999) ≡ true → is_within least most v ≡ true →
    nat_abs v ≤ 9999
between_most least most v b e =
    let h = both (is_within (neg_ℤ (pos 9999)) most least) (le_z most (pos 9999)) b in
    let k = inside (neg_ℤ (pos 9999)) most least h.0 in
    let i = inside least most v e in
    omega (arith, integers, h.1, k.not_below, i.not_below, i.not_above, number v, apart v)

bounded_most : (r : Rule) (f : ℕ → ℤ) (v : ℤ) → bounded r ≡ true → in_range r f v ≡ true → nat_abs v ≤ 9999
bounded_most (Unknown refusal) f v b e = never b
bounded_most (ReadOnly refusal) f v b e = never b
bounded_most (Word least most) f v b e = never b
bounded_most (Free least most) f v b e = between_most least most v b e
bounded_most (Pair least most high low strict) f v b e = between_most least most v b e
bounded_most (Between low high) f v b e = never b

pub value_most : (p : Parameters) → Legal p → (n : ℕ) → 1 ≤ n → n ≤ 23 → nat_abs (value p n) ≤ 9999
unfolding rule_of listed
value_most p legal n a b =
    let r = ranges p legal in
    let P : ℕ → Type 0 = λ m. nat_abs (value p m) ≤ 9999 in
    let rows : ℕ → Bool = λ m. bounded (rule_of m) in
    let most : rows n ≡ true → P n =
    λ e. bounded_most (rule_of n) (value p) (value p n) e
    (both (in_range (rule_of n) (value p) (value p n)) (pair_in_order (rule_of n) (value p) n (value p n)) (legal.rules n a b)).0 in
    by_place n 20
    (λ l. most (listed_same rows (λ (m : ℕ). true) 1 19 n refl a (omega arith)))
    (λ q. subst P (sym q)
    (omega (arith, integers, r.setpoints.not_below, r.setpoints.not_above, r.setpoint, number (t.SL p), apart (t.SL p))))
    (λ l. by_place n 21 (λ k. absurd (omega arith))
    (λ q. subst P (sym q)
    (omega (arith, integers, r.ratios.not_below, r.ratios.not_above, r.ratio, number (t.RS p), apart (t.RS p))))
    (λ k. most (listed_same rows (λ (m : ℕ). true) 22 2 n refl k (omega arith))))
