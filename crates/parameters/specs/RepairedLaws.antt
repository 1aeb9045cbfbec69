-- Parameters that passed every row's test are legal, and repaired parameters are legal whatever the image holds.
use Rattle.std.specs.Prelude.{◌≡◌, Bool, true, false, ◌&&◌, ℕ, ◌≤◌, ◌<◌, ℤ, pos, neg_ℤ, length, set, if◌then◌else◌}
use Rattle.std.proofs.Math.Path.{refl}
use Rattle.std.proofs.Common.{ap, subst, ◌∙◌, zero-add, arith, get_or-set_other}
use borrow.Author.Tests.{ne_eqb}
use Rattle.integers.specs.Choice.{by_cases, never, both}
use Rattle.integers.specs.Listed.{listed, listed_length, listed_at}
use Rattle.parameters.specs.Legal.{is_within, in_order, in_range, pair_in_order, keeps, are_legal, Legal}
use Rattle.parameters.specs.LegalLaws.{defaults_legal, and_true, legal_by, anew_size, anew_other, anew_value, limited_row}
use Rattle.parameters.specs.PairLaws.{upper, lower, stands_in, row_of, same_row, tested_alike}
use Rattle.parameters.specs.Range.{tested_in, every_of}
use Rattle.parameters.specs.Repaired.{default, widest_output, ranged_value, by_range}
use Rattle.parameters.specs.Repaired.{paired_value, by_pairs, setpoint_and_ratio_limited, repaired}
use Rattle.parameters.specs.Table.{value, with_value, rule_of}
use Rattle.parameters.specs.Written.{limited_anew}
use Rattle.parameters.specs.declared.Parameters.{Parameters}
use Rattle.parameters.specs.declared.Rule.{Rule}
use Rattle.parameters.specs.declared.Rule.TheVariants.{Unknown, ReadOnly, Word, Free, Pair, Between}

-- ---- the test of all rows

pub tested_legal : (p : Parameters) → length p.values ≡ 24 → value p 0 ≡ pos 0 → are_legal p ≡ true → Legal p
unfolding are_legal
tested_legal p size unused e =
    record { size = size; unused = unused; rules = λ n a b. tested_in (λ (m : ℕ). keeps (rule_of m) (value p) m) 23 1 n e a (omega arith) }

pub legal_tested : (p : Parameters) → Legal p → are_legal p ≡ true
unfolding are_legal
legal_tested p legal = every_of (λ (m : ℕ). keeps (rule_of m) (value p) m) 23 1 (λ n a b. legal.rules n a (omega arith))

-- ---- one row of repaired values

-- a value, or its default
within : (low high d v : ℤ) → is_within low high d ≡ true → is_within low high (if is_within low high v then v else d) ≡ true
within low high d v h = by_cases (λ (z : ℤ). is_within low high z ≡ true) (is_within low high v) v d (λ e. e) (λ e. h)

-- of values w first each in its range or the default, which gives g, then both of a pair in order or
-- the defaults, which gives h
module _ (w d g h : ℕ → ℤ) where
  -- the first step and the second, at one number
  abbrev Ranged : Rule → ℕ → Type 0
  Ranged r n = g n ≡ (if in_range r w (w n) then w n else d n)

  abbrev Ordered : Rule → ℕ → Type 0
  Ordered r n = h n ≡ (if pair_in_order r g n (g n) then g n else d n)

  alone : (least most : ℤ) (n : ℕ) → is_within least most (d n) && true ≡ true →
      g n ≡ (if is_within least most (w n) then w n else d n) → h n ≡ g n → is_within least most (h n) && true ≡ true
  alone least most n kept ranged e =
      rw (e, ranged) (and_true (within least most (d n) (w n) (both (is_within least most (d n)) true kept).0))

  of_pair : (least most : ℤ) (high low : ℕ) (strict : Bool) (n : ℕ) → let r = Pair least most high low strict in
      stands_in r n ≡ true → stands_in r high ≡ true → stands_in r low ≡ true → keeps r d n ≡ true → Ranged r n → Ordered r n →
      Ordered r high → Ordered r low → keeps r h n ≡ true
  of_pair least most high low strict n s sh sl kept ranged own above below = go (in_order strict (g low) (g high)) refl
    where
      in_range_lem : is_within least most (g n) ≡ true
      in_range_lem = rw ranged (within least most (d n) (w n) (both (is_within least most (d n)) _ kept).0)

      alike : (m : ℕ) → stands_in (Pair least most high low strict) m ≡ true →
          pair_in_order (Pair least most high low strict) g m (g m) ≡ in_order strict (g low) (g high)
      alike m = tested_alike least most high low strict g m

      go : (t : Bool) → in_order strict (g low) (g high) ≡ t → keeps (Pair least most high low strict) h n ≡ true
      go true e =
          let one : h n ≡ g n = own ∙ rw (alike n s, e) refl in
          let two : h high ≡ g high = above ∙ rw (alike high sh, e) refl in
          let three : h low ≡ g low = below ∙ rw (alike low sl, e) refl in
          rw (one, two, three, in_range_lem) (alike n s ∙ e)
      go false e =
          let one : h n ≡ d n = own ∙ rw (alike n s, e) refl in
          let two : h high ≡ d high = above ∙ rw (alike high sh, e) refl in
          let three : h low ≡ d low = below ∙ rw (alike low sl, e) refl in
          rw (one, two, three) kept

  row_repaired : (r : Rule) (n : ℕ) → stands_in r n ≡ true → stands_in r (upper r n) ≡ true → stands_in r (lower r n) ≡ true →
      keeps r d n ≡ true → Ranged r n → Ordered r n → Ordered r (upper r n) → Ordered r (lower r n) → keeps r h n ≡ true
  row_repaired (Unknown refusal) n s sh sl kept ranged own above below = refl
  row_repaired (ReadOnly refusal) n s sh sl kept ranged own above below = refl
  row_repaired (Word least most) n s sh sl kept ranged own above below = alone least most n kept ranged own
  row_repaired (Free least most) n s sh sl kept ranged own above below = alone least most n kept ranged own
  row_repaired (Pair least most high low strict) n s sh sl kept ranged own above below =
      of_pair least most high low strict n s sh sl kept ranged own above below
  row_repaired (Between low high) n s sh sl kept ranged own above below = never s

-- ---- all rows

widest_unused : (p : Parameters) → value p 0 ≡ pos 0 → value (widest_output p) 0 ≡ pos 0
unfolding widest_output with_value value
widest_unused p unused =
    get_or-set_other (set p.values 15 (pos 9999)) 16 0 (pos 0) (pos 0) (λ q. omega arith)
    ∙ get_or-set_other p.values 15 0 (pos 9999) (pos 0) (λ q. omega arith) ∙ unused

-- the values of parameters that are listed by their numbers
value_listed : (f : ℕ → ℤ) (n : ℕ) → n < 24 → value (record { values = listed f 0 24 }) n ≡ f n
unfolding value
value_listed f n h = listed_at f (pos 0) 0 24 n h ∙ ap f (zero-add n)

module _ (p : Parameters) where
  w : Parameters
  w = widest_output p

  g : Parameters
  g = by_range w

  h : Parameters
  h = by_pairs g

  ranged : (n : ℕ) → n ≤ 23 → (n ≡ 20 → ⊥) → (n ≡ 21 → ⊥) → Ranged (value w) default (value g) (value h) (rule_of n) n
  unfolding g by_range ranged_value
  ranged n b u v = value_listed (ranged_value w) n (omega arith) ∙ rw (ne_eqb n 20 u, ne_eqb n 21 v) refl

  paired : (n : ℕ) → n ≤ 23 → Ordered (value w) default (value g) (value h) (rule_of n) n
  unfolding h by_pairs paired_value
  paired n b = value_listed (paired_value g) n (omega arith)

  h_size : length h.values ≡ 24
  unfolding h by_pairs
  h_size = listed_length (paired_value g) 0 24

  -- SL limited, then RS too
  setpoint : Parameters
  setpoint = limited_anew h 20 10 9

  setpoint_size : length setpoint.values ≡ 24
  unfolding setpoint
  setpoint_size = anew_size h h_size 20 10 9 (omega arith)

  f : ℕ → ℤ
  f = value (limited_anew setpoint 21 8 7)

  but_ratio : (n : ℕ) → (n ≡ 21 → ⊥) → f n ≡ value setpoint n
  unfolding f
  but_ratio n v = anew_other setpoint setpoint_size 21 8 7 (omega arith) n v

  elsewhere : (n : ℕ) → (n ≡ 20 → ⊥) → (n ≡ 21 → ⊥) → f n ≡ value h n
  unfolding setpoint
  elsewhere n u v = but_ratio n v ∙ anew_other h h_size 20 10 9 (omega arith) n u

  kept : (n : ℕ) → 1 ≤ n → n ≤ 23 → (n ≡ 20 → ⊥) → (n ≡ 21 → ⊥) → keeps (rule_of n) f n ≡ true
  kept n a b u v =
      let row = row_of n a b u v in
      let high = row.upper_other in
      let low = row.lower_other in
      same_row (rule_of n) (value h) f n row.stands (elsewhere n u v)
      (elsewhere (upper (rule_of n) n) high.not_setpoint high.not_ratio)
      (elsewhere (lower (rule_of n) n) low.not_setpoint low.not_ratio)
      ∙ row_repaired (value w) default (value g) (value h) (rule_of n) n row.stands row.upper_stands row.lower_stands
      (defaults_legal.rules n a b) (ranged n b u v) (paired n b)
      (subst (λ (r : Rule). Ordered (value w) default (value g) (value h) r (upper (rule_of n) n)) row.upper_row
      (paired (upper (rule_of n) n) high.most))
      (subst (λ (r : Rule). Ordered (value w) default (value g) (value h) r (lower (rule_of n) n)) row.lower_row
      (paired (lower (rule_of n) n) low.most))

  unused_is : f 0 ≡ value w 0
  unfolding rule_of
  unused_is =
      elsewhere 0 (λ q. omega arith) (λ q. omega arith) ∙ paired 0 (omega arith) ∙
      ranged 0 (omega arith) (λ q. omega arith) (λ q. omega arith)

  setpoint_row : keeps (rule_of 20) f 20 ≡ true
  unfolding rule_of setpoint
  setpoint_row =
      let order = (both (is_within (neg_ℤ (pos 9999)) (pos 9999) (f 9)) _ (kept 9 (omega arith) (omega arith) (λ q. omega arith)
      (λ q. omega arith))).1 in
      limited_row f 20 10 9 (value h 20) refl order
      (rw (but_ratio 20 (λ q. omega arith), but_ratio 10 (λ q. omega arith), but_ratio 9 (λ q. omega arith))
      (anew_value h h_size 20 10 9 (omega arith) (λ q. omega arith) (λ q. omega arith)))

  ratio_row : keeps (rule_of 21) f 21 ≡ true
  unfolding rule_of f
  ratio_row =
      let order = (both (is_within (pos 1) (pos 9999) (f 7)) _ (kept 7 (omega arith) (omega arith) (λ q. omega arith)
      (λ q. omega arith))).1 in
      limited_row f 21 8 7 (value setpoint 21) refl order
      (anew_value setpoint setpoint_size 21 8 7 (omega arith) (λ q. omega arith) (λ q. omega arith))

pub repaired_legal : (p : Parameters) → value p 0 ≡ pos 0 → Legal (repaired p)
unfolding repaired setpoint_and_ratio_limited setpoint f w g h
repaired_legal p unused =
    legal_by (repaired p) (anew_size (setpoint p) (setpoint_size p) 21 8 7 (omega arith)) (unused_is p ∙ widest_unused p unused)
    (kept p) (setpoint_row p) (ratio_row p)
