-- A write whose value is in range and in order leaves the parameters legal.
use Rattle.std.specs.Prelude.{◌≡◌, Bool, ◌&&◌, ℕ, ◌≤◌, ℤ, length, if◌then◌else◌}
use Rattle.std.proofs.Math.Path.{refl, subst}
use Rattle.std.proofs.Common.{sym, ap, ◌∙◌, arith}
use Rattle.std.proofs.Math.Bool.{true, false}
use Rattle.std.proofs.Math.Dec.{eqb}
use Rattle.std.proofs.Math.ListN.{length-set}
use Rattle.std.specs.Int.Signed.{le_z}
use borrow.Author.Tests.{eqb-true, eqb-false, eq-eqb, ne_eqb}
use Rattle.integers.specs.Choice.{by_cases, never, both}
use Rattle.integers.specs.Limit.{limited}
use Rattle.parameters.specs.Legal.{Legal, keeps, in_order, in_range, pair_in_order, is_within}
use Rattle.parameters.specs.LegalLaws.{changed, value_with, and_true, legal_by, anew_size, anew_other, anew_value, limited_row}
use Rattle.parameters.specs.PairLaws.{upper, lower, stands_in, Other, Row, row_of, same_row, differ, tested_alike}
use Rattle.parameters.specs.RuleLaws.{is_from_lem, not_from}
use Rattle.parameters.specs.Table.{value, with_value, rule_of, is_from}
use Rattle.parameters.specs.Written.{limited_anew, written}
use Rattle.parameters.specs.declared.Parameters.{Parameters}
use Rattle.parameters.specs.declared.Rule.{Rule}
use Rattle.parameters.specs.declared.Rule.TheVariants.{Unknown, ReadOnly, Word, Free, Pair, Between}

-- ---- a row after a write of its own value, or of the other one of its pair

own_row : (r : Rule) (f g : ℕ → ℤ) (n : ℕ) (v : ℤ) → stands_in r n ≡ true → g n ≡ v →
    ((upper r n ≡ n → ⊥) → g (upper r n) ≡ f (upper r n)) → ((lower r n ≡ n → ⊥) → g (lower r n) ≡ f (lower r n)) →
    in_range r f v ≡ true → pair_in_order r f n v ≡ true → keeps r g n ≡ true
own_row (Unknown refusal) f g n v s e h l range order = refl
own_row (ReadOnly refusal) f g n v s e h l range order = refl
own_row (Word least most) f g n v s e h l range order = rw (e, range) refl
own_row (Free least most) f g n v s e h l range order = rw (e, range) refl
own_row (Pair least most high low strict) f g n v s e h l range order = rw (e, range) (go (eqb n high) refl order)
  where
    go : (t : Bool) → eqb n high ≡ t → (if t then in_order strict (f low) v else in_order strict v (f high)) ≡ true →
        (if t then in_order strict (g low) v else in_order strict v (g high)) ≡ true
    go true q o = rw (l (λ z. differ least most high low strict n s (z ∙ eqb-true n high q))) o
    go false q o = rw (h (λ z. eqb-false n high q (sym z))) o
own_row (Between low high) f g n v s e h l range order = never s

-- the other one, k, was written
other_row : (r : Rule) (f g : ℕ → ℤ) (n k : ℕ) → stands_in r n ≡ true → stands_in r k ≡ true → g n ≡ f n → keeps r f n ≡ true →
    keeps r g k ≡ true → keeps r g n ≡ true
other_row (Unknown refusal) f g n k s t e before after = refl
other_row (ReadOnly refusal) f g n k s t e before after = refl
other_row (Word least most) f g n k s t e before after = rw e before
other_row (Free least most) f g n k s t e before after = rw e before
other_row (Pair least most high low strict) f g n k s t e before after =
    let alike = tested_alike least most high low strict g in
    let in_range_lem : is_within least most (g n) ≡ true = rw e (both (is_within least most (f n)) _ before).0 in
    rw in_range_lem (alike n s ∙ sym (alike k t) ∙ (both (is_within least most (g k)) _ after).1)
other_row (Between low high) f g n k s t e before after = never s

module _ (p : Parameters) (legal : Legal p) (k : ℕ) (v : ℤ) (first : 1 ≤ k) (last : k ≤ 23) where
  next : Parameters
  next = with_value p k v

  next_size : length next.values ≡ 24
  unfolding next with_value
  next_size = length-set p.values k v ∙ legal.size

  next_is : (n : ℕ) → value next n ≡ changed (value p) k v n
  unfolding next
  next_is n = value_with p k v legal.size (omega arith) n

  -- the three ways of a write: SL limited anew, RS limited anew, neither
  by_way : (P : Parameters → Type 0) → (is_from k 9 10 ≡ true → P (limited_anew next 20 10 9)) →
      (is_from k 9 10 ≡ false → is_from k 7 8 ≡ true → P (limited_anew next 21 8 7)) →
      (is_from k 9 10 ≡ false → is_from k 7 8 ≡ false → P next) → P (written p k v)
  unfolding written next
  by_way P setpoint ratio neither =
      by_cases P (is_from k 9 10) _ _ setpoint (λ e. by_cases P (is_from k 7 8) _ _ (ratio e) (neither e))

  pub elsewhere : (n : ℕ) → (n ≡ 20 → ⊥) → (n ≡ 21 → ⊥) → value (written p k v) n ≡ changed (value p) k v n
  elsewhere n a b =
      by_way (λ (q : Parameters). value q n ≡ changed (value p) k v n)
      (λ e. anew_other next next_size 20 10 9 (omega arith) n a ∙ next_is n)
      (λ e d. anew_other next next_size 21 8 7 (omega arith) n b ∙ next_is n)
      (λ e d. next_is n)

  written_size : length (written p k v).values ≡ 24
  written_size =
      by_way (λ (q : Parameters). length q.values ≡ 24) (λ e. anew_size next next_size 20 10 9 (omega arith))
      (λ e d. anew_size next next_size 21 8 7 (omega arith)) (λ e d. next_size)

  -- ---- the values at 20 and 21

  setpoint_anew : is_from k 9 10 ≡ true → let g = value (written p k v) in g 20 ≡ limited (g 10) (g 9) (value next 20)
  setpoint_anew e =
      by_way (λ (q : Parameters). value q 20 ≡ limited (value q 10) (value q 9) (value next 20))
      (λ f. anew_value next next_size 20 10 9 (omega arith) (λ q. omega arith) (λ q. omega arith))
      (λ f d. never (sym f ∙ e)) (λ f d. never (sym f ∙ e))

  ratio_anew : is_from k 7 8 ≡ true → let g = value (written p k v) in g 21 ≡ limited (g 8) (g 7) (value next 21)
  ratio_anew e =
      by_way (λ (q : Parameters). value q 21 ≡ limited (value q 8) (value q 7) (value next 21))
      (λ f. let x = is_from_lem k 9 10 f in let y = is_from_lem k 7 8 e in absurd (omega arith))
      (λ f d. anew_value next next_size 21 8 7 (omega arith) (λ q. omega arith) (λ q. omega arith)) (λ f d. never (sym d ∙ e))

  setpoint_stays : is_from k 9 10 ≡ false → value (written p k v) 20 ≡ changed (value p) k v 20
  setpoint_stays e =
      by_way (λ (q : Parameters). value q 20 ≡ changed (value p) k v 20) (λ f. never (sym e ∙ f))
      (λ f d. anew_other next next_size 21 8 7 (omega arith) 20 (λ q. omega arith) ∙ next_is 20) (λ f d. next_is 20)

  ratio_stays : is_from k 7 8 ≡ false → value (written p k v) 21 ≡ changed (value p) k v 21
  ratio_stays e =
      by_way (λ (q : Parameters). value q 21 ≡ changed (value p) k v 21)
      (λ f. anew_other next next_size 20 10 9 (omega arith) 21 (λ q. omega arith) ∙ next_is 21) (λ f d. never (sym e ∙ d))
      (λ f d. next_is 21)

  -- ---- every value after the write: the one that was written, SL or RS limited anew, or as it was

  unfoldable pub value_after : ℕ → ℤ
  value_after n =
      let g = value (written p k v) in
      if eqb n k then v else
      if eqb n 20 && is_from k 9 10 then limited (g 10) (g 9) (value p 20) else
      if eqb n 21 && is_from k 7 8 then limited (g 8) (g 7) (value p 21) else value p n

  setpoint_after_lem : value (written p k v) 20 ≡ value_after 20
  unfolding value_after
  setpoint_after_lem =
      by_cases (λ (z : ℤ). value (written p k v) 20 ≡ (if eqb 20 k then v else z)) (is_from k 9 10) _ (value p 20)
      (λ e. let h = is_from_lem k 9 10 e in
      let own = ne_eqb 20 k (λ q. omega arith) in
      setpoint_anew e ∙ rw (next_is 20, own) refl)
      setpoint_stays

  ratio_after_lem : value (written p k v) 21 ≡ value_after 21
  unfolding value_after
  ratio_after_lem =
      by_cases (λ (z : ℤ). value (written p k v) 21 ≡ (if eqb 21 k then v else z)) (is_from k 7 8) _ (value p 21)
      (λ e. let h = is_from_lem k 7 8 e in
      let own = ne_eqb 21 k (λ q. omega arith) in
      ratio_anew e ∙ rw (next_is 21, own) refl)
      ratio_stays

  pub written_values : (n : ℕ) → value (written p k v) n ≡ value_after n
  unfolding value_after
  written_values n = go (eqb n 20) refl (eqb n 21) refl
    where
      go : (s : Bool) → eqb n 20 ≡ s → (r : Bool) → eqb n 21 ≡ r → value (written p k v) n ≡ value_after n
      go true e r d = subst (λ (m : ℕ). value (written p k v) m ≡ value_after m) (sym (eqb-true n 20 e)) setpoint_after_lem
      go false e true d = subst (λ (m : ℕ). value (written p k v) m ≡ value_after m) (sym (eqb-true n 21 d)) ratio_after_lem
      go false e false d = elsewhere n (eqb-false n 20 e) (eqb-false n 21 d) ∙ rw (e, d) refl

  module _ (range : in_range (rule_of k) (value p) v ≡ true) (order : pair_in_order (rule_of k) (value p) k v ≡ true) where
    module _ (n : ℕ) (other : Other n) where
      abbrev g : ℕ → ℤ
      g = value (written p k v)

      same_value : (n ≡ k → ⊥) → g n ≡ value p n
      same_value h = elsewhere n other.not_setpoint other.not_ratio ∙ rw (ne_eqb n k h) refl

      new_value : n ≡ k → g n ≡ v
      new_value h = elsewhere n other.not_setpoint other.not_ratio ∙ rw (eq-eqb n k h) refl

    -- the row of the written number itself, neither SL nor RS
    own_kept : (k ≡ 20 → ⊥) → (k ≡ 21 → ⊥) → keeps (rule_of k) (value (written p k v)) k ≡ true
    own_kept c d =
        let row = row_of k first last c d in
        own_row (rule_of k) (value p) (value (written p k v)) k v row.stands
        (new_value k (record { most = last; not_setpoint = c; not_ratio = d }) refl)
        (same_value (upper (rule_of k) k) row.upper_other) (same_value (lower (rule_of k) k) row.lower_other) range order

    row_kept : (n : ℕ) → 1 ≤ n → n ≤ 23 → (n ≡ 20 → ⊥) → (n ≡ 21 → ⊥) → keeps (rule_of n) (value (written p k v)) n ≡ true
    row_kept n a b c d = go (eqb n k) refl (eqb (upper (rule_of n) n) k) refl (eqb (lower (rule_of n) n) k) refl
      where
        row : Row n
        row = row_of n a b c d

        same : (n ≡ k → ⊥) → value (written p k v) n ≡ value p n
        same = same_value n (record { most = b; not_setpoint = c; not_ratio = d })

        -- m, the upper one or the lower one of the row, is the written number
        of_pair : (m : ℕ) → m ≡ k → stands_in (rule_of n) m ≡ true → rule_of m ≡ rule_of n → Other m → (n ≡ k → ⊥) →
            keeps (rule_of n) (value (written p k v)) n ≡ true
        of_pair m q stands one other h =
            other_row (rule_of n) (value p) (value (written p k v)) n k row.stands (rw q at stands) (same h) (legal.rules n a b)
            (subst (λ (r : Rule). keeps r (value (written p k v)) k ≡ true) (ap rule_of (sym q) ∙ one)
            (own_kept (λ z. other.not_setpoint (q ∙ z)) (λ z. other.not_ratio (q ∙ z))))

        go : (t : Bool) → eqb n k ≡ t → (x : Bool) → eqb (upper (rule_of n) n) k ≡ x → (y : Bool) → eqb (lower (rule_of n) n) k ≡ y →
            keeps (rule_of n) (value (written p k v)) n ≡ true
        go true e x q y u =
            let here = eqb-true n k e in
            subst (λ (m : ℕ). keeps (rule_of m) (value (written p k v)) m ≡ true) (sym here)
            (own_kept (λ z. c (here ∙ z)) (λ z. d (here ∙ z)))
        go false e true q y u =
            of_pair (upper (rule_of n) n) (eqb-true (upper (rule_of n) n) k q) row.upper_stands row.upper_row row.upper_other
            (eqb-false n k e)
        go false e false q true u =
            of_pair (lower (rule_of n) n) (eqb-true (lower (rule_of n) n) k u) row.lower_stands row.lower_row row.lower_other
            (eqb-false n k e)
        go false e false q false u =
            same_row (rule_of n) (value p) (value (written p k v)) n row.stands (same (eqb-false n k e))
            (same_value (upper (rule_of n) n) row.upper_other (eqb-false (upper (rule_of n) n) k q))
            (same_value (lower (rule_of n) n) row.lower_other (eqb-false (lower (rule_of n) n) k u)) ∙ legal.rules n a b

    -- SL and RS: limited anew, or as before between limits as before
    between_kept : (m low high : ℕ) (anew : Bool) (x : ℤ) → 1 ≤ m → m ≤ 23 → low ≤ 19 → high ≤ 19 → rule_of m ≡ Between low high →
        let g = value (written p k v) in
        le_z (g low) (g high) ≡ true → (anew ≡ true → g m ≡ limited (g low) (g high) x) →
        (anew ≡ false → (g m ≡ changed (value p) k v m) × (low ≡ k → ⊥) × (high ≡ k → ⊥)) → keeps (rule_of m) g m ≡ true
    between_kept m low high true x a b l h row sound limits stays = limited_row (value (written p k v)) m low high x row sound (limits refl)
    between_kept m low high false x a b l h row sound limits stays =
        let s = stays refl in
        let low_is : value (written p k v) low ≡ value p low =
        elsewhere low (λ q. omega arith) (λ q. omega arith) ∙ rw (ne_eqb low k s.1) refl in
        let high_is : value (written p k v) high ≡ value p high =
        elsewhere high (λ q. omega arith) (λ q. omega arith) ∙ rw (ne_eqb high k s.2) refl in
        rw (row, low_is, high_is, s.0) (own (eqb m k) refl)
      where
        own : (t : Bool) → eqb m k ≡ t → (is_within (value p low) (value p high) (if t then v else value p m) && true) ≡ true
        own true e = and_true (subst (λ (r : Rule). in_range r (value p) v ≡ true) (ap rule_of (sym (eqb-true m k e)) ∙ row) range)
        own false e = subst (λ (r : Rule). keeps r (value p) m ≡ true) row (legal.rules m a b)

    pub written_legal : Legal (written p k v)
    unfolding rule_of
    written_legal =
        let g = value (written p k v) in
        let kept-9 = row_kept 9 (omega arith) (omega arith) (λ q. omega arith) (λ q. omega arith) in
        let kept-7 = row_kept 7 (omega arith) (omega arith) (λ q. omega arith) (λ q. omega arith) in
        legal_by (written p k v) written_size
        (elsewhere 0 (λ q. omega arith) (λ q. omega arith) ∙ rw (ne_eqb 0 k (λ q. omega arith)) legal.unused) row_kept
        (between_kept 20 10 9 (is_from k 9 10) (value next 20) (omega arith) (omega arith) (omega arith) (omega arith) refl
        (both (in_range (rule_of 9) g (g 9)) (le_z (g 10) (g 9)) kept-9).1 setpoint_anew
        (λ e. (setpoint_stays e, not_from k 9 10 e 10 (omega arith) (omega arith), not_from k 9 10 e 9 (omega arith) (omega arith))))
        (between_kept 21 8 7 (is_from k 7 8) (value next 21) (omega arith) (omega arith) (omega arith) (omega arith) refl
        (both (in_range (rule_of 7) g (g 7)) (le_z (g 8) (g 7)) kept-7).1 ratio_anew
        (λ e. (ratio_stays e, not_from k 7 8 e 8 (omega arith) (omega arith), not_from k 7 8 e 7 (omega arith) (omega arith))))
