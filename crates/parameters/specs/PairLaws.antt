-- The rows of the table but those of SL and RS: the two that the row of a pair names, and what a row's answer
-- depends on.
use Rattle.std.specs.Prelude.{◌≡◌, refl, Bool, true, false, not, ◌&&◌, ◌||◌, ℕ, ◌+◌, ◌≤◌, ◌<◌, eqb, leb, ℤ, if◌then◌else◌}
use Rattle.std.proofs.Common.{ap, arith, eqb-true, leb-true, leb-false}
use Rattle.std.proofs.lemmas.Bool.{eqb-false, not-true}
use Rattle.integers.specs.Choice.{never, both}
use Rattle.integers.specs.Listed.{listed, listed_same}
use Rattle.parameters.specs.Legal.{keeps, in_order, pair_in_order}
use Rattle.parameters.specs.Table.{rule_of}
use Rattle.parameters.specs.declared.Rule.{Rule}
use Rattle.parameters.specs.declared.Rule.TheVariants.{Unknown, ReadOnly, Word, Free, Pair, Between}

-- ---- pairs, as rows name them

-- the upper one of a number's pair, and the number itself where it has none
abbrev pub upper : Rule → ℕ → ℕ
upper (Unknown refusal) n = n
upper (ReadOnly refusal) n = n
upper (Word least most) n = n
upper (Free least most) n = n
upper (Pair least most high low strict) n = high
upper (Between low high) n = n

-- and the lower one
abbrev pub lower : Rule → ℕ → ℕ
lower (Unknown refusal) n = n
lower (ReadOnly refusal) n = n
lower (Word least most) n = n
lower (Free least most) n = n
lower (Pair least most high low strict) n = low
lower (Between low high) n = n

-- a number that can stand in such a row: in a pair it is one of the two, and these differ; no range lies between
-- two others
abbrev pub stands_in : Rule → ℕ → Bool
stands_in (Unknown refusal) n = true
stands_in (ReadOnly refusal) n = true
stands_in (Word least most) n = true
stands_in (Free least most) n = true
stands_in (Pair least most high low strict) n = (eqb n high || eqb n low) && not (eqb low high)
stands_in (Between low high) n = false

-- the number of a parameter 1 to 23, neither SL nor RS
abbrev pub is_other : ℕ → Bool
is_other n = leb n 23 && not (eqb n 20) && not (eqb n 21)

pub record Other (n : ℕ) : Type 0 where
  pub most : n ≤ 23
  pub not_setpoint : n ≡ 20 → ⊥
  pub not_ratio : n ≡ 21 → ⊥

other_of : (n : ℕ) → is_other n ≡ true → Other n
other_of n e =
    let h = both (leb n 23 && not (eqb n 20)) (not (eqb n 21)) e in
    let k = both (leb n 23) (not (eqb n 20)) h.0 in
    record {
      most = leb-true n 23 k.0;
      not_setpoint = eqb-false n 20 (not-true (eqb n 20) k.1);
      not_ratio = eqb-false n 21 (not-true (eqb n 21) h.1);
    }

-- both of a pair stand in one row
pub record Row (n : ℕ) : Type 0 where
  pub stands : stands_in (rule_of n) n ≡ true
  pub upper_stands : stands_in (rule_of n) (upper (rule_of n) n) ≡ true
  pub lower_stands : stands_in (rule_of n) (lower (rule_of n) n) ≡ true
  pub upper_row : rule_of (upper (rule_of n) n) ≡ rule_of n
  pub lower_row : rule_of (lower (rule_of n) n) ≡ rule_of n
  pub upper_other : Other (upper (rule_of n) n)
  pub lower_other : Other (lower (rule_of n) n)

-- of a number and a rule: whether it can stand in such a row, whether it is neither SL nor RS, and its own rule
abbrev Found : Type 0
Found = Bool × Bool × Rule

abbrev found : Rule → ℕ → Found
found r n = (stands_in r n, is_other n, rule_of n)

-- of a number and of both of its pair
abbrev found_of : ℕ → Found × Found × Found
found_of n = let r = rule_of n in (found r n, found r (upper r n), found r (lower r n))

abbrev wanted : ℕ → Found × Found × Found
wanted n = let w : Found = (true, true, rule_of n) in (w, w, w)

pub row_of : (n : ℕ) → 1 ≤ n → n ≤ 23 → (n ≡ 20 → ⊥) → (n ≡ 21 → ⊥) → Row n
unfolding rule_of listed
row_of n a b c d = go (leb n 19) refl
  where
    within : (first many : ℕ) → listed found_of first many ≡ listed wanted first many → first ≤ n → n < first + many → Row n
    within first many e h l =
        let same = listed_same found_of wanted first many n e h l in
        record {
          stands = ap (λ x. x.0.0) same;
          upper_stands = ap (λ x. x.1.0) same;
          lower_stands = ap (λ x. x.2.0) same;
          upper_row = ap (λ x. x.1.2) same;
          lower_row = ap (λ x. x.2.2) same;
          upper_other = other_of (upper (rule_of n) n) (ap (λ x. x.1.1) same);
          lower_other = other_of (lower (rule_of n) n) (ap (λ x. x.2.1) same);
        }

    go : (t : Bool) → leb n 19 ≡ t → Row n
    go true e = within 1 19 refl a (omega (arith, leb-true n 19 e))
    go false e = within 22 2 refl (omega (arith, leb-false n 19 e)) (omega arith)

-- ---- what a row says depends on its own value and, in a pair, on both values

pub same_row : (r : Rule) (f g : ℕ → ℤ) (n : ℕ) → stands_in r n ≡ true → g n ≡ f n → g (upper r n) ≡ f (upper r n) →
    g (lower r n) ≡ f (lower r n) → keeps r g n ≡ keeps r f n
same_row (Unknown refusal) f g n s e h l = refl
same_row (ReadOnly refusal) f g n s e h l = refl
same_row (Word least most) f g n s e h l = rw e refl
same_row (Free least most) f g n s e h l = rw e refl
same_row (Pair least most high low strict) f g n s e h l = rw (e, h, l) refl
same_row (Between low high) f g n s e h l = never s

-- the two of a pair are tested with the same outcome
module _ (least most : ℤ) (high low : ℕ) (strict : Bool) where
  pub differ : (n : ℕ) → stands_in (Pair least most high low strict) n ≡ true → low ≡ high → ⊥
  differ n s = eqb-false low high (not-true (eqb low high) (both (eqb n high || eqb n low) (not (eqb low high)) s).1)

  pub tested_alike : (f : ℕ → ℤ) (n : ℕ) → stands_in (Pair least most high low strict) n ≡ true →
      pair_in_order (Pair least most high low strict) f n (f n) ≡ in_order strict (f low) (f high)
  tested_alike f n s = go (eqb n high) refl (both (eqb n high || eqb n low) (not (eqb low high)) s).0
    where
      go : (t : Bool) → eqb n high ≡ t → t || eqb n low ≡ true →
          (if t then in_order strict (f low) (f n) else in_order strict (f n) (f high)) ≡ in_order strict (f low) (f high)
      go true e one = rw (eqb-true n high e) refl
      go false e one = rw (eqb-true n low one) refl
