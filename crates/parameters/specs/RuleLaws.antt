-- The rows of the table: numbers of one row have one rule, beyond 32 there is none, and which numbers can be written.
use Rattle.std.specs.Prelude.{◌≡◌, refl, Bool, true, false, ◌||◌, ℕ, ◌+◌, ◌≤◌, ◌<◌, eqb, leb, ltb, if◌then◌else◌}
use Rattle.std.proofs.Common.{sym, ap, ◌∙◌, subst, arith, le-leb, leb-true, eqb-true, ltb-true, ltb-false}
use Rattle.std.proofs.Math.Option.{some, none}
use Rattle.std.proofs.lemmas.Bool.{lt-leb, eqb-false}
use Rattle.integers.specs.Choice.{never}
use Rattle.integers.specs.Listed.{listed, listed_same}
use Rattle.signals.specs.Refusals.{number_of}
use Rattle.signals.specs.declared.Refusal.TheVariants as refusal
use Rattle.parameters.specs.Legal.{unknown_refusal, read_only_refusal}
use Rattle.parameters.specs.Table.{rule_of, is_from}
use Rattle.parameters.specs.declared.Rule.{Rule}
use Rattle.parameters.specs.declared.Rule.TheVariants.{Unknown, ReadOnly, Word, Free, Pair, Between}

-- the rules of so many numbers, computed and compared with the first one's by one `refl`
pub row : (first many n : ℕ) → listed (λ (m : ℕ). rule_of first) first many ≡ listed rule_of first many →
    first ≤ n → n < first + many → rule_of first ≡ rule_of n
row first many n e h l = listed_same (λ (m : ℕ). rule_of first) rule_of first many n e h l

pub row_beyond : (n : ℕ) → 33 ≤ n → Unknown refusal.Number ≡ rule_of n
unfolding rule_of
row_beyond n h =
    simp (
      lt-leb n 2 (omega arith),
      lt-leb n 4 (omega arith),
      lt-leb n 6 (omega arith),
      lt-leb n 8 (omega arith),
      lt-leb n 10 (omega arith),
      lt-leb n 12 (omega arith),
      lt-leb n 14 (omega arith),
      lt-leb n 16 (omega arith),
      lt-leb n 17 (omega arith),
      lt-leb n 19 (omega arith),
      lt-leb n 20 (omega arith),
      lt-leb n 21 (omega arith),
      lt-leb n 22 (omega arith),
      lt-leb n 23 (omega arith),
      lt-leb n 25 (omega arith),
      lt-leb n 32 (omega arith),
      le-leb 1 n (omega arith),
      le-leb 3 n (omega arith),
      le-leb 5 n (omega arith),
      le-leb 7 n (omega arith),
      le-leb 9 n (omega arith),
      le-leb 11 n (omega arith),
      le-leb 13 n (omega arith),
      le-leb 15 n (omega arith),
      le-leb 17 n (omega arith),
      le-leb 18 n (omega arith),
      le-leb 20 n (omega arith),
      le-leb 21 n (omega arith),
      le-leb 22 n (omega arith),
      le-leb 23 n (omega arith),
      le-leb 24 n (omega arith),
      le-leb 26 n (omega arith),
    )

-- ---- a number tested for a range of numbers

pub is_from_lem : (n a b : ℕ) → is_from n a b ≡ true → (a ≤ n) × (n ≤ b)
is_from_lem n a b e = go (leb a n) refl (leb n b) refl
  where
    go : (s : Bool) → leb a n ≡ s → (t : Bool) → leb n b ≡ t → (a ≤ n) × (n ≤ b)
    go true q true d = (leb-true a n q, leb-true n b d)
    go true q false d = never (sym (rw (q, d) refl) ∙ e)
    go false q t d = never (sym (rw q refl) ∙ e)

pub not_from : (n a b : ℕ) → is_from n a b ≡ false → (m : ℕ) → a ≤ m → m ≤ b → m ≡ n → ⊥
not_from n a b e m h l q =
    let x : leb a n ≡ true = le-leb a n (omega arith) in
    let y : leb n b ≡ true = le-leb n b (omega arith) in
    never (sym e ∙ rw (x, y) refl)

-- ---- which numbers have a parameter, and which of those can be written

pub is_known : (n : ℕ) → 1 ≤ n → n ≤ 32 → unknown_refusal (rule_of n) ≡ none
unfolding rule_of listed
is_known n least most = listed_same (λ (m : ℕ). unknown_refusal (rule_of m)) (λ (m : ℕ). none) 1 32 n refl least (omega arith)

-- "4 number outside 1..32"
pub unknown_is : (n : ℕ) → unknown_refusal (rule_of n) ≡ (if eqb n 0 || ltb 32 n then some 4 else none)
unfolding rule_of
unknown_is n = go (eqb n 0) refl (ltb 32 n) refl
  where
    go : (a : Bool) → eqb n 0 ≡ a → (b : Bool) → ltb 32 n ≡ b → unknown_refusal (rule_of n) ≡ (if a || b then some 4 else none)
    go true e b f = ap (λ (m : ℕ). unknown_refusal (rule_of m)) (eqb-true n 0 e)
    go false e true f = ap unknown_refusal (sym (row_beyond n (ltb-true 32 n f)))
    go false e false f = let h = eqb-false n 0 e in is_known n (omega arith) (ltb-false 32 n f)

-- a refusal isn't none
not_none : {A : Type 0} (k : ℕ) → some k ≡ none → A
not_none k e = let z : ◌≡◌ {A = ℕ} 0 1 = cc in absurd (omega arith)

pub known : (n : ℕ) → unknown_refusal (rule_of n) ≡ none → (1 ≤ n) × (n ≤ 32)
unfolding rule_of
known n e = (go (eqb n 0) refl, here (ltb n 33) refl)
  where
    go : (t : Bool) → eqb n 0 ≡ t → 1 ≤ n
    go true q = not_none 4 (subst (λ (m : ℕ). unknown_refusal (rule_of m) ≡ none) (eqb-true n 0 q) e)
    go false q = let h = eqb-false n 0 q in omega arith

    here : (t : Bool) → ltb n 33 ≡ t → n ≤ 32
    here true q = let h = ltb-true n 33 q in omega arith
    here false q = not_none 4 (ap unknown_refusal (row_beyond n (ltb-false n 33 q)) ∙ e)

-- "5 read only", of a number that has a parameter: SW to MP
pub read_only_is : (n : ℕ) → 1 ≤ n → n ≤ 32 → read_only_refusal (rule_of n) ≡ (if ltb 25 n then some 5 else none)
unfolding rule_of listed
read_only_is n least most =
    listed_same (λ (m : ℕ). read_only_refusal (rule_of m)) (λ (m : ℕ). if ltb 25 m then some 5 else none) 1 32 n refl least (omega arith)

-- parameters 1 to 23, MD and DS
pub settable : (n : ℕ) → unknown_refusal (rule_of n) ≡ none → read_only_refusal (rule_of n) ≡ none → n ≤ 25
unfolding rule_of listed
settable n e d = go (ltb n 26) refl
  where
    go : (t : Bool) → ltb n 26 ≡ t → n ≤ 25
    go true q = let h = ltb-true n 26 q in omega arith
    go false q =
        let h = ltb-false n 26 q in
        let k = known n e in
        not_none 5 (ap read_only_refusal (row 26 7 n refl h (omega arith)) ∙ d)

-- ---- the refusals that rows name are 4 and 5

abbrev pub names_own : Rule → Bool
names_own (Unknown refusal) = eqb (number_of refusal) 4
names_own (ReadOnly refusal) = eqb (number_of refusal) 5
names_own (Word least most) = true
names_own (Free least most) = true
names_own (Pair least most high low strict) = true
names_own (Between low high) = true

pub names_own_lem : (n : ℕ) → names_own (rule_of n) ≡ true
unfolding rule_of listed
names_own_lem n = go (ltb n 33) refl
  where
    go : (t : Bool) → ltb n 33 ≡ t → names_own (rule_of n) ≡ true
    go true q = listed_same (λ (m : ℕ). names_own (rule_of m)) (λ (m : ℕ). true) 0 33 n refl (omega arith) (omega (arith, ltb-true n 33 q))
    go false q = ap names_own (sym (row_beyond n (ltb-false n 33 q)))
