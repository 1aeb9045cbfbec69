-- What is written reads back as the number; nothing shorter reads as it, and nothing else that is as short does.
use Rattle.std.specs.Prelude.{◌≡◌, refl, Bool, true, false, cond, List, [], ◌∷◌, ℕ, zero, suc, ◌^◌, ◌≤◌, ◌<◌, eqb, leb, ltb, ℤ, pos, negsuc}
use Rattle.std.specs.Prelude.{nat_abs, length, drop, get_or}
use Rattle.std.proofs.Common.{ap, ◌∙◌, arith, length-drop, ltb-true, leb-true, lt-ltb, le-ltb, le-leb, eq-eqb, eqb-true}
use Rattle.std.proofs.Math.Option.{Option, none, some}
use Rattle.integers.specs.Sign.{from_sign}
use Rattle.numerals.specs.Numerals.{last_digits, places, digits, decimal, hexadecimal_word, digit_value, read_on, digits_of}
use Rattle.numerals.specs.Numerals.{with_sign, integer_of, word_of}
use Rattle.numerals.specs.DigitLaws.{digits_length, places_last, places_hold, places_some, places_least}
use Rattle.numerals.specs.Reading.{some_of, read_last, read_below, read_same}

-- ---- the laws

-- s reads as a, nothing shorter does, and nothing else that is as short
pub record Shortest {A : Type 0} (read : List ℕ → Option A) (a : A) (s : List ℕ) : Type 0 where
  pub reads : read s ≡ some a
  pub least : (t : List ℕ) → read t ≡ some a → length s ≤ length t
  pub only : (t : List ℕ) → read t ≡ some a → length t ≡ length s → t ≡ s

pub length_digits : (n : ℕ) → length (digits n) ≡ places 10 n
unfolding digits
length_digits n = digits_length 10 (places 10 n) n

pub digits_read : (n : ℕ) → read_on 10 0 (digits n) ≡ some n
unfolding digits
digits_read n = read_last 10 (omega arith) (omega arith) (places 10 n) n (places_hold 10 (omega arith) n)

pub digits_some : (n : ℕ) → 0 < length (digits n)
digits_some n = omega (arith, length_digits n, places_some 10 (omega arith) n)

pub digits_few : (n k : ℕ) → n < 10 ^ k → 0 < k → length (digits n) ≤ k
digits_few n k h p = omega (arith, length_digits n, places_least 10 (omega arith) n k h p)

pub natural_some : (most n : ℕ) (t : List ℕ) → digits_of 10 most t ≡ some n → (0 < length t) × (length t ≤ most) × (read_on 10 0 t ≡ some n)
unfolding digits_of
natural_some most n t e =
    let p = some_of (ltb 0 (length t)) _ n e in
    let q = some_of (leb (length t) most) _ n p.1 in
    (ltb-true 0 (length t) p.0, leb-true (length t) most q.0, q.1)

-- every natural number of up to `most` digits
pub digits_shortest : (most n : ℕ) → n < 10 ^ most → 0 < most → Shortest (digits_of 10 most) n (digits n)
unfolding digits_of
digits_shortest most n h p =
    record {
      reads = simp (lt-ltb 0 (length (digits n)) (digits_some n), le-leb (length (digits n)) most (digits_few n most h p), digits_read n);
      least = λ t e.
          let r = natural_some most n t e in
          let b = read_below 10 (omega arith) (omega arith) 0 n t r.2 in
          digits_few n (length t) (omega arith) r.0;
      only = λ t e l.
          let r = natural_some most n t e in
          (read_same 10 (omega arith) (omega arith) 0 0 n t (digits n) r.2 (digits_read n) l).1;
    }

-- a digit is no minus
pub not_minus : (n : ℕ) (ds : List ℕ) → read_on 10 0 ds ≡ some n → eqb (get_or ds 0 0) 45 ≡ false
unfolding read_on digit_value
not_minus n [] e = refl
not_minus n (d ∷ ds) e = go (eqb d 45) refl
  where
    go : (t : Bool) → eqb d 45 ≡ t → t ≡ false
    go false f = refl
    go true f =
        let k : d ≡ 45 = eqb-true d 45 f in
        let l = ltb-true (digit_value d) 10 (some_of (ltb (digit_value d) 10) _ n e).0 in
        let m : digit_value d ≡ 16 = ap digit_value k in
        absurd (omega arith)

signed_some : {P : Type 0} (minus : Bool) (o : Option ℕ) (z : ℤ) → with_sign minus o ≡ some z
    → ((m : ℕ) → o ≡ some m → from_sign minus m ≡ z → P) → P
unfolding with_sign
signed_some minus none z e f = let x : ◌≡◌ {A = ℕ} 0 1 = cc in absurd (omega arith)
signed_some minus (some m) z e f = f m refl (cc)

-- what reads as an integer does so with a minus or without one
pub integer_some : {P : Type 0} (most : ℕ) (t : List ℕ) (z : ℤ) → integer_of most t ≡ some z
    → ((m : ℕ) → get_or t 0 0 ≡ 45 → digits_of 10 most (drop 1 t) ≡ some m → from_sign true m ≡ z → P)
    → ((m : ℕ) → digits_of 10 most t ≡ some m → pos m ≡ z → P) → P
unfolding integer_of
integer_some {P} most t z e f g = go (eqb (get_or t 0 0) 45) refl e
  where
    go : (q : Bool) → eqb (get_or t 0 0) 45 ≡ q
        → cond q (with_sign true (digits_of 10 most (drop 1 t))) (with_sign false (digits_of 10 most t)) ≡ some z → P
    go true k h = signed_some true (digits_of 10 most (drop 1 t)) z h (λ m. f m (eqb-true (get_or t 0 0) 45 k))
    go false k h = signed_some false (digits_of 10 most t) z h g

pub headed : (c : ℕ) (t : List ℕ) → 0 < length (drop 1 t) → get_or t 0 0 ≡ c → t ≡ c ∷ drop 1 t
headed c [] h e = absurd (omega arith)
headed c (x ∷ xs) h e = cc

decimal_pos : (n : ℕ) → decimal (pos n) ≡ digits n
unfolding decimal
decimal_pos n = simp (le-ltb n 0 (omega arith))

decimal_neg : (n : ℕ) → decimal (negsuc n) ≡ 45 ∷ digits (suc n)
unfolding decimal
decimal_neg n = refl

minus_pos : (m n : ℕ) → from_sign true m ≡ pos n → n ≡ 0
minus_pos zero n e = cc
minus_pos (suc m) n e = let x : ◌≡◌ {A = ℕ} 0 1 = cc in absurd (omega arith)

minus_neg : (m n : ℕ) → from_sign true m ≡ negsuc n → m ≡ suc n
minus_neg zero n e = let x : ◌≡◌ {A = ℕ} 0 1 = cc in absurd (omega arith)
minus_neg (suc m) n e = cc

-- s is no longer than t, and is t where that is as short
abbrev Beats : List ℕ → List ℕ → Type 0
Beats s t = (length s ≤ length t) × (length t ≡ length s → t ≡ s)

beats_pos : (most n : ℕ) → Shortest (digits_of 10 most) n (digits n) → (t : List ℕ) → integer_of most t ≡ some (pos n) → Beats (digits n) t
beats_pos most n d t e =
    integer_some most t (pos n) e
    (λ m k r f.
    let q = (natural_some most m (drop 1 t) r).0 in
    let z : n ≡ 0 = minus_pos m n f in
    let one : length (digits n) ≡ 1 = length_digits n ∙ places_last 10 (omega arith) n (omega arith) in
    (omega (arith, length-drop 1 t), λ l. absurd (omega (arith, length-drop 1 t))))
    (λ m r f. let i : m ≡ n = cc in let r' = rw i at r in (d.least t r', d.only t r'))

beats_neg : (most n : ℕ) → Shortest (digits_of 10 most) (suc n) (digits (suc n)) → (t : List ℕ) → integer_of most t ≡ some (negsuc n)
    → Beats (45 ∷ digits (suc n)) t
beats_neg most n d t e =
    integer_some most t (negsuc n) e
    (λ m k r f.
    let i : m ≡ suc n = minus_neg m n f in
    let r' = rw i at r in
    let q = (natural_some most (suc n) (drop 1 t) r').0 in
    let s : t ≡ 45 ∷ drop 1 t = headed 45 t q k in
    let behind : length t ≡ length (45 ∷ digits (suc n)) → drop 1 t ≡ digits (suc n) =
    λ l. d.only (drop 1 t) r' (omega (arith, length-drop 1 t)) in
    (omega (arith, length-drop 1 t, d.least (drop 1 t) r'), λ l. s ∙ ap (λ (x : List ℕ). 45 ∷ x) (behind l)))
    (λ m r f. let x : ◌≡◌ {A = ℕ} 0 1 = cc in absurd (omega arith))

-- every integer of up to `most` digits
pub decimal_shortest : (most : ℕ) (z : ℤ) → nat_abs z < 10 ^ most → 0 < most → Shortest (integer_of most) z (decimal z)
unfolding integer_of with_sign
decimal_shortest most (pos n) h p =
    let d = digits_shortest most n h p in
    rw (decimal_pos n)
    (record {
      reads = simp (not_minus n (digits n) (digits_read n), d.reads);
      least = λ t e. (beats_pos most n d t e).0;
      only = λ t e. (beats_pos most n d t e).1;
    })
decimal_shortest most (negsuc n) h p =
    let d = digits_shortest most (suc n) h p in
    rw (decimal_neg n)
    (record {
      reads = simp d.reads;
      least = λ t e. (beats_neg most n d t e).0;
      only = λ t e. (beats_neg most n d t e).1;
    })

-- every word of 16 bits; nothing but its four digits reads as it
pub word_shortest : (n : ℕ) → n < 65536 → Shortest word_of n (hexadecimal_word n)
unfolding word_of hexadecimal_word
word_shortest n h =
    let back : read_on 16 0 (last_digits 16 4 n) ≡ some n = read_last 16 (omega arith) (omega arith) 4 n h in
    let four : (t : List ℕ) → word_of t ≡ some n → (length t ≡ 4) × (read_on 16 0 t ≡ some n) =
    λ t e. let r = some_of (eqb (length t) 4) _ n e in (eqb-true (length t) 4 r.0, r.1) in
    record {
      reads = simp (eq-eqb (length (last_digits 16 4 n)) 4 (digits_length 16 4 n)) back;
      least = λ t e. omega (arith, digits_length 16 4 n, (four t e).0);
      only = λ t e l. (read_same 16 (omega arith) (omega arith) 0 0 n t (last_digits 16 4 n) (four t e).1 back l).1;
    }

pub decimal_few : (k : ℕ) (z : ℤ) → nat_abs z < 10 ^ k → 0 < k → length (decimal z) ≤ suc k
decimal_few k (pos n) h p = rw (decimal_pos n) (omega (arith, digits_few n k h p))
decimal_few k (negsuc n) h p = rw (decimal_neg n) (omega (arith, digits_few (suc n) k h p))
