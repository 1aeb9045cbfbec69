-- Digits of any base that are read: what is written reads back, and as many others that read so are the same.
use Rattle.std.specs.Prelude.{◌≡◌, refl, Bool, true, false, cond, ltb, drop, get_or}
use Rattle.std.proofs.Math.Path.{sym, ap}
use Rattle.std.proofs.Common.{◌∙◌, div-lt_iff_lt-mul, add-one, arith, drop_of_length-le}
use mathlib.Core.List.{List, [], ◌∷◌, ◌++◌}
use Rattle.std.proofs.Math.Option.{Option, none, some}
use Prim.Native.Nat.{ℕ, zero, suc, ◌+◌, ◌*◌, ◌/◌, ◌%◌, ◌^◌, ◌≤◌, ◌<◌}
use Rattle.std.proofs.Math.Nat.{pow-zero, pow-suc, div-add-mod', mod-lt, mul-le-mul_right, mul-add-div_right, div-eq_of_lt}
use Rattle.std.proofs.Math.Nat.{pow-le-pow_right}
use Rattle.std.proofs.Math.ListN.{length}
use Rattle.std.proofs.Math.Seq.{drop-cons}
use borrow.Author.Tests.{ltb-true, lt-ltb, le-ltb}
use Rattle.numerals.specs.Numerals.{digit_byte, last_digits, digit_value, read_on}
use Rattle.numerals.specs.DigitLaws.{byte_value, value_byte}

-- a choice that gave a number took its first arm
pub some_of : {A : Type 0} (t : Bool) (x : Option A) (a : A) → cond t x none ≡ some a → (t ≡ true) × (x ≡ some a)
some_of true x a e = (refl, e)
some_of false x a e = let z : ◌≡◌ {A = ℕ} 0 1 = cc in absurd (omega arith)

-- ---- read back

module _ (b : ℕ) (base : 1 < b) (top : b ≤ 16) where
  -- one digit more at the end
  pub read_snoc : (v w d : ℕ) (ds : List ℕ) → read_on b v ds ≡ some w → digit_value d < b
      → read_on b v (ds ++ (d ∷ [])) ≡ some (w * b + digit_value d)
  unfolding read_on
  read_snoc v w d [] e h = let f : v ≡ w = cc in simp (lt-ltb (digit_value d) b h, f)
  read_snoc v w d (c ∷ ds) e h =
      let t = some_of (ltb (digit_value c) b) _ w e in
      simp t.0 (read_snoc (v * b + digit_value c) w d ds t.1 h)

  pub read_last : (k n : ℕ) → n < b ^ k → read_on b 0 (last_digits b k n) ≡ some n
  unfolding last_digits read_on
  read_last zero n h = let e : n ≡ 0 = omega (arith, pow-zero b) in cc
  read_last (suc k) n h =
      let m = mod-lt n {m = b} (omega arith) in
      let v : digit_value (digit_byte (n % b)) ≡ n % b = byte_value (n % b) (omega arith) in
      let q = (div-lt_iff_lt-mul {k = b} {x = n} {y = b ^ k} (omega arith)).1 (rw pow-suc at h) in
      let r = read_snoc 0 (n / b) (digit_byte (n % b)) (last_digits b k (n / b)) (read_last k (n / b) q) (omega arith) in
      r ∙ ap some (omega (arith, div-add-mod' n b))

  -- ---- nothing else

  -- what so many digits can hold
  pub read_below : (v n : ℕ) (ds : List ℕ) → read_on b v ds ≡ some n → n < (v + 1) * b ^ length ds
  unfolding read_on
  read_below v n [] e = let f : v ≡ n = cc in rw pow-zero (omega arith)
  read_below v n (d ∷ ds) e =
      let t = some_of (ltb (digit_value d) b) _ n e in
      let l = ltb-true (digit_value d) b t.0 in
      let r = read_below (v * b + digit_value d) n ds t.1 in
      let p = b ^ length ds in
      let m : (v * b + digit_value d + 1) * p ≤ ((v + 1) * b) * p = mul-le-mul_right p (omega arith) in
      rw pow-suc (omega arith)

  last_digit : (v w x y : ℕ) → x < b → y < b → v * b + x ≡ w * b + y → (v ≡ w) × (x ≡ y)
  last_digit v w x y h k e =
      let first = mul-add-div_right {m = b} (omega arith) v x in
      let second = mul-add-div_right {m = b} (omega arith) w y in
      let p : v ≡ w = omega (arith, ap (λ (n : ℕ). n / b) e, first, second, div-eq_of_lt h, div-eq_of_lt k) in
      (p, omega (arith, ap (λ (n : ℕ). n * b) p))

  -- as many digits that read as the same number are the same
  pub read_same : (v w n : ℕ) (ds es : List ℕ) → read_on b v ds ≡ some n → read_on b w es ≡ some n → length ds ≡ length es
      → (v ≡ w) × (ds ≡ es)
  unfolding read_on
  read_same v w n [] [] e f l = ((cc), refl)
  read_same v w n [] (y ∷ es) e f l = absurd (omega arith)
  read_same v w n (x ∷ ds) [] e f l = absurd (omega arith)
  read_same v w n (x ∷ ds) (y ∷ es) e f l =
      let s = some_of (ltb (digit_value x) b) _ n e in
      let t = some_of (ltb (digit_value y) b) _ n f in
      let hx = ltb-true (digit_value x) b s.0 in
      let hy = ltb-true (digit_value y) b t.0 in
      let r = read_same (v * b + digit_value x) (w * b + digit_value y) n ds es s.1 t.1 (omega arith) in
      let d = last_digit v w (digit_value x) (digit_value y) hx hy r.0 in
      let z : x ≡ y = sym (value_byte x (omega arith)) ∙ ap digit_byte d.1 ∙ value_byte y (omega arith) in
      let same : ds ≡ es = r.1 in
      (d.0, (cc))

-- so many digits hold no more
pub read_most : (b k n : ℕ) (s : List ℕ) → 1 < b → b ≤ 16 → length s ≤ k → read_on b 0 s ≡ some n → n < b ^ k
read_most b k n s h t l e =
    omega (arith, read_below b h t 0 n s e, pow-le-pow_right {n = b} (omega arith) {i = length s} {j = k} l)

-- ---- one by one

module _ (b v : ℕ) (s : List ℕ) (i : ℕ) where
  pub read_more : i < length s → digit_value (get_or s i 0) < b →
      read_on b v (drop i s) ≡ read_on b (v * b + digit_value (get_or s i 0)) (drop (i + 1) s)
  unfolding read_on
  read_more h k = rw (add-one, drop-cons s i 0) (simp (lt-ltb (digit_value (get_or s i 0)) b k))

  pub read_fails : i < length s → b ≤ digit_value (get_or s i 0) → read_on b v (drop i s) ≡ none
  unfolding read_on
  read_fails h k = rw (drop-cons s i 0) (simp (le-ltb (digit_value (get_or s i 0)) b k))

  pub read_ends : length s ≤ i → read_on b v (drop i s) ≡ some v
  unfolding read_on
  read_ends h = rw (drop_of_length-le s {i = i} h)
