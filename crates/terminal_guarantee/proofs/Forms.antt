-- What the rules take a line for is what its bytes ask.
use Rattle.std.specs.Prelude.{if◌then◌else◌}
use mathlib.Core.Logic.{inl, inr}
use mathlib.Core.Path.{◌≡◌, refl, sym, ap, subst, ◌∙◌}
use mathlib.Core.Bool.{Bool, true, false, ◌&&◌}
use mathlib.Core.List.{List, ◌∷◌}
use mathlib.Core.Option.{Option, some, none}
use Prim.Native.Nat.{ℕ}
use native.Mathlib.Omega.{arith}
use lib.Dec.{eqb, leb}
use lib.IntN.{ℤ, pos}
use lib.ListN.{length, drop}
use borrow.Author.Tests.{eqb-true, eq-eqb, leb-true, leb-false, le-leb, lt-leb, lt-ltb}
use Rattle.integers.specs.Choice.{both}
use Rattle.numerals.specs.Numerals.{digits_of, with_sign, integer_of, word_of}
use Rattle.numerals.specs.Reading.{some_of}
use Rattle.numerals.specs.Shortest.{natural_some, not_minus, integer_some, headed}
use Rattle.terminal.specs.Commands.{is_word, unsigned, value_of}
use Rattle.terminal_guarantee.specs.PlaceValue.{Number}
use Rattle.terminal_guarantee.proofs.PlaceValue.{number_read, read_number}
use Rattle.terminal_guarantee.specs.Forms.{MnemonicBytes, IsWord, IsDecimal, Few, Value, word, plain, minus}

-- two things that can't both be
pub apart : {A : Type 0} → ◌≡◌ {A = ℕ} 0 1 → A
apart e = absurd (omega arith)

-- ---- the bytes of the mnemonics

pub mnemonic_bytes : MnemonicBytes
mnemonic_bytes = (refl, refl)

-- ---- which parameters are words

pub is_word_lem : (n : ℕ) → is_word n ≡ true → IsWord n
unfolding is_word
is_word_lem n e = let t = both (leb 24 n) (leb n 27) e in (leb-true 24 n t.0, leb-true n 27 t.1)

pub word_is : (n : ℕ) → IsWord n → is_word n ≡ true
unfolding is_word
word_is n h = rw (le-leb 24 n h.0, le-leb n 27 h.1) refl

pub is_decimal : (n : ℕ) → is_word n ≡ false → IsDecimal n
unfolding is_word
is_decimal n e = go (leb 24 n) refl (leb n 27) refl e
  where
    go : (s : Bool) → leb 24 n ≡ s → (t : Bool) → leb n 27 ≡ t → s && t ≡ false → IsDecimal n
    go false f t g h = inl (leb-false 24 n f)
    go true f false g h = inr (leb-false n 27 g)
    go true f true g h = let z : ◌≡◌ {A = ℕ} 0 1 = cc in apart z

pub decimal_is : (n : ℕ) → IsDecimal n → is_word n ≡ false
unfolding is_word
decimal_is n (inl h) = rw (lt-leb 24 n h) refl
decimal_is n (inr h) = rw (le-leb 24 n (omega arith), lt-leb n 27 h) refl

-- ---- digits

-- digits that the rules read are a number, as many as are taken
record Digits (base : ℕ) (ds : List ℕ) (n : ℕ) : Type 0 where
  number : Number base ds n
  few : Few ds

digits_of_lem : (ds : List ℕ) (n : ℕ) → digits_of 10 5 ds ≡ some n → Digits 10 ds n
digits_of_lem ds n e =
    let t = natural_some 5 n ds e in
    record { number = read_number 10 (omega arith) n ds t.2; few = record { some = t.0; few = t.1 } }

digits_read : (ds : List ℕ) (v : ℕ) → Few ds → Number 10 ds v → digits_of 10 5 ds ≡ some v
unfolding digits_of
digits_read ds v few n =
    simp (lt-ltb 0 (length ds) few.some, le-leb (length ds) 5 few.few)
    (number_read 10 (omega arith) 0 v ds n ∙ ap some (omega arith))

word_of_lem : (ds : List ℕ) (w : ℕ) → word_of ds ≡ some w → (length ds ≡ 4) × Number 16 ds w
unfolding word_of
word_of_lem ds w e =
    let t = some_of (eqb (length ds) 4) _ w e in
    (eqb-true (length ds) 4 t.0, read_number 16 (omega arith) w ds t.1)

word_read : (ds : List ℕ) (v : ℕ) → length ds ≡ 4 → Number 16 ds v → word_of ds ≡ some v
unfolding word_of
word_read ds v four n = simp (eq-eqb (length ds) 4 four) (number_read 16 (omega arith) 0 v ds n ∙ ap some (omega arith))

-- ---- values

decimal_form : (n : ℕ) (bytes : List ℕ) (z : ℤ) → IsDecimal n → integer_of 5 bytes ≡ some z → Value n bytes z
decimal_form n bytes z decimal e =
    integer_some 5 bytes z e
    (λ v sign f is.
    let d = digits_of_lem (drop 1 bytes) v f in
    subst (λ (l : List ℕ). Value n l z) (sym (headed 45 bytes d.few.some sign))
    (subst (Value n (45 ∷ drop 1 bytes)) is (minus decimal d.few d.number)))
    (λ v f is. let d = digits_of_lem bytes v f in subst (Value n bytes) is (plain decimal d.few d.number))

unsigned_of : {P : Type 0} (o : Option ℕ) (z : ℤ) → unsigned o ≡ some z → ((w : ℕ) → o ≡ some w → pos w ≡ z → P) → P
unsigned_of none z e f = let w : ◌≡◌ {A = ℕ} 0 1 = cc in apart w
unsigned_of (some w) z e f = f w refl (cc)

pub value_form : (n : ℕ) (bytes : List ℕ) (z : ℤ) → value_of n bytes ≡ some z → Value n bytes z
unfolding value_of
value_form n bytes z e = go (is_word n) refl e
  where
    go : (t : Bool) → is_word n ≡ t → (if t then unsigned (word_of bytes) else integer_of 5 bytes) ≡ some z → Value n bytes z
    go true f g =
        unsigned_of (word_of bytes) z g (λ w h is.
        let r = word_of_lem bytes w h in subst (Value n bytes) is (word (is_word_lem n f) r.0 r.1))
    go false f g = decimal_form n bytes z (is_decimal n f) g

pub form_value : {n : ℕ} {bytes : List ℕ} {z : ℤ} → Value n bytes z → value_of n bytes ≡ some z
unfolding value_of integer_of with_sign
form_value {n} (word {ds} {v} h four k) = rw (word_is n h, word_read ds v four k) refl
form_value {n} (plain {ds} {v} h few k) =
    let no_sign = not_minus _ ds (number_read 10 (omega arith) 0 v ds k) in rw (decimal_is n h, no_sign, digits_read ds v few k) refl
form_value {n} (minus {ds} {v} h few k) = rw (decimal_is n h, digits_read ds v few k) refl
