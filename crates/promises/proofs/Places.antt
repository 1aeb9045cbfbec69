-- An image by the places of its bytes: what the rules decode of it is what stands there.
use Rattle.std.specs.Prelude.{if◌then◌else◌}
use mathlib.Core.Path.{◌≡◌, refl, sym, ap, subst, ◌∙◌}
use mathlib.Core.Bool.{Bool, true, false, ◌&&◌}
use mathlib.Core.List.{List}
use Prim.Native.Nat.{ℕ, zero, suc, ◌+◌, ◌-◌, ◌*◌, ◌≤◌, ◌<◌}
use native.Mathlib.Nat.{zero-add}
use native.Mathlib.Omega.{arith}
use lib.Dec.{eqb}
use lib.IntN.{ℤ, pos}
use lib.ListN.{get_or, drop}
use lib.Seq.{get_or-drop, ext_get_or}
use borrow.Author.Tests.{lt-ltb, eqb-false}
use Rattle.integers.specs.Listed.{listed, listed_at, listed_length, listed_same}
use Rattle.integers.specs.TwosComplement.{from_word}
use Rattle.fields.specs.Decoding.{has_header, well_formed_from, value_in, values_from}
use Rattle.fields.specs.Fields.{tag_of, length_of}
use Rattle.parameters.specs.Legal.{are_legal}
use Rattle.parameters.specs.Range.{every}
use Rattle.parameters.specs.Repaired.{widest_output, ranged_value, by_range, paired_value, by_pairs, setpoint_and_ratio_limited, repaired}
use Rattle.parameters.specs.Table.{value, with_value, rule_of}
use Rattle.parameters.specs.Written.{limited_anew}
use Rattle.parameters.specs.declared.Parameters.{Parameters}
use Rattle.settings.specs.Settings.{parameter_in, parameters_in, are_others_legal}
use Rattle.controller.specs.Restart.{values_in, is_legal, is_sound}
use Rattle.guarantee.specs.Bytes.{word_at}
use Rattle.guarantee.proofs.Brought.{fault_at, op_at, sum_is}
use Rattle.promises.specs.Restarts.{headers_from, headers_right, parameter_at, legal_from, parameters_legal, others_legal, sound}
use Rattle.promises.specs.Restarts.{ranged, paired, repaired_value}
use Rattle.promises.specs.Table.{least, most, in_order, default}

-- ---- tags and lengths

and_true : (a : Bool) → a && true ≡ a
and_true true = refl
and_true false = refl

pub well_formed_is : (image : List ℕ) → well_formed_from 0 28 image ≡ headers_right image
unfolding well_formed_from has_header tag_of length_of headers_right headers_from
well_formed_is image = simp (get_or-drop, and_true)

-- ---- values

-- values of two bytes stand every five
words_from : (n place many : ℕ) (b : List ℕ) → place + n < 24 → n < many → get_or (values_from place many b) n 0 ≡ word_at b (5 * n + 3)
unfolding values_from value_in length_of
words_from n place zero b h l = absurd (omega arith)
words_from zero place (suc many) b h l = rw (lt-ltb place 24 (omega arith)) (omega arith)
words_from (suc n) place (suc many) b h l =
    let high : 5 + (5 * n + 3) ≡ 5 * suc n + 3 = omega arith in
    let low : 5 + (5 * n + 3 + 1) ≡ 5 * suc n + 3 + 1 = omega arith in
    rw (lt-ltb place 24 (omega arith))
    (words_from n (suc place) many (drop 5 b) (omega arith) (omega arith)
    ∙ simp get_or-drop (rw (high, low)))

pub word_at_lem : (image : List ℕ) (n : ℕ) → n < 24 → get_or (values_in image) n 0 ≡ word_at image (5 * n + 3)
word_at_lem image n h = words_from n 0 28 image (omega arith) (omega arith)

pub request_at : (image : List ℕ) → get_or (values_in image) 24 0 ≡ get_or image 123 0
unfolding values_from value_in length_of
request_at image = simp get_or-drop

pub user_bits_at : (image : List ℕ) → get_or (values_in image) 26 0 ≡ get_or image 131 0
unfolding values_from value_in length_of
user_bits_at image = simp get_or-drop

-- ---- parameters 1 to 23

-- the words of the parameters, by their places
words : List ℕ → List ℕ
words image = listed (λ (k : ℕ). word_at image (5 * k + 3)) 0 23

same_parameter : (image : List ℕ) (n : ℕ) → n < 24 → parameter_in (values_in image) n ≡ parameter_in (words image) n
unfolding parameter_in words
same_parameter image n h = go (eqb n 0) refl
  where
    go : (t : Bool) → eqb n 0 ≡ t →
        (if t then pos 0 else from_word (get_or (values_in image) (n - 1) 0)) ≡
        (if t then pos 0 else from_word (get_or (words image) (n - 1) 0))
    go true e = refl
    go false e =
        let some = eqb-false n 0 e in
        ap from_word
        (word_at_lem image (n - 1) (omega arith) ∙
        sym (listed_at (λ (k : ℕ). word_at image (5 * k + 3)) 0 0 23 (n - 1) (omega arith) ∙
        ap (λ (k : ℕ). word_at image (5 * k + 3)) (zero-add (n - 1))))

parameters_at : (image : List ℕ) → parameters_in (values_in image) ≡ parameters_in (words image)
unfolding parameters_in
parameters_at image =
    let f = parameter_in (values_in image) in
    let g = parameter_in (words image) in
    ap (λ (values : List ℤ). record { values = values })
    (ext_get_or (pos 0) (listed f 0 24) (listed g 0 24) (listed_length f 0 24 ∙ sym (listed_length g 0 24))
    (λ n h.
    let l : n < 24 = subst (λ (m : ℕ). n < m) (listed_length f 0 24) h in
    listed_at f (pos 0) 0 24 n l ∙ ap f (zero-add n) ∙ same_parameter image n l ∙ sym (listed_at g (pos 0) 0 24 n l ∙ ap g (zero-add n))))

pub parameter_at_lem : (image : List ℕ) (n : ℕ) → 1 ≤ n → n ≤ 23 → value (parameters_in (values_in image)) n ≡ parameter_at image n
unfolding parameters_in parameter_in words value listed from_word parameter_at
parameter_at_lem image n h k =
    ap (λ (p : Parameters). value p n) (parameters_at image) ∙
    listed_same (value (parameters_in (words image))) (parameter_at image) 1 23 n refl h (omega arith)

-- parameters that keep every row are legal by the columns
pub legal_columns : (p : Parameters) → are_legal p ≡ legal_from (value p) 1 23
unfolding are_legal legal_from every rule_of least most in_order
legal_columns p = refl

pub legal_is : (image : List ℕ) → are_legal (parameters_in (values_in image)) ≡ parameters_legal image
unfolding parameters_in parameter_in words value listed from_word parameter_at are_legal parameters_legal legal_from every rule_of least
    most in_order
legal_is image = ap are_legal (parameters_at image)

pub repaired_at : (image : List ℕ) (n : ℕ) → 1 ≤ n → n ≤ 23 → value (repaired (parameters_in (values_in image))) n ≡ repaired_value image n
unfolding parameters_in parameter_in words value with_value listed from_word parameter_at repaired setpoint_and_ratio_limited limited_anew
    by_pairs
    paired_value by_range ranged_value widest_output rule_of least most in_order default ranged paired repaired_value
repaired_at image n h k =
    ap (λ (p : Parameters). value (repaired p) n) (parameters_at image) ∙
    listed_same (value (repaired (parameters_in (words image)))) (repaired_value image) 1 23 n refl h (omega arith)

-- ---- the rest

others_are : (image : List ℕ) → are_others_legal (values_in image) ≡ others_legal image
unfolding are_others_legal others_legal
others_are image = rw (op_at image, request_at image, fault_at image, user_bits_at image) refl

pub values_legal : (image : List ℕ) → is_legal (values_in image) ≡ (parameters_legal image && others_legal image)
unfolding is_legal
values_legal image = rw (legal_is image, others_are image) refl

pub sound_is : (image : List ℕ) → is_sound image ≡ sound image
unfolding is_sound sound
sound_is image = rw (well_formed_is image, sum_is image, values_legal image) refl
