-- Settings that are saved are decoded again, and values that are decoded are saved again.
use Rattle.std.specs.Prelude.{◌≡◌, Bool, true, false, ◌&&◌, ◌||◌, leb, ℤ, pos, length}
use Rattle.std.proofs.Math.Path.{refl, sym, ap, subst}
use Rattle.std.proofs.Common.{◌∙◌, add-zero, add-suc, suc-add, length-take, get_or-take, take_all}
use mathlib.Core.List.{List, [], ◌∷◌, ◌++◌}
use Prim.Native.Nat.{ℕ, zero, suc, ◌+◌, ◌-◌, ◌^◌, ◌≤◌, ◌<◌, min}
use Rattle.std.proofs.Math.Nat.{zero-add}
use Rattle.std.proofs.Math.Numerals.{add-one}
use native.Mathlib.Omega.{arith}
use Rattle.std.proofs.Math.Dec.{eqb}
use Rattle.std.proofs.Math.ListN.{get_or, take, length-append, get_or-append}
use Rattle.std.proofs.Math.Seq.{take_at, ext_get_or, take-suc}
use Rattle.std.proofs.lemmas.List.{get_or_at}
use borrow.Author.Tests.{lt-ltb, eq-eqb, ne_eqb, le-leb, leb-true, eqb-true}
use Rattle.integers.specs.Choice.{both}
use Rattle.integers.specs.Listed.{listed, listed_at, listed_length, listed_same}
use Rattle.integers.specs.Machine.{read_back}
use Rattle.integers.specs.TwosComplement.{as_word, word_back, value_back, word_most, as_word_is, from_word_is}
use Rattle.fields.specs.Fields.{length_of, sum_of, with_sumcheck}
use Rattle.fields.specs.RoundTrip.{Fit}
use Rattle.modes.specs.declared.Request.{Request}
use Rattle.modes.specs.declared.Request.TheVariants.{Manual, Auto, Remote}
use Rattle.words.specs.WordLaws.{weight_most}
use Rattle.words.specs.declared.UserBits.{UserBits}
use Rattle.parameters.specs.Legal.{Legal}
use Rattle.parameters.specs.LegalLaws.{value_most, by_place}
use Rattle.parameters.specs.Table.{value}
use Rattle.settings.specs.Settings.{request_number, fault_number, user_bits_number, value_at, values_of, request_in}
use Rattle.settings.specs.Settings.{user_bits_in, parameter_in, parameters_in, settings_in, is_sum_right, are_others_legal}
use Rattle.settings.specs.declared.Settings.{Settings}

-- ---- saved, then decoded

request_back : (r : Request) → request_in (request_number r) ≡ r
request_back Manual = refl
request_back Auto = refl
request_back Remote = refl

fault_back : (b : Bool) → eqb (fault_number b) 1 ≡ b
fault_back true = refl
fault_back false = refl

user_bits_back : (m : UserBits) → user_bits_in (user_bits_number m) ≡ m
unfolding user_bits_in user_bits_number
user_bits_back m = go m.user1 m.user2 m.measuredpower refl refl refl
  where
    go : (a b c : Bool) → m.user1 ≡ a → m.user2 ≡ b → m.measuredpower ≡ c → user_bits_in (user_bits_number m) ≡ m
    go true true true e f g = rw (e, f, g) refl
    go true true false e f g = rw (e, f, g) refl
    go true false true e f g = rw (e, f, g) refl
    go true false false e f g = rw (e, f, g) refl
    go false true true e f g = rw (e, f, g) refl
    go false true false e f g = rw (e, f, g) refl
    go false false true e f g = rw (e, f, g) refl
    go false false false e f g = rw (e, f, g) refl

request_legal : (r : Request) → leb (request_number r) 2 ≡ true
request_legal Manual = refl
request_legal Auto = refl
request_legal Remote = refl

fault_legal : (b : Bool) (r : Request) → (b ≡ true → r ≡ Manual) →
    (leb (fault_number b) 1 && (eqb (fault_number b) 0 || eqb (request_number r) 0)) ≡ true
fault_legal true r manual = rw (manual refl) refl
fault_legal false r manual = refl

user_bits_most : (m : UserBits) → user_bits_number m ≤ 7
unfolding user_bits_number
user_bits_most m = omega (arith, weight_most m.user1 1, weight_most m.user2 2, weight_most m.measuredpower 4)

user_bits_legal : (m : UserBits) → leb (user_bits_number m) 7 ≡ true
user_bits_legal m = le-leb (user_bits_number m) 7 (user_bits_most m)

request_fits : (r : Request) → request_number r < 256
request_fits Manual = omega arith
request_fits Auto = omega arith
request_fits Remote = omega arith

fault_fits : (b : Bool) → fault_number b < 256
fault_fits true = omega arith
fault_fits false = omega arith

fit_by : (vs : List ℕ) (first : ℕ) → ((n : ℕ) → n < length vs → get_or vs n 0 < 256 ^ length_of (first + n)) → Fit first vs
fit_by [] first f = tt
fit_by (v ∷ vs) first f = (
  rw (sym (add-zero first)) (f 0 (omega arith)),
  fit_by vs (suc first) (λ n h. rw (suc-add first n ∙ sym (add-suc first n)) (f (suc n) (omega arith))),
)

-- by the kind of field that a place has
by_field : (P : ℕ → Type 0) → ((n : ℕ) → n < 23 → P n) → P 23 → P 24 → P 25 → P 26 → (n : ℕ) → n < 27 → P n
by_field P f a b c d n h =
    by_place n 23 (f n) (λ q. subst P (sym q) a)
    (λ k. by_place n 24 (λ l. absurd (omega arith)) (λ q. subst P (sym q) b)
    (λ k. by_place n 25 (λ l. absurd (omega arith)) (λ q. subst P (sym q) c) (λ k. subst P (let e : 26 ≡ n = omega arith in e) d)))

module _ (s : Settings) where
  -- all values that are saved
  abbrev pub saved : List ℕ
  saved = with_sumcheck (values_of s)

  long : length (values_of s) ≡ 27
  unfolding values_of
  long = listed_length (value_at s) 0 27

  pub saved_length : length saved ≡ 28
  unfolding with_sumcheck
  saved_length = omega (arith, length-append (values_of s) (sum_of (values_of s) ∷ []), long)

  front : take 27 saved ≡ values_of s
  unfolding with_sumcheck
  front = take_at (values_of s) (sum_of (values_of s) ∷ []) 27 long

  pub saved_at : (n : ℕ) → n < 27 → get_or saved n 0 ≡ value_at s n
  unfolding with_sumcheck values_of
  saved_at n h =
      get_or-append (values_of s) (sum_of (values_of s) ∷ []) 0 n (omega (arith, long)) ∙ listed_at (value_at s) 0 0 27 n h ∙
      ap (value_at s) (zero-add n)

  pub saved_right : is_sum_right saved ≡ true
  unfolding is_sum_right with_sumcheck
  saved_right = eq-eqb _ _ (get_or_at (values_of s) (sum_of (values_of s)) [] 0 27 long ∙ sym (ap sum_of front))

  module _ (legal : Legal s.parameters) where
    parameter_at_lem : (n : ℕ) → n < 24 → parameter_in saved n ≡ value s.parameters n
    unfolding parameter_in value_at
    parameter_at_lem zero h = sym legal.unused
    parameter_at_lem (suc n) h =
        let e : get_or saved n 0 ≡ as_word (value s.parameters (suc n)) =
        saved_at n (omega arith) ∙ rw (lt-ltb n 23 (omega arith), add-one n) refl in
        let less : suc n - 1 ≡ n = omega arith in
        rw (ne_eqb (suc n) 0 (λ q. omega arith), less, e)
        (word_back (value s.parameters (suc n))
        (omega (arith, value_most s.parameters legal (suc n) (omega arith) (omega arith))))

    pub saved_parameters : parameters_in saved ≡ s.parameters
    unfolding parameters_in value
    saved_parameters =
        let f = parameter_in saved in
        ap (λ (l : List ℤ). record { values = l })
        (ext_get_or (pos 0) (listed f 0 24) s.parameters.values (listed_length f 0 24 ∙ sym legal.size)
        (λ n h. listed_at f (pos 0) 0 24 n (omega (arith, listed_length f 0 24)) ∙ ap f (zero-add n) ∙
        parameter_at_lem n (omega (arith, listed_length f 0 24))))

    -- the settings come back
    pub settings_back : settings_in saved ≡ s
    unfolding settings_in value_at
    settings_back =
        let op : get_or saved 23 0 ≡ s.op = saved_at 23 (omega arith) in
        let request : request_in (get_or saved 24 0) ≡ s.request = ap request_in (saved_at 24 (omega arith)) ∙ request_back s.request in
        let fault : eqb (get_or saved 25 0) 1 ≡ s.fault = ap (λ (n : ℕ). eqb n 1) (saved_at 25 (omega arith)) ∙ fault_back s.fault in
        let userbits : user_bits_in (get_or saved 26 0) ≡ s.userbits =
        ap user_bits_in (saved_at 26 (omega arith)) ∙ user_bits_back s.userbits in
        rw (saved_parameters, op, request, fault, userbits) refl

    -- and are legal
    pub saved_legal : s.op ≤ 9999 → (s.fault ≡ true → s.request ≡ Manual) → are_others_legal saved ≡ true
    unfolding are_others_legal value_at
    saved_legal most manual =
        rw (saved_at 23 (omega arith), saved_at 24 (omega arith), saved_at 25 (omega arith), saved_at 26 (omega arith))
        (rw (
          le-leb s.op 9999 most,
          request_legal s.request,
          fault_legal s.fault s.request manual,
          user_bits_legal s.userbits,
        ) refl)

    -- and fit their fields
    fits_at : s.op ≤ 65535 → (n : ℕ) → n < 27 → value_at s n < 256 ^ length_of n
    unfolding value_at length_of
    fits_at most =
        by_field (λ (n : ℕ). value_at s n < 256 ^ length_of n)
        (λ n h. rw (lt-ltb n 23 h, lt-ltb n 24 (omega arith))
        (let m = word_most (value s.parameters (n + 1))
        (omega (arith, value_most s.parameters legal (n + 1) (omega arith) (omega arith))) in omega (arith, m)))
        (omega arith) (request_fits s.request) (fault_fits s.fault) (let m = user_bits_most s.userbits in omega (arith, m))

    pub saved_fits : s.op ≤ 65535 → Fit 0 saved
    unfolding with_sumcheck sum_of length_of
    saved_fits most =
        fit_by saved 0
        (λ n h. by_place n 27 (λ l. rw (saved_at n l, zero-add n) (fits_at most n l))
        (λ q. subst (λ (k : ℕ). get_or saved k 0 < 256 ^ length_of (0 + k)) (sym q)
        (rw (get_or_at (values_of s) (sum_of (values_of s)) [] 0 27 long) (omega arith)))
        (λ l. absurd (omega (arith, saved_length))))

-- ---- decoded, then saved

-- a number that is decoded and encoded, tried at each that is legal
again : (f : ℕ → ℕ) (most v : ℕ) → listed f 0 (most + 1) ≡ listed (λ (n : ℕ). n) 0 (most + 1) → leb v most ≡ true → f v ≡ v
again f most v same e = listed_same f (λ (n : ℕ). n) 0 (most + 1) v same (omega arith) (omega (arith, leb-true v most e))

request_again : (v : ℕ) → leb v 2 ≡ true → request_number (request_in v) ≡ v
unfolding listed
request_again v e = again (λ (n : ℕ). request_number (request_in n)) 2 v refl e

fault_again : (v : ℕ) → leb v 1 ≡ true → fault_number (eqb v 1) ≡ v
unfolding listed
fault_again v e = again (λ (n : ℕ). fault_number (eqb n 1)) 1 v refl e

user_bits_again : (v : ℕ) → leb v 7 ≡ true → user_bits_number (user_bits_in v) ≡ v
unfolding user_bits_number user_bits_in listed
user_bits_again v e = again (λ (n : ℕ). user_bits_number (user_bits_in n)) 7 v refl e

-- what legal values satisfy besides the parameters
pub record Others (vs : List ℕ) : Type 0 where
  pub op : leb (get_or vs 23 0) 9999 ≡ true
  pub request : leb (get_or vs 24 0) 2 ≡ true
  pub fault : leb (get_or vs 25 0) 1 ≡ true
  pub manual : (eqb (get_or vs 25 0) 0 || eqb (get_or vs 24 0) 0) ≡ true
  pub userbits : leb (get_or vs 26 0) 7 ≡ true

pub others_of : (vs : List ℕ) → are_others_legal vs ≡ true → Others vs
unfolding are_others_legal
others_of vs e =
    let op = leb (get_or vs 23 0) 9999 in
    let request = leb (get_or vs 24 0) 2 in
    let fault = leb (get_or vs 25 0) 1 in
    let manual = eqb (get_or vs 25 0) 0 || eqb (get_or vs 24 0) 0 in
    let userbits = leb (get_or vs 26 0) 7 in
    let first = both ((op && request) && (fault && manual)) userbits e in
    let second = both (op && request) (fault && manual) first.0 in
    let third = both op request second.0 in
    let fourth = both fault manual second.1 in
    record { op = third.0; request = third.1; fault = fourth.0; manual = fourth.1; userbits = first.1 }

module _ (vs : List ℕ) (size : length vs ≡ 28) (words : (n : ℕ) → get_or vs n 0 < 65536) (others : Others vs) where
  decoded_at : (n : ℕ) → n < 27 → value_at (settings_in vs) n ≡ get_or vs n 0
  unfolding value_at settings_in parameters_in parameter_in value
  decoded_at =
      by_field (λ (n : ℕ). value_at (settings_in vs) n ≡ get_or vs n 0)
      (λ n h. let f = parameter_in vs in
      let less : n + 1 - 1 ≡ n = omega arith in
      rw (lt-ltb n 23 h, listed_at f (pos 0) 0 24 (n + 1) (omega arith), zero-add (n + 1), ne_eqb (n + 1) 0 (λ q. omega arith), less)
      (value_back (get_or vs n 0) (words n)))
      refl (request_again (get_or vs 24 0) others.request) (fault_again (get_or vs 25 0) others.fault)
      (user_bits_again (get_or vs 26 0) others.userbits)

  -- the values come back
  pub values_again : is_sum_right vs ≡ true → with_sumcheck (values_of (settings_in vs)) ≡ vs
  unfolding is_sum_right with_sumcheck values_of
  values_again right =
      let f = value_at (settings_in vs) in
      let front : listed f 0 27 ≡ take 27 vs =
      ext_get_or 0 (listed f 0 27) (take 27 vs)
      (listed_length f 0 27 ∙ sym (length-take 27 vs ∙ (let m : min 27 (length vs) ≡ 27 = omega arith in m)))
      (λ n h. let l : n < 27 = omega (arith, listed_length f 0 27) in
      listed_at f 0 0 27 n l ∙ ap f (zero-add n) ∙ decoded_at n l ∙ sym (get_or-take 27 vs n 0 l)) in
      let last : get_or vs 27 0 ≡ sum_of (take 27 vs) = eqb-true _ _ right in
      let whole : vs ≡ take 27 vs ++ (get_or vs 27 0 ∷ []) = sym (take_all 28 vs (omega arith)) ∙ take-suc vs 27 0 (omega arith) in
      rw front (ap (λ (n : ℕ). take 27 vs ++ (n ∷ [])) (sym last) ∙ sym whole)

-- for `grind`, where a parameter becomes a word or is read off one
pub ruleset words = (read_back, from_word_is, as_word_is, value_most)
