-- Values that are encoded are decoded again, and fields that are decoded are encoded as the same bytes.
use Rattle.std.specs.Prelude.{◌≡◌, ℕ, zero, suc, ◌+◌, ◌*◌, ◌/◌, ◌%◌, ◌^◌, ◌<◌, ◌≤◌, true, ◌&&◌, List, [], ◌∷◌, ◌++◌, length, drop, ◌==◌}
use Rattle.std.specs.Prelude.{slice_index, refl}
use Rattle.std.proofs.Common.{ap, ◌∙◌, append-nil, append_assoc, not-suc-le-zero, add-zero, zero-add, arith, length-append, length-drop}
use Rattle.std.proofs.Common.{get_or-drop, eq-eqb, eqb-true}
use Rattle.integers.specs.Choice.{both}
use Rattle.fields.specs.FieldLaws.{by_length, length_field, start_of, next_start, start_grows}
use Rattle.fields.specs.Fields.{tag_of, length_of, value_bytes, field_bytes, fields_from}
use Rattle.fields.specs.Decoding.{has_header, value_in, well_formed_from, values_from}

pub well_formed_more : (place many : ℕ) (b : List ℕ) → has_header (tag_of place) (length_of place) b ≡ true →
    well_formed_from place (suc many) b ≡ well_formed_from (suc place) many (drop (3 + length_of place) b)
unfolding well_formed_from
well_formed_more place many b h = rw h

pub values_more : (place many : ℕ) (b : List ℕ) →
    values_from place (suc many) b ≡ value_in (length_of place) b ∷ values_from (suc place) many (drop (3 + length_of place) b)
unfolding values_from
values_more place many b = refl

-- ---- encoded, then decoded

-- each value fits its field, from this place on
abbrev pub Fit : ℕ → List ℕ → Type 0
Fit place [] = Unit {0}
Fit place (v ∷ vs) = (v < 256 ^ length_of place) × Fit (suc place) vs

header_of : (tag v : ℕ) (rest : List ℕ) (place : ℕ) → has_header tag (length_of place) (field_bytes tag (length_of place) v ++ rest) ≡ true
unfolding has_header field_bytes value_bytes
header_of tag v rest place =
    by_length (λ (n : ℕ). has_header tag n (field_bytes tag n v ++ rest) ≡ true) (rw (eq-eqb tag tag refl)) (rw (eq-eqb tag tag refl)) place

rest_of : (tag v : ℕ) (rest : List ℕ) (place : ℕ) → drop (3 + length_of place) (field_bytes tag (length_of place) v ++ rest) ≡ rest
unfolding field_bytes value_bytes
rest_of tag v rest place = by_length (λ (n : ℕ). drop (3 + n) (field_bytes tag n v ++ rest) ≡ rest) refl refl place

value_of : (tag v : ℕ) (rest : List ℕ) (place : ℕ) → v < 256 ^ length_of place →
    value_in (length_of place) (field_bytes tag (length_of place) v ++ rest) ≡ v
unfolding value_in field_bytes value_bytes
value_of tag v rest place =
    by_length (λ (n : ℕ). v < 256 ^ n → value_in n (field_bytes tag n v ++ rest) ≡ v) (λ h. omega arith) (λ h. omega arith) place

pub encoded_well_formed : (vs : List ℕ) (place : ℕ) (rest : List ℕ) →
    well_formed_from place (length vs) (fields_from place vs ++ rest) ≡ true
unfolding fields_from well_formed_from
encoded_well_formed [] place rest = refl
encoded_well_formed (v ∷ vs) place rest =
    let field = field_bytes (tag_of place) (length_of place) v in
    let b = (field ++ fields_from (suc place) vs) ++ rest in
    let a : b ≡ field ++ (fields_from (suc place) vs ++ rest) = append_assoc field (fields_from (suc place) vs) rest in
    cc (
      well_formed_more place (length vs) b (ap (has_header (tag_of place) (length_of place)) a ∙ header_of (tag_of place) v _ place),
      rest_of (tag_of place) v (fields_from (suc place) vs ++ rest) place,
      encoded_well_formed vs (suc place) rest,
    )

pub encoded_values : (vs : List ℕ) (place : ℕ) (rest : List ℕ) → Fit place vs →
    values_from place (length vs) (fields_from place vs ++ rest) ≡ vs
unfolding fields_from values_from
encoded_values [] place rest f = refl
encoded_values (v ∷ vs) place rest f =
    let field = field_bytes (tag_of place) (length_of place) v in
    let b = (field ++ fields_from (suc place) vs) ++ rest in
    let a : b ≡ field ++ (fields_from (suc place) vs ++ rest) = append_assoc field (fields_from (suc place) vs) rest in
    cc (
      values_more place (length vs) b,
      value_of (tag_of place) v (fields_from (suc place) vs ++ rest) place f.0,
      rest_of (tag_of place) v (fields_from (suc place) vs ++ rest) place,
      encoded_values vs (suc place) rest f.1,
    )

-- ---- decoded, then encoded

-- each element is a byte
abbrev pub Bytes : List ℕ → Type 0
Bytes b = (k : ℕ) → slice_index b k < 256

-- what begins with a field is that field and the rest
field_two : (tag : ℕ) (b : List ℕ) → 5 ≤ length b → Bytes b → has_header tag 2 b ≡ true → field_bytes tag 2 (value_in 2 b) ++ drop 5 b ≡ b
unfolding field_bytes value_bytes has_header value_in
field_two tag [] h y e = absurd (not-suc-le-zero h)
field_two tag (a ∷ []) h y e = let n : ⊥ = omega arith in absurd n
field_two tag (a ∷ b ∷ []) h y e = let n : ⊥ = omega arith in absurd n
field_two tag (a ∷ b ∷ c ∷ []) h y e = let n : ⊥ = omega arith in absurd n
field_two tag (a ∷ b ∷ c ∷ d ∷ []) h y e = let n : ⊥ = omega arith in absurd n
field_two tag (a ∷ b ∷ c ∷ d ∷ f ∷ r) h y e =
    let low : f < 256 = y 4 in
    let e0 : a ≡ tag = eqb-true _ _ (both (a == tag) _ e).0 in
    let e12 : (b == 0 && c == 2) ≡ true = (both (a == tag) _ e).1 in
    let e1 : b ≡ 0 = eqb-true _ _ (both (b == 0) _ e12).0 in
    let e2 : c ≡ 2 = eqb-true _ _ (both (b == 0) _ e12).1 in
    let e3 : (d * 256 + f) / 256 ≡ d = omega arith in
    let e4 : (d * 256 + f) % 256 ≡ f = omega arith in
    cc

field_one : (tag : ℕ) (b : List ℕ) → 4 ≤ length b → Bytes b → has_header tag 1 b ≡ true → field_bytes tag 1 (value_in 1 b) ++ drop 4 b ≡ b
unfolding field_bytes value_bytes has_header value_in
field_one tag [] h y e = absurd (not-suc-le-zero h)
field_one tag (a ∷ []) h y e = let n : ⊥ = omega arith in absurd n
field_one tag (a ∷ b ∷ []) h y e = let n : ⊥ = omega arith in absurd n
field_one tag (a ∷ b ∷ c ∷ []) h y e = let n : ⊥ = omega arith in absurd n
field_one tag (a ∷ b ∷ c ∷ d ∷ r) h y e =
    let low : d < 256 = y 3 in
    let e0 : a ≡ tag = eqb-true _ _ (both (a == tag) _ e).0 in
    let e12 : (b == 0 && c == 1) ≡ true = (both (a == tag) _ e).1 in
    let e1 : b ≡ 0 = eqb-true _ _ (both (b == 0) _ e12).0 in
    let e2 : c ≡ 1 = eqb-true _ _ (both (b == 0) _ e12).1 in
    let e3 : d % 256 ≡ d = omega arith in
    cc

field_is : (tag place : ℕ) (b : List ℕ) → 3 + length_of place ≤ length b → Bytes b → has_header tag (length_of place) b ≡ true →
    field_bytes tag (length_of place) (value_in (length_of place) b) ++ drop (3 + length_of place) b ≡ b
field_is tag place b =
    by_length (λ (n : ℕ). 3 + n ≤ length b → Bytes b → has_header tag n b ≡ true → field_bytes tag n (value_in n b) ++ drop (3 + n) b ≡ b)
    (field_one tag b) (field_two tag b) place

drop_bytes : (n : ℕ) (b : List ℕ) → Bytes b → Bytes (drop n b)
drop_bytes n b y = λ k. rw get_or-drop (y (n + k))

-- so many fields from this place on, with no byte behind them
decoded_fields : (many place : ℕ) (b : List ℕ) → place + many ≤ 28 → start_of place + length b ≡ start_of (place + many) → Bytes b →
    well_formed_from place many b ≡ true →
    fields_from place (values_from place many b) ≡ b
unfolding fields_from values_from well_formed_from
decoded_fields zero place [] h e y f = refl
decoded_fields zero place (x ∷ b) h e y f =
    let z : start_of (place + 0) ≡ start_of place = ap start_of (add-zero place) in
    let n : ⊥ = omega arith in absurd n
decoded_fields (suc many) place b h e y f =
    let hd : has_header (tag_of place) (length_of place) b ≡ true = (both (has_header (tag_of place) (length_of place) b) _ f).0 in
    let o : start_of place + (3 + length_of place) ≡ start_of (place + 1) = next_start place (omega arith) in
    let s : place + suc many ≡ suc place + many = omega arith in
    let s1 : place + 1 ≡ suc place = omega arith in
    let oe : start_of (place + suc many) ≡ start_of (suc place + many) = ap start_of s in
    let o1 : start_of (place + 1) ≡ start_of (suc place) = ap start_of s1 in
    let up : start_of (suc place) ≤ start_of (suc place + many) = start_grows many (suc place) (omega arith) in
    let fit : 3 + length_of place ≤ length b = omega arith in
    let rest : fields_from (suc place) (values_from (suc place) many (drop (3 + length_of place) b)) ≡ drop (3 + length_of place) b =
    decoded_fields many (suc place) (drop (3 + length_of place) b) (omega arith) (omega (arith, length-drop (3 + length_of place) b))
    (drop_bytes (3 + length_of place) b y)
    (both (has_header (tag_of place) (length_of place) b) _ f).1 in
    cc (field_is (tag_of place) place b fit y hd)

-- ---- at a whole image

pub saved_well_formed : (vs : List ℕ) → length vs ≡ 28 → well_formed_from 0 28 (fields_from 0 vs) ≡ true
saved_well_formed vs size = cc (encoded_well_formed vs 0 [], append-nil (fields_from 0 vs))

pub saved_values : (vs : List ℕ) → length vs ≡ 28 → Fit 0 vs → values_from 0 28 (fields_from 0 vs) ≡ vs
saved_values vs size fit = cc (encoded_values vs 0 [] fit, append-nil (fields_from 0 vs))

pub saved_again : (b : List ℕ) → length b ≡ 137 → Bytes b → well_formed_from 0 28 b ≡ true → fields_from 0 (values_from 0 28 b) ≡ b
unfolding start_of
saved_again b size bytes formed = decoded_fields 28 0 b (omega arith) (zero-add (length b) ∙ size) bytes formed

-- every value of bytes is a word of 16 bits
value_most : (place : ℕ) (b : List ℕ) → Bytes b → value_in (length_of place) b < 65536
unfolding value_in
value_most place b y =
    let high = y 3 in
    let low = y 4 in
    by_length (λ (n : ℕ). value_in n b < 65536) (omega arith) (omega arith) place

pub words_of : (many place : ℕ) (b : List ℕ) → Bytes b → (n : ℕ) → slice_index (values_from place many b) n < 65536
unfolding values_from
words_of zero place b y n = omega arith
words_of (suc many) place b y zero = value_most place b y
words_of (suc many) place b y (suc n) = words_of many (suc place) (drop (3 + length_of place) b) (drop_bytes (3 + length_of place) b y) n

pub values_length : (many place : ℕ) (b : List ℕ) → length (values_from place many b) ≡ many
unfolding values_from
values_length zero place b = refl
values_length (suc many) place b = ap suc (values_length many (suc place) (drop (3 + length_of place) b))

-- fields from this place on, up to the place behind them
fields_length : (vs : List ℕ) (place : ℕ) → place + length vs ≤ 28 →
    start_of place + length (fields_from place vs) ≡ start_of (place + length vs)
unfolding fields_from
fields_length [] place h = let z : start_of (place + 0) ≡ start_of place = ap start_of (add-zero place) in omega arith
fields_length (v ∷ vs) place h =
    let field = field_bytes (tag_of place) (length_of place) v in
    let s : place + suc (length vs) ≡ suc place + length vs = omega arith in
    let s1 : place + 1 ≡ suc place = omega arith in
    let o1 : start_of (place + 1) ≡ start_of (suc place) = ap start_of s1 in
    let oe : start_of (place + suc (length vs)) ≡ start_of (suc place + length vs) = ap start_of s in
    omega (
      arith,
      next_start place (omega arith),
      length_field (tag_of place) place v,
      length-append field (fields_from (suc place) vs),
      fields_length vs (suc place) (omega arith),
    )

pub image_length : (vs : List ℕ) → length vs ≡ 28 → length (fields_from 0 vs) ≡ 137
unfolding start_of
image_length vs size =
    let whole : 0 + length vs ≡ 28 = omega arith in
    let end : start_of (0 + length vs) ≡ start_of 28 = ap start_of whole in
    omega (arith, fields_length vs 0 (omega arith))
