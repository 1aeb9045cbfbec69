-- Laws of single fields and of where they stand.
use Rattle.std.specs.Prelude.{◌≡◌, ℕ, zero, suc, ◌+◌, ◌-◌, ◌*◌, ◌<◌, ◌≤◌, Bool, true, false, cond, List, [], ◌∷◌, ◌++◌, length, take}
use Rattle.std.specs.Prelude.{nat_lt, slice_index, refl}
use Rattle.std.proofs.Common.{append_assoc, append-nil, le_of_suc-le-suc, not-suc-le-zero, add-zero, add-suc, suc-add, arith, ltb-true}
use Rattle.std.proofs.Common.{ltb-false}
use Rattle.fields.specs.Fields.{tag_of, length_of, value_bytes, field_bytes, fields_from}

-- a value has one byte or two
pub by_length : (P : ℕ → Type 0) → P 1 → P 2 → (place : ℕ) → P (length_of place)
unfolding length_of
by_length P one two place = pick (nat_lt place 24) (nat_lt place 27)
  where
    pick : (p q : Bool) → P (cond p 2 (cond q 1 2))
    pick true q = two
    pick false true = one
    pick false false = two

pub length_field : (tag place v : ℕ) → length (field_bytes tag (length_of place) v) ≡ 3 + length_of place
unfolding field_bytes value_bytes
length_field tag place v = by_length (λ (n : ℕ). length (field_bytes tag n v) ≡ 3 + n) refl refl place

-- where a field begins: five bytes a field, but four for those of one byte
unfoldable pub start_of : ℕ → ℕ
start_of place = 5 * place - (place - 24) + (place - 27)

pub next_start : (place : ℕ) → place < 28 → start_of place + (3 + length_of place) ≡ start_of (place + 1)
unfolding length_of start_of
next_start place h = go (nat_lt place 24) (nat_lt place 27) refl refl
  where
    go : (p q : Bool) → nat_lt place 24 ≡ p → nat_lt place 27 ≡ q → start_of place + (3 + cond p 2 (cond q 1 2)) ≡ start_of (place + 1)
    go true q e d = let w : place < 24 = ltb-true _ _ e in omega arith
    go false true e d = let w : place < 27 = ltb-true _ _ d in let v : 24 ≤ place = ltb-false _ _ e in omega arith
    go false false e d = let w : 27 ≤ place = ltb-false _ _ d in omega arith

pub start_most : (place : ℕ) → place < 28 → start_of (place + 1) ≤ 137
unfolding start_of
start_most place h = omega arith

-- starts never fall
pub start_grows : (many place : ℕ) → place + many ≤ 28 → start_of place ≤ start_of (place + many)
unfolding start_of
start_grows many place h = omega arith

pub start_end : start_of 28 ≡ 137
unfolding start_of
start_end = refl

-- one field more
pub fields_more : (first : ℕ) (vs : List ℕ) (i : ℕ) → i < length vs →
    fields_from first (take (suc i) vs) ≡ fields_from first (take i vs) ++ field_bytes (tag_of (first + i)) (length_of (first + i))
    (slice_index vs i)
unfolding fields_from
fields_more first [] i h = absurd (not-suc-le-zero h)
fields_more first (v ∷ vs) zero h = simp (append-nil, add-zero)
fields_more first (v ∷ vs) (suc i) h = simp (fields_more (suc first) vs i (le_of_suc-le-suc h), append_assoc, add-suc, suc-add)
