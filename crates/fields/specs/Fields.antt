-- Document 01, "The image": "137 bytes of fields: tag byte, two-byte length, value, high byte first."
use Rattle.std.specs.Prelude.{ℕ, suc, ◌+◌, ◌-◌, ◌/◌, ◌%◌, Bool, List, [], ◌∷◌, ◌++◌, length, drop, ◌==◌, nat_le, nat_lt, if◌then◌else◌}

-- ---- the 28 fields, by their places from 0 on

-- "Tags 1..23 as above .. 41h OP .. 42h request .. 43h fault .. 44h .. 7Fh sumcheck .. in that order"
unfoldable pub tag_of : ℕ → ℕ
tag_of place =
    if nat_lt place 23 then place + 1 else
    if nat_lt place 27 then place - 23 + 0x41 else 0x7F

-- 1 to 23 "two bytes", 41h "two", 42h "one", 43h "one", 44h "one", 7Fh "two"
unfoldable pub length_of : ℕ → ℕ
length_of place =
    if nat_lt place 24 then 2 else
    if nat_lt place 27 then 1 else 2

-- a value in so many bytes, "high byte first"
unfoldable pub value_bytes : ℕ → ℕ → List ℕ
value_bytes size v = if size == 2 then v / 256 ∷ v % 256 ∷ [] else v % 256 ∷ []

-- "tag byte, two-byte length, value"
unfoldable pub field_bytes : ℕ → ℕ → ℕ → List ℕ
field_bytes tag size v = tag ∷ 0 ∷ size ∷ value_bytes size v

-- the fields of these values, the first of which has this place
unfoldable pub fields_from : ℕ → List ℕ → List ℕ
fields_from place [] = []
fields_from place (v ∷ vs) = field_bytes (tag_of place) (length_of place) v ++ fields_from (suc place) vs

-- ---- "The sumcheck is all earlier values, read unsigned, summed modulo 65,536."

unfoldable pub sum : List ℕ → ℕ
sum [] = 0
sum (v ∷ vs) = v + sum vs

unfoldable pub sum_of : List ℕ → ℕ
sum_of vs = sum vs % 65536

-- all values: the earlier ones, and their sumcheck
unfoldable pub with_sumcheck : List ℕ → List ℕ
with_sumcheck vs = vs ++ (sum_of vs ∷ [])

-- ---- saving

-- "Lender: 15 fewer than 137 bytes to save into."
unfoldable pub save_tests : List ℕ → List (Bool × ℕ)
save_tests buffer = (nat_lt (length buffer) 137, 15) ∷ []

-- the buffer afterwards: "bytes past the 137 stay"; with fewer, "buffers stay"
unfoldable pub saved_in : List ℕ → List ℕ → List ℕ
saved_in image buffer = if nat_le 137 (length buffer) then image ++ drop 137 buffer else buffer
