-- Document 01, "The image", decoded: "every tag and length right", and the values that the fields hold.
use Rattle.std.specs.Prelude.{ℕ, zero, suc, ◌+◌, ◌*◌, Bool, true, ◌&&◌, List, [], ◌∷◌, drop, ◌==◌, slice_index, if◌then◌else◌}
use Rattle.fields.specs.Fields.{tag_of, length_of}

-- these bytes begin with a field of this tag whose value has so many bytes
unfoldable pub has_header : ℕ → ℕ → List ℕ → Bool
has_header tag size bytes = slice_index bytes 0 == tag && (slice_index bytes 1 == 0 && slice_index bytes 2 == size)

-- the value of the field that they begin with, "high byte first"
unfoldable pub value_in : ℕ → List ℕ → ℕ
value_in size bytes = if size == 2 then slice_index bytes 3 * 256 + slice_index bytes 4 else slice_index bytes 3

-- so many fields from this place on: each tag and length right
unfoldable pub well_formed_from : ℕ → ℕ → List ℕ → Bool
well_formed_from place zero bytes = true
well_formed_from place (suc many) bytes =
    has_header (tag_of place) (length_of place) bytes && well_formed_from (suc place) many (drop (3 + length_of place) bytes)

-- and their values
unfoldable pub values_from : ℕ → ℕ → List ℕ → List ℕ
values_from place zero bytes = []
values_from place (suc many) bytes = value_in (length_of place) bytes ∷ values_from (suc place) many (drop (3 + length_of place) bytes)
