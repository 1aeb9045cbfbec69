-- An output buffer and what is appended to it.
use Rattle.std.specs.Prelude.{cond, List, [], ◌∷◌, ℕ, ◌+◌, ltb, length, set, take}

-- its bytes, and how many of them are used
pub data Buffer : Type 0 where
  buffer : List ℕ → ℕ → Buffer

-- one byte behind those used; a byte that doesn't fit is left out
unfoldable pub append : Buffer → ℕ → Buffer
append (buffer out used) b = cond (ltb used (length out)) (buffer (set out used b) (used + 1)) (buffer out used)

-- bytes one after another: they are cut where the buffer ends
unfoldable pub append_all : Buffer → List ℕ → Buffer
append_all o [] = o
append_all o (b ∷ bs) = append_all (append o b) bs

-- how many bytes are used
abbrev pub filled : Buffer → ℕ
filled (buffer out used) = used

-- how many it has room for
abbrev pub capacity : Buffer → ℕ
capacity (buffer out used) = length out

-- those that are used
abbrev pub written : Buffer → List ℕ
written (buffer out used) = take used out

-- the buffer with none of its bytes used
abbrev pub emptied : Buffer → Buffer
emptied (buffer out used) = buffer out 0
