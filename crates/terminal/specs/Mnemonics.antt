-- Document 02, request 4: "a mnemonic from document 01's table (1H to MP, capitals)".
use Rattle.std.specs.Prelude as answer
use Rattle.std.specs.Prelude.{Bool, ◌&&◌, List, [], ◌∷◌, ℕ, suc, eqb, ltb, length, get_or, if◌then◌else◌}
use Rattle.std.proofs.Math.Option.{Option, some, none}
use Rattle.formatting.specs.Ascii.{ascii}

-- in the order of the numbers, 1 to 32
abbrev pub mnemonics : List (List ℕ)
mnemonics =
    ascii "1H" ∷ ascii "1L" ∷ ascii "2H" ∷ ascii "2L" ∷ ascii "3H" ∷ ascii "3L"
    ∷ ascii "HR" ∷ ascii "LR" ∷ ascii "HS" ∷ ascii "LS" ∷ ascii "HA" ∷ ascii "LA"
    ∷ ascii "HD" ∷ ascii "LD" ∷ ascii "HO" ∷ ascii "LO" ∷ ascii "XP" ∷ ascii "TI"
    ∷ ascii "TD" ∷ ascii "SL" ∷ ascii "RS" ∷ ascii "RB" ∷ ascii "IC"
    ∷ ascii "MD" ∷ ascii "DS" ∷ ascii "SW" ∷ ascii "II"
    ∷ ascii "OP" ∷ ascii "SP" ∷ ascii "PV" ∷ ascii "ER" ∷ ascii "MP" ∷ []

-- that of a number; none has entry 0
unfoldable pub mnemonic : ℕ → List ℕ
mnemonic n = get_or ([] ∷ mnemonics) n []

-- whether two bytes are a mnemonic
unfoldable pub is_of : List ℕ → ℕ → ℕ → Bool
is_of m first second = eqb (get_or m 0 0) first && eqb (get_or m 1 0) second

-- the number of the first of these mnemonics, numbered from n on, that two bytes are
unfoldable pub numbered : ℕ → List (List ℕ) → ℕ → ℕ → Option ℕ
numbered n [] first second = none
numbered n (m ∷ ms) first second = if is_of m first second then some n else numbered (suc n) ms first second

-- the number that a line's first two bytes name
unfoldable pub named : List ℕ → Option ℕ
named line = if ltb (length line) 2 then none else numbered 1 mnemonics (get_or line 0 0) (get_or line 1 0)

-- the same for the code
abbrev pub number_in : Option ℕ → answer.Option ℕ
number_in none = answer.None
number_in (some n) = answer.Some n
