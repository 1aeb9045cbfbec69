-- Document 02, request 4, over again: what a line asks, told by its bytes and apart from the rules that parse it. What
-- number digits are is told by place value, capitals for A to F (PlaceValue.antt).
use Rattle.std.specs.Prelude.{◌⊎◌, ◌≡◌, List, [], ◌∷◌, ◌++◌, ℕ, ◌-◌, ◌≤◌, ◌<◌, ℤ, pos, neg_ℤ, length, get_or}
use Rattle.terminal_guarantee.specs.PlaceValue.{Number}
use Rattle.formatting.specs.Ascii.{ascii}

-- ---- "a mnemonic from document 01's table (1H to MP, capitals)": by columns, the first letters and the second ones

abbrev pub firsts : List ℕ
firsts = ascii "112233HLHLHLHLHLXTTSRRIMDSIOSPEM"

abbrev pub seconds : List ℕ
seconds = ascii "HLHLHLRRSSAADDOOPIDLSBCDSWIPPVRP"

-- their bytes, digits from 48 on and capitals from 65 on, so that nothing hangs on what `ascii` makes of a text
abbrev pub MnemonicBytes : Type 0
MnemonicBytes =
    (firsts ≡ 49 ∷ 49 ∷ 50 ∷ 50 ∷ 51 ∷ 51 ∷ 72 ∷ 76 ∷ 72 ∷ 76 ∷ 72 ∷ 76 ∷ 72 ∷ 76 ∷ 72 ∷ 76
    ∷ 88 ∷ 84 ∷ 84 ∷ 83 ∷ 82 ∷ 82 ∷ 73 ∷ 77 ∷ 68 ∷ 83 ∷ 73 ∷ 79 ∷ 83 ∷ 80 ∷ 69 ∷ 77 ∷ [])
    × (seconds ≡ 72 ∷ 76 ∷ 72 ∷ 76 ∷ 72 ∷ 76 ∷ 82 ∷ 82 ∷ 83 ∷ 83 ∷ 65 ∷ 65 ∷ 68 ∷ 68 ∷ 79 ∷ 79
    ∷ 80 ∷ 73 ∷ 68 ∷ 76 ∷ 83 ∷ 66 ∷ 67 ∷ 68 ∷ 83 ∷ 87 ∷ 73 ∷ 80 ∷ 80 ∷ 86 ∷ 82 ∷ 80 ∷ [])

abbrev pub letters : ℕ → List ℕ
letters n = get_or firsts (n - 1) 0 ∷ get_or seconds (n - 1) 0 ∷ []

-- a parameter's number
pub record InTable (n : ℕ) : Type 0 where
  pub least : 1 ≤ n
  pub most : n ≤ 32

-- ---- values

-- "MD, DS, SW and II": numbers 24 to 27
abbrev pub IsWord : ℕ → Type 0
IsWord n = (24 ≤ n) × (n ≤ 27)

abbrev pub IsDecimal : ℕ → Type 0
IsDecimal n = (n < 24) ⊎ (27 < n)

-- "one to five digits"
pub record Few (ds : List ℕ) : Type 0 where
  pub some : 1 ≤ length ds
  pub few : length ds ≤ 5

-- the bytes of a value for the parameter n, and the value
pub data Value (n : ℕ) : List ℕ → ℤ → Type 0 where
  -- "four hexadecimal digits for MD, DS, SW and II"
  word : {ds : List ℕ} {v : ℕ} → IsWord n → length ds ≡ 4 → Number 16 ds v → Value n ds (pos v)
  -- "otherwise a decimal of one to five digits with an optional leading minus", which is 45
  plain : {ds : List ℕ} {v : ℕ} → IsDecimal n → Few ds → Number 10 ds v → Value n ds (pos v)
  minus : {ds : List ℕ} {v : ℕ} → IsDecimal n → Few ds → Number 10 ds v → Value n (45 ∷ ds) (neg_ℤ (pos v))

-- ---- lines

pub data Asked : Type 0 where
  -- "With no value it reads,
  a_read : ℕ → Asked
  -- with one it writes."
  a_write : ℕ → ℤ → Asked

-- "A line is a mnemonic .. and perhaps, after the sign >, a value"; > is 62
pub data Asks : List ℕ → Asked → Type 0 where
  reads : {n : ℕ} → InTable n → Asks (letters n) (a_read n)
  writes : {n : ℕ} {bytes : List ℕ} {v : ℤ} → InTable n → Value n bytes v → Asks (letters n ++ (62 ∷ bytes)) (a_write n v)
