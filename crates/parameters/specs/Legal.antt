-- What holds of the parameters of every controller: each keeps its row of the table.
use Rattle.std.specs.Prelude.{◌≡◌, Bool, true, ◌&&◌, ℕ, ◌≤◌, eqb, ℤ, pos, length, if◌then◌else◌}
use Rattle.std.proofs.Math.Option.{Option, some, none}
use Rattle.std.specs.Int.Signed.{le_z, lt_z}
use Rattle.signals.specs.Refusals.{number_of}
use Rattle.parameters.specs.Range.{every}
use Rattle.parameters.specs.Table.{value, rule_of}
use Rattle.parameters.specs.declared.Parameters.{Parameters}
use Rattle.parameters.specs.declared.Rule.{Rule}
use Rattle.parameters.specs.declared.Rule.TheVariants.{Unknown, ReadOnly, Word, Free, Pair, Between}

-- v lies in low..high
abbrev pub is_within : ℤ → ℤ → ℤ → Bool
is_within low high v = le_z low v && le_z v high

-- "L < H" where strict, else "L ≤ H"
abbrev pub in_order : Bool → ℤ → ℤ → Bool
in_order strict low high = if strict then lt_z low high else le_z low high

-- ---- the refusals that rows name, by their numbers

-- "number outside 1..32 (reads too)"
abbrev pub unknown_refusal : Rule → Option ℕ
unknown_refusal (Unknown refusal) = some (number_of refusal)
unknown_refusal (ReadOnly refusal) = none
unknown_refusal (Word least most) = none
unknown_refusal (Free least most) = none
unknown_refusal (Pair least most high low strict) = none
unknown_refusal (Between low high) = none

-- "read only"
abbrev pub read_only_refusal : Rule → Option ℕ
read_only_refusal (Unknown refusal) = none
read_only_refusal (ReadOnly refusal) = some (number_of refusal)
read_only_refusal (Word least most) = none
read_only_refusal (Free least most) = none
read_only_refusal (Pair least most high low strict) = none
read_only_refusal (Between low high) = none

-- ---- what the row of a number asks of a value v, among values by their numbers

-- its range
abbrev pub in_range : Rule → (ℕ → ℤ) → ℤ → Bool
in_range (Unknown refusal) values v = true
in_range (ReadOnly refusal) values v = true
in_range (Word least most) values v = is_within least most v
in_range (Free least most) values v = is_within least most v
in_range (Pair least most high low strict) values v = is_within least most v
in_range (Between low high) values v = is_within (values low) (values high) v

-- of a pair: a value for the upper one is tested against the stored value of the lower one, and any other against
-- that of the upper one
abbrev pub ordered : (ℕ → ℤ) → ℕ → ℕ → Bool → ℕ → ℤ → Bool
ordered values high low strict n v = if eqb n high then in_order strict (values low) v else in_order strict v (values high)

-- its pair in order, if it has one
abbrev pub pair_in_order : Rule → (ℕ → ℤ) → ℕ → ℤ → Bool
pair_in_order (Unknown refusal) values n v = true
pair_in_order (ReadOnly refusal) values n v = true
pair_in_order (Word least most) values n v = true
pair_in_order (Free least most) values n v = true
pair_in_order (Pair least most high low strict) values n v = ordered values high low strict n v
pair_in_order (Between low high) values n v = true

-- the value with the number n keeps its row
abbrev pub keeps : Rule → (ℕ → ℤ) → ℕ → Bool
keeps rule values n = in_range rule values (values n) && pair_in_order rule values n (values n)

-- of an image's values: all parameters 1 to 23 keep theirs
unfoldable pub are_legal : Parameters → Bool
are_legal p = every (λ n. keeps (rule_of n) (value p) n) 1 23

pub record Legal (p : Parameters) : Type 0 where
  pub size : length p.values ≡ 24
  -- the entry that is not used
  pub unused : value p 0 ≡ pos 0
  pub rules : (n : ℕ) → 1 ≤ n → n ≤ 23 → keeps (rule_of n) (value p) n ≡ true
