-- Where reading stands.
use Rattle.std.specs.Prelude.{Bool, List, ℕ}

-- the bytes that were read and belong to no line yet, and whether the input goes on
pub record Reading : Type 0 where
  pub unread : List ℕ
  pub more : Bool
