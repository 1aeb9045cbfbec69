-- What a contract sees of a tuning.
use Rattle.std.specs.Prelude.{Bool, ℕ}

pub record Contents : Type 0 where
  pub xp : ℕ
  pub span : ℕ
  pub ti : ℕ
  pub td : ℕ
  pub minutes : Bool
  pub inverted : Bool

abbrev pub contents : (xp span ti td : ℕ) (minutes inverted : Bool) → Contents
contents xp span ti td minutes inverted =
    record { xp = xp; span = span; ti = ti; td = td; minutes = minutes; inverted = inverted }
