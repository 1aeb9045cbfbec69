-- What a contract sees of a controller.
use Rattle.std.specs.Prelude.{ℤ}
use Rattle.controller.specs.declared.Core.{Core}

pub record Contents : Type 0 where
  pub core : Core
  pub output : ℤ
