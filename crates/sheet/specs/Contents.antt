-- What a contract sees of a sheet.
use Rattle.sheet.specs.declared.SheetValues.{SheetValues}

pub record Contents : Type 0 where
  pub values : SheetValues
