-- What holds of every controller that calls lead to from a fresh start, and all that a call asks of the
-- controller it is given.
use Rattle.std.specs.Prelude.{◌≡◌, true, ◌≤◌, nat_abs}
use Rattle.modes.specs.declared.Request.TheVariants.{Manual}
use Rattle.parameters.specs.Legal.{Legal}
use Rattle.setpoints.specs.declared.Readings.{Readings}
use Rattle.outputs.specs.OutputLaws.{HistoryRange, OutputRange}
use Rattle.controller.specs.declared.Controller.{Controller}

-- numbers that 32 bits hold: ER is a difference of two in -9999..9999
pub record Readable (r : Readings) : Type 0 where
  pub pv_most : nat_abs r.pv ≤ 19998
  pub sp_most : nat_abs r.sp ≤ 19998
  pub er_most : nat_abs r.er ≤ 19998
  pub mp_most : nat_abs r.mp ≤ 19998

pub record Valid (c : Controller) : Type 0 where
  -- each parameter keeps its row of the table
  pub legal : Legal c.core.parameters
  -- the remembered PV and SP lie in -9999..9999
  pub kept : HistoryRange c.core.history
  -- PV, SP, ER and MP can be read
  pub readable : Readable c.core.readings
  -- "fault 0 or 1 and 1 only with request 0": so every image that is saved is legal
  pub manual : c.core.conditions.fault ≡ true → c.core.conditions.request ≡ Manual
  -- the stored output lies in 0..9999 units
  pub stored : OutputRange c.output
