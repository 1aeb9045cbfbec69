-- Document 01: what a fresh start and a restart leave, and the fresh controller.
use Rattle.std.specs.Prelude.{Bool, false, ℕ, pos, ◌-ℤ◌, None}
use Rattle.modes.specs.declared.Conditions.{Conditions}
use Rattle.modes.specs.declared.Request.{Request}
use Rattle.modes.specs.declared.Request.TheVariants.{Manual}
use Rattle.words.specs.declared.UserBits.{UserBits}
use Rattle.words.specs.declared.Indications.{Indications}
use Rattle.parameters.specs.Table.{defaults, L1, SL}
use Rattle.parameters.specs.declared.Parameters.{Parameters}
use Rattle.setpoints.specs.declared.Readings.{Readings}
use Rattle.outputs.specs.declared.History.TheVariants.{Nothing}
use Rattle.controller.specs.declared.Controller.{Controller}
use Rattle.controller.specs.declared.Core.{Core}

-- ---- "A fresh start and an accepted restart leave pins 80h, no buttons, open count 0, PV = 1L, SP =
-- SL, ER = PV - SP, MP 0, battery good, no alarms"

abbrev pub start_conditions : Request → Bool → Conditions
start_conditions request fault = record { request = request; fault = fault; opencount = 0; pins = 0x80 }

unfoldable pub start_readings : Parameters → Readings
start_readings p = record { pv = L1 p; sp = SL p; er = L1 p -ℤ SL p; mp = pos 0 }

abbrev pub start_indications : Indications
start_indications = record { buttons = 0; batterylow = false; lowalarm = false; highalarm = false }

-- a core of these settings, and of what such a start leaves. "no earlier PV or SP remembered"; "All
-- earlier PV and SP are forgotten."; document 02, request 2: "Until a scan is accepted after a fresh start or a
-- restart, any reading is taken."
abbrev pub start_core : ℕ → Parameters → Request → Bool → UserBits → Core
start_core sw parameters request fault userbits =
    record {
      sw = sw;
      parameters = parameters;
      conditions = start_conditions request fault;
      userbits = userbits;
      readings = start_readings parameters;
      indications = start_indications;
      history = Nothing;
      clock = None;
    }

-- ---- "start fresh (any 16-bit switch word SW)"

-- "A fresh controller has the defaults in the table."
abbrev pub fresh_parameters : Parameters
fresh_parameters = record { values = defaults }

-- "A fresh controller requests Manual with output 0, user bits and MD bit 4 zero, no memory fault"
unfoldable pub fresh_core : ℕ → Core
fresh_core sw = start_core sw fresh_parameters Manual false (record { user1 = false; user2 = false; measuredpower = false })

unfoldable pub fresh_controller : ℕ → Controller
fresh_controller sw = record { core = fresh_core sw; output = pos 0 }
