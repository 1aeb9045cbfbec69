-- The setpoint where Remote drops out, worked by hand: document 02, request 7, and its readings.
use Rattle.std.specs.Prelude.{◌≡◌, List, [], ◌∷◌, ℕ, ℤ, pos, neg_ℤ}
use Rattle.signals.specs.declared.Input.{Input}
use Rattle.parameters.specs.Table.{value, with_value}
use Rattle.rights.specs.declared.Writer.TheVariants.{Engineer}
use Rattle.controller.specs.Scan.{scan}
use Rattle.controller.specs.State.{fresh_controller}
use Rattle.controller.specs.Write.{write}
use Rattle.controller.specs.declared.Controller.{Controller}
use Rattle.promises.specs.FallBack.{FallBackExample}

-- started fresh, with channel 3 from -100 to 100: sample 5750 is a trim of 15, 4250 one of -15. HS is 1000, LS 0, and
-- channel 2 gives 0 to 1000
unfoldable pub trimmed : ℕ → Controller
trimmed sw = (write (write (fresh_controller sw) Engineer 6 (neg_ℤ (pos 100))).next Engineer 5 (pos 100)).next

-- R pressed, the Remote pin at 1; and 36 ms later, with other samples on channels 1 and 2, the pin at 0
abbrev pub pin_at_one : ℕ → ℕ → ℕ → Input
pin_at_one sample2 sample3 sensors =
    record { pins = 0xA0; sample1 = 0; sample2 = sample2; sample3 = sample3; buttons = 4; sensors = sensors; milliseconds = 1000 }

abbrev pub pin_at_zero : ℕ → Input
pin_at_zero sample3 =
    record { pins = 0x80; sample1 = 3000; sample2 = 9000; sample3 = sample3; buttons = 0; sensors = 0; milliseconds = 1036 }

-- the controllers that the two scans leave
abbrev pub after_remote : Controller → ℕ → ℕ → Controller
after_remote c sample2 sample3 = (scan c (pin_at_one sample2 sample3 0)).next

abbrev pub after_fall_back : Controller → ℕ → Controller
after_fall_back c sample3 = (scan c (pin_at_zero sample3)).next

-- SP and SL of a controller
abbrev pub Setpoints : ℤ → ℤ → Controller → Type 0
Setpoints sp sl c = (c.core.readings.sp ≡ sp) × (value c.core.parameters 20 ≡ sl)

-- the same controller, with the SL that step 5 left before this request: SP
unfoldable pub formerly : Controller → Controller
formerly c =
    record {
      core = record {
        sw = c.core.sw;
        parameters = with_value c.core.parameters 20 c.core.readings.sp;
        conditions = c.core.conditions;
        userbits = c.core.userbits;
        readings = c.core.readings;
        indications = c.core.indications;
        history = c.core.history;
        clock = c.core.clock;
      };
      output = c.output;
    }

unfoldable pub fall_back_figures : List (Type 0)
fall_back_figures =
    -- "A dryer in Remote with trim 15": channel 2 gives 500, SP is 515, SL 15 less
    Setpoints (pos 515) (pos 500) (after_remote (trimmed 0) 5000 5750)
    -- it "fell back": its setpoint stays
    ∷ Setpoints (pos 515) (pos 500) (after_fall_back (after_remote (trimmed 0) 5000 5750) 5750)
    -- before this request "its setpoint rose by 15: SL had taken the trimmed setpoint and then got the trim again"
    ∷ Setpoints (pos 530) (pos 515) (after_fall_back (formerly (after_remote (trimmed 0) 5000 5750)) 5750)
    -- a trim of -15
    ∷ Setpoints (pos 485) (pos 500) (after_remote (trimmed 0) 5000 4250)
    ∷ Setpoints (pos 485) (pos 500) (after_fall_back (after_remote (trimmed 0) 5000 4250) 4250)
    -- SP is limited to HS before the trim is taken off: channel 2 gives 1000, and 1015 is too much
    ∷ Setpoints (pos 1000) (pos 985) (after_remote (trimmed 0) 10000 5750)
    ∷ Setpoints (pos 1000) (pos 985) (after_fall_back (after_remote (trimmed 0) 10000 5750) 5750)
    -- SP less the trim lies beyond HS, here 600, by 10: SL is limited, and the setpoint falls by as much
    ∷ Setpoints (pos 595) (pos 600) (after_remote (write (trimmed 0) Engineer 9 (pos 600)).next 6100 4250)
    ∷ Setpoints (pos 585) (pos 600) (after_fall_back (after_remote (write (trimmed 0) Engineer 9 (pos 600)).next 6100 4250) 4250)
    -- beyond LS, here 400, by 10: the setpoint rises by as much
    ∷ Setpoints (pos 405) (pos 400) (after_remote (write (trimmed 0) Engineer 10 (pos 400)).next 3900 5750)
    ∷ Setpoints (pos 415) (pos 400) (after_fall_back (after_remote (write (trimmed 0) Engineer 10 (pos 400)).next 3900 5750) 5750)
    -- channel 1 open: no exception
    ∷ Setpoints (pos 515) (pos 500) (scan (trimmed 0) (pin_at_one 5000 5750 1)).next
    ∷ Setpoints (pos 515) (pos 500) (after_fall_back (scan (trimmed 0) (pin_at_one 5000 5750 1)).next 5750)
    -- MD bit 4: there is no trim
    ∷ Setpoints (pos 500) (pos 500) (after_remote (write (trimmed 0) Engineer 24 (pos 0x2010)).next 5000 5750)
    ∷ Setpoints (pos 500) (pos 500) (after_fall_back (after_remote (write (trimmed 0) Engineer 24 (pos 0x2010)).next 5000 5750) 5750)
    -- "Ratio keeps SL equal to SP.": s is 115, q 500
    ∷ Setpoints (pos 435) (pos 435) (after_remote (trimmed 0x8000) 5000 5750)
    ∷ Setpoints (pos 435) (pos 435) (after_fall_back (after_remote (trimmed 0x8000) 5000 5750) 5750)
    -- what the promise asks (`FallsBack`) can be met, by calls from a fresh start on, with a trim of 15
    ∷ FallBackExample (pos 15) (pos 515)
    ∷ []
