-- Document 01, "The image": what a controller saves.
use Rattle.std.specs.Prelude.{List, ℕ}
use Rattle.settings.specs.Settings.{image_of}
use Rattle.settings.specs.declared.Settings.{Settings}
use Rattle.controller.specs.Answers.{op_of}
use Rattle.controller.specs.declared.Controller.{Controller}
use Rattle.controller.specs.declared.Core.{Core}

-- "Tags 1..23 as above .. 41h OP .. 42h request .. 43h fault .. 44h": parameters 1 to 23, OP, request,
-- memory fault, and user bits with MD bit 4
unfoldable pub settings_of : Core → ℕ → Settings
settings_of c op =
    record { parameters = c.parameters; op = op; request = c.conditions.request; fault = c.conditions.fault; userbits = c.userbits }

-- with the OP of our own stored output
unfoldable pub settings_now : Controller → Settings
settings_now c = settings_of c.core (op_of c.output)

unfoldable pub saved_image : Controller → List ℕ
saved_image c = image_of (settings_now c)
