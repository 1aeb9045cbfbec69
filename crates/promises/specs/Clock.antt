-- Document 02, request 2, of one scan by itself: what forgetting means, and that nothing else comes of a reading.
use Rattle.std.specs.Prelude.{◌≡◌, true, false, None, Ok}
use Rattle.signals.specs.declared.Input.{Input}
use Rattle.answers.specs.declared.ScanValues.{ScanValues}
use Rattle.outputs.specs.declared.History.{History}
use Rattle.outputs.specs.declared.History.TheVariants.{Nothing}
use Rattle.controller.specs.Valid.{Valid}
use Rattle.controller.specs.declared.Controller.{Controller}
use Rattle.controller.specs.declared.ScanResult.{ScanResult}
use Rattle.guarantee.specs.Clock.{after_gap}
use Rattle.guarantee.specs.Linked.{ScanEnsures}

-- the same controller, but that it remembers these earlier PVs and SP, and no reading
unfoldable pub remembering : History → Controller → Controller
remembering h d =
    record {
      core = record {
        sw = d.core.sw;
        parameters = d.core.parameters;
        conditions = d.core.conditions;
        userbits = d.core.userbits;
        readings = d.core.readings;
        indications = d.core.indications;
        history = h;
        clock = None;
      };
      output = d.output;
    }

-- "After more than 42 ms the scan is taken, but earlier PV and SP are forgotten first.": what an accepted scan after a
-- gap returns is what the contract gives for the same controller with nothing remembered
abbrev pub GapForgets : Type 0
GapForgets =
    (d : Controller) (i : Input) (r : ScanResult) (v : ScanValues) → ScanEnsures d i r → r.answer ≡ Ok v →
    after_gap d.core.clock i.milliseconds ≡ true → ScanEnsures (remembering Nothing d) i r

-- "From 30 to 42 ms is an ordinary scan.": what an accepted scan after no gap returns is what the contract gives for
-- the same controller with its earlier PVs and SP and no reading
abbrev pub OrdinaryRemembers : Type 0
OrdinaryRemembers =
    (d : Controller) (i : Input) (r : ScanResult) (v : ScanValues) → ScanEnsures d i r → r.answer ≡ Ok v →
    after_gap d.core.clock i.milliseconds ≡ false → ScanEnsures (remembering d.core.history d) i r

-- both are controllers that a scan can be made of
abbrev pub StaysValid : Type 0
StaysValid = (d : Controller) → Valid d → Valid (remembering Nothing d) × Valid (remembering d.core.history d)
