-- Document 01, "The image": a restart, whole. As for a scan and a write: the next state but for the
-- output, the answer, and an instruction for the output, once for our controller and for the exact one.
use Rattle.std.specs.Prelude.{Bool, true, not, ◌&&◌, ◌||◌, List, [], ◌∷◌, ℕ, eqb, length, if◌then◌else◌}
use Rattle.signals.specs.Refusals.{refused_by}
use Rattle.signals.specs.Signals.{switches_of}
use Rattle.fields.specs.Decoding.{well_formed_from, values_from}
use Rattle.modes.specs.declared.Request.{Request}
use Rattle.modes.specs.declared.Request.TheVariants.{Manual}
use Rattle.parameters.specs.Legal.{are_legal}
use Rattle.parameters.specs.Repaired.{repaired}
use Rattle.settings.specs.Settings.{parameters_in, settings_in, is_sum_right, are_others_legal, legal_user_bits}
use Rattle.settings.specs.declared.Settings.{Settings}
use Rattle.outputs.specs.Outputs.{restart_instruction}
use Rattle.controller.specs.Answers.{Response}
use Rattle.controller.specs.Scan.{accepts, Outcome, refused_or, controller_after, response_from}
use Rattle.controller.specs.State.{start_core}
use Rattle.controller.specs.declared.Controller.{Controller}
use Rattle.controller.specs.declared.Core.{Core}

-- the values of an image's fields
abbrev pub values_in : List ℕ → List ℕ
values_in image = values_from 0 28 image

-- ---- "Image's bearer: 12 length not 137; 13 a wrong tag or length; 14 right sumcheck, illegal value."

-- "Legal: ranges and pairs above, OP 0..9999, request 0..2, fault 0 or 1 and 1 only with request 0, 44h 0..7."
unfoldable pub is_legal : List ℕ → Bool
is_legal vs = are_legal (parameters_in vs) && are_others_legal vs

-- 14
abbrev pub is_illegal : List ℕ → Bool
is_illegal vs = is_sum_right vs && not (is_legal vs)

unfoldable pub restart_tests : List ℕ → List (Bool × ℕ)
restart_tests image =
    (not (eqb (length image) 137), 12)
    ∷ (not (well_formed_from 0 28 image), 13)
    ∷ (is_illegal (values_in image), 14)
    ∷ []

-- "Sound: every tag and length right, the sumcheck right, all values legal.": of 137 bytes
unfoldable pub is_sound : List ℕ → Bool
is_sound image = eqb (length image) 137 && well_formed_from 0 28 image && is_sum_right (values_in image) && is_legal (values_in image)

-- ---- what an accepted restart takes

-- "A .. wrong sumcheck brings the memory fault .. A wrong sumcheck also sets request Manual, HO 9999, LO
-- 0, OP minimum ..; of parameters 1 to 23 .. an illegal 44h is 0." The OP that the image holds isn't used
unfoldable pub repaired_settings : List ℕ → Settings
repaired_settings vs =
    record { parameters = repaired (parameters_in vs); op = 0; request = Manual; fault = true; userbits = legal_user_bits vs }

-- it "takes the rest": with the right sumcheck the settings that the image holds, "A fault of 1" among them
unfoldable pub restored_settings : List ℕ → Settings
restored_settings vs = if is_sum_right vs then settings_in vs else repaired_settings vs

-- "S2.5 ON makes the request Manual"
abbrev pub restarted_request : Bool → Request → Request
restarted_request powerfail request = if powerfail then Manual else request

-- "Restart keeps SW and takes the rest, OP limited to LO..HO; S2.5 ON makes the request Manual and OP
-- minimum."; a wrong sumcheck also sets "OP minimum"
unfoldable pub restart_accepted : Core → List ℕ → Outcome
restart_accepted c vs =
    let s = switches_of c.sw in
    let taken = restored_settings vs in
    record {
      next = start_core c.sw taken.parameters (restarted_request s.powerfail taken.request) taken.fault taken.userbits;
      answer = accepts;
      instruction = restart_instruction taken.parameters s (s.powerfail || not (is_sum_right vs)) taken.op;
    }

-- ---- the whole

-- a restart, refused or accepted
unfoldable pub restart_core : Core → List ℕ → Outcome
restart_core c image = refused_or (refused_by (restart_tests image)) c (restart_accepted c (values_in image))

-- our controller after an accepted restart
unfoldable pub controller_restarted : Controller → List ℕ → Controller
controller_restarted c vs = controller_after c (restart_accepted c.core vs)

-- what `Controller::restart` returns
unfoldable pub restart : Controller → List ℕ → Response
restart c image = response_from c (restart_core c.core image)
