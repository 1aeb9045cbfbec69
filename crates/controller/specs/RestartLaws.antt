-- What an accepted restart has passed, and that a restart returns a valid controller.
use Rattle.std.specs.Prelude.{◌≡◌, refl, Bool, true, false, ◌||◌, List, ℕ, eqb, pos, length, get_or}
use Rattle.std.proofs.Common.{sym, ◌∙◌, arith, eqb-true, ne_eqb}
use Rattle.std.proofs.Math.Option.{none}
use Rattle.std.proofs.lemmas.Bool.{not-false}
use Rattle.integers.specs.Choice.{by_cases, never, both}
use Rattle.integers.specs.Listed.{listed}
use Rattle.signals.specs.RefusalLaws.{by_number, Ascending}
use Rattle.signals.specs.Refusals.{refused_by}
use Rattle.signals.specs.Signals.{switches_of}
use Rattle.fields.specs.Decoding.{well_formed_from}
use Rattle.modes.specs.declared.Request.{Request}
use Rattle.modes.specs.declared.Request.TheVariants.{Manual}
use Rattle.parameters.specs.Legal.{are_legal, Legal}
use Rattle.parameters.specs.RepairedLaws.{tested_legal, repaired_legal}
use Rattle.parameters.specs.Table.{value}
use Rattle.settings.specs.Settings.{request_in, parameter_in, parameters_in, settings_in, is_sum_right, are_others_legal}
use Rattle.settings.specs.SettingsLaws.{others_of}
use Rattle.settings.specs.declared.Settings.{Settings}
use Rattle.outputs.specs.Instruction.{executed, changed, limited_to}
use Rattle.outputs.specs.OutputLaws.{restart_stored}
use Rattle.controller.specs.Restart.{values_in, is_legal, is_illegal, restart_tests, repaired_settings}
use Rattle.controller.specs.Restart.{restored_settings, restart_accepted, restart_core, controller_restarted, restart}
use Rattle.controller.specs.Scan.{refused, controller_after, response_from}
use Rattle.controller.specs.Valid.{Valid}
use Rattle.controller.specs.ValidLaws.{passed, by_verdict_lem, start_readable}
use Rattle.controller.specs.declared.Controller.{Controller}

-- ---- the tests ascend, so the lowest number wins (`lowest_wins`)

pub restart_ascends : (image : List ℕ) → Ascending by_number (restart_tests image)
unfolding restart_tests
restart_ascends image = ((omega arith, (omega arith, tt)), ((omega arith, tt), (tt, tt)))

-- ---- what an accepted restart has passed

pub record Taken (image : List ℕ) : Type 0 where
  pub size : length image ≡ 137
  pub formed : well_formed_from 0 28 image ≡ true
  pub legal : is_illegal (values_in image) ≡ false

pub taken : (image : List ℕ) → refused_by (restart_tests image) ≡ none → Taken image
unfolding restart_tests
taken image e =
    let t = passed (restart_tests image) e in
    record {
      size = eqb-true (length image) 137 (not-false (eqb (length image) 137) t.0);
      formed = not-false (well_formed_from 0 28 image) t.1.0;
      legal = t.1.1.0;
    }

-- a right sumcheck came with legal values
pub right_legal : (vs : List ℕ) → is_illegal vs ≡ false → is_sum_right vs ≡ true → is_legal vs ≡ true
right_legal vs e right = go (is_legal vs) refl
  where
    go : (t : Bool) → is_legal vs ≡ t → is_legal vs ≡ true
    go true q = q
    go false q = never (sym e ∙ rw (right, q) refl)

-- ---- valid

pub in_size : (vs : List ℕ) → length (parameters_in vs).values ≡ 24
unfolding parameters_in listed
in_size vs = refl

pub in_unused : (vs : List ℕ) → value (parameters_in vs) 0 ≡ pos 0
unfolding parameters_in parameter_in listed value
in_unused vs = refl

-- the parameters of values that are not illegal, under the right sumcheck
pub right_parameters : (vs : List ℕ) → is_illegal vs ≡ false → is_sum_right vs ≡ true → Legal (parameters_in vs)
unfolding is_legal
right_parameters vs e right =
    tested_legal (parameters_in vs) (in_size vs) (in_unused vs)
    (both (are_legal (parameters_in vs)) (are_others_legal vs) (right_legal vs e right)).0

pub taken_legal : (vs : List ℕ) → is_illegal vs ≡ false → Legal (restored_settings vs).parameters
unfolding restored_settings settings_in repaired_settings
taken_legal vs e =
    by_cases (λ (s : Settings). Legal s.parameters) (is_sum_right vs) (settings_in vs) (repaired_settings vs)
    (right_parameters vs e) (λ wrong. repaired_legal (parameters_in vs) (in_unused vs))

-- a fault that an image brings comes with the request Manual: "1 only with request 0"
request_manual : (request fault : ℕ) → (eqb fault 0 || eqb request 0) ≡ true → eqb fault 1 ≡ true → request_in request ≡ Manual
request_manual request fault e one =
    go (eqb request 0) refl (rw (ne_eqb fault 0 (λ q. omega (arith, eqb-true fault 1 one))) at e)
  where
    go : (t : Bool) → eqb request 0 ≡ t → eqb request 0 ≡ true → request_in request ≡ Manual
    go true q d = rw d refl
    go false q d = never (sym q ∙ d)

taken_manual : (vs : List ℕ) → is_illegal vs ≡ false → (restored_settings vs).fault ≡ true → (restored_settings vs).request ≡ Manual
unfolding restored_settings settings_in repaired_settings is_legal
taken_manual vs e =
    by_cases (λ (s : Settings). s.fault ≡ true → s.request ≡ Manual) (is_sum_right vs) (settings_in vs) (repaired_settings vs)
    (λ right one.
    let others = others_of vs (both (are_legal (parameters_in vs)) (are_others_legal vs) (right_legal vs e right)).1 in
    request_manual (get_or vs 24 0) (get_or vs 25 0) others.manual one)
    (λ wrong one. refl)

pub restarted_valid : (c : Controller) (vs : List ℕ) → is_illegal vs ≡ false → Valid (controller_restarted c vs)
unfolding controller_restarted controller_after restart_accepted
restarted_valid c vs e =
    let legal = taken_legal vs e in
    record {
      legal = legal;
      kept = tt;
      readable = start_readable (restored_settings vs).parameters legal;
      manual = λ f.
          by_cases (λ (r : Request). r ≡ Manual) (switches_of c.core.sw).powerfail Manual (restored_settings vs).request (λ on. refl)
          (λ off. taken_manual vs e f);
      stored = restart_stored (restored_settings vs).parameters legal (switches_of c.core.sw) _ (restored_settings vs).op c.output;
    }

pub valid_restart : (c : Controller) (image : List ℕ) → Valid c → Valid (restart c image).next
unfolding restart restart_core response_from controller_after refused executed changed limited_to controller_restarted
valid_restart c image valid =
    by_verdict_lem (λ o. Valid (response_from c o).next) (refused_by (restart_tests image)) c.core
    (restart_accepted c.core (values_in image))
    (λ e. restarted_valid c (values_in image) (taken image e).legal) (λ m. valid)
