-- What was saved and what is restarted: a saved image is sound and brings its settings back; a sound
-- image is saved again as the same bytes.
use Rattle.std.specs.Prelude.{◌≡◌, true, false, ◌&&◌, List, ℕ, ◌*◌, ◌≤◌, eqb, ℤ, pos, nat_abs, ◌*ℤ◌, length, get_or, ◌≤ℤ◌}
use Rattle.std.proofs.Math.Path.{refl, ap}
use Rattle.std.proofs.Common.{◌∙◌, arith, eq-eqb, eqb-true}
use Rattle.std.proofs.Math.Option.{none}
use Rattle.integers.specs.Choice.{both}
use Rattle.integers.specs.Limit.{limited, limited_same}
use Rattle.integers.specs.Operations.{product}
use Rattle.integers.specs.Parts.{integers}
use Rattle.signals.specs.Refusals.{refused_by}
use Rattle.signals.specs.Signals.{switches_of}
use Rattle.fields.specs.Fields.{fields_from}
use Rattle.fields.specs.Decoding.{well_formed_from}
use Rattle.fields.specs.RoundTrip.{Bytes, saved_well_formed, saved_values, saved_again, words_of, values_length, image_length}
use Rattle.parameters.specs.Legal.{are_legal, Legal}
use Rattle.parameters.specs.RepairedLaws.{tested_legal, legal_tested}
use Rattle.parameters.specs.Table.{LO, HO}
use Rattle.settings.specs.Settings.{image_of, parameters_in, settings_in, is_sum_right, are_others_legal}
use Rattle.settings.specs.SettingsLaws.{saved, saved_length, saved_right, saved_parameters}
use Rattle.settings.specs.SettingsLaws.{settings_back, saved_legal, saved_fits, others_of, values_again}
use Rattle.settings.specs.declared.Settings.{Settings}
use Rattle.terms.specs.Fraction.{stored_units, limited_stored}
use Rattle.outputs.specs.Instruction.{stored_arithmetic, changed, limited_to, executed}
use Rattle.outputs.specs.OutputLaws.{OutputRange, stored_most}
use Rattle.outputs.specs.Outputs.{restarted_to, restart_instruction}
use Rattle.controller.specs.Answers.{op_of}
use Rattle.controller.specs.Restart.{values_in, is_legal, restart_tests, is_sound, restored_settings}
use Rattle.controller.specs.Restart.{restart_accepted, restart_core, controller_restarted, restart}
use Rattle.controller.specs.RestartLaws.{in_size, in_unused}
use Rattle.controller.specs.Save.{settings_of, settings_now, saved_image}
use Rattle.controller.specs.Scan.{controller_after, response_from}
use Rattle.controller.specs.Valid.{Valid}
use Rattle.controller.specs.declared.Controller.{Controller}

op_most : (x : ℤ) → OutputRange x → op_of x ≤ 9999
unfolding op_of
op_most x h = omega (arith, stored_most x h)

-- ---- a saved image

module _ (c : Controller) (valid : Valid c) where
  now : Settings
  now = settings_now c

  now_legal : Legal now.parameters
  unfolding now settings_now settings_of
  now_legal = valid.legal

  now_op : now.op ≤ 9999
  unfolding now settings_now settings_of
  now_op = op_most c.output valid.stored

  pub values_are : values_in (saved_image c) ≡ saved (settings_now c)
  unfolding now saved_image image_of
  values_are = saved_values (saved now) (saved_length now) (saved_fits now now_legal (omega (arith, now_op)))

  pub saved_header : well_formed_from 0 28 (saved_image c) ≡ true
  unfolding now saved_image image_of
  saved_header = saved_well_formed (saved now) (saved_length now)

  pub saved_size : length (saved_image c) ≡ 137
  unfolding now saved_image image_of
  saved_size = image_length (saved now) (saved_length now)

  legal_values : is_legal (saved now) ≡ true
  unfolding is_legal now settings_now settings_of
  legal_values =
      rw (saved_parameters now now_legal, legal_tested now.parameters now_legal)
      (saved_legal now now_legal now_op valid.manual)

  -- a saved image is sound
  pub saved_sound : is_sound (saved_image c) ≡ true
  unfolding is_sound now
  saved_sound = rw (eq-eqb (length (saved_image c)) 137 saved_size, saved_header, values_are, saved_right now, legal_values) refl

  pub saved_accepted : refused_by (restart_tests (saved_image c)) ≡ none
  unfolding restart_tests refused_by now
  saved_accepted = rw (eq-eqb (length (saved_image c)) 137 saved_size, saved_header, values_are, saved_right now, legal_values) refl

  pub saved_sum : is_sum_right (values_in (saved_image c)) ≡ true
  unfolding now
  saved_sum = ap is_sum_right values_are ∙ saved_right now

  pub saved_taken : restored_settings (values_in (saved_image c)) ≡ settings_now c
  unfolding restored_settings now
  saved_taken = rw (values_are, saved_right now) (settings_back now now_legal)

-- ---- a sound image

record Sound (image : List ℕ) : Type 0 where
  size : length image ≡ 137
  formed : well_formed_from 0 28 image ≡ true
  right : is_sum_right (values_in image) ≡ true
  legal : is_legal (values_in image) ≡ true

sound_of : (image : List ℕ) → is_sound image ≡ true → Sound image
unfolding is_sound
sound_of image e =
    let size = eqb (length image) 137 in
    let formed = well_formed_from 0 28 image in
    let right = is_sum_right (values_in image) in
    let legal = is_legal (values_in image) in
    let first = both (size && formed && right) legal e in
    let second = both (size && formed) right first.0 in
    let third = both size formed second.0 in
    record { size = eqb-true (length image) 137 third.0; formed = third.1; right = second.1; legal = first.1 }

pub sound_size : (image : List ℕ) → is_sound image ≡ true → length image ≡ 137
sound_size image e = (sound_of image e).size

pub sound_accepted : (image : List ℕ) → is_sound image ≡ true → refused_by (restart_tests image) ≡ none
unfolding restart_tests refused_by
sound_accepted image e = let s = sound_of image e in rw (eq-eqb (length image) 137 s.size, s.formed, s.right, s.legal) refl

pub sound_legal : (image : List ℕ) → is_sound image ≡ true → Legal (parameters_in (values_in image))
unfolding is_legal
sound_legal image e =
    let vs = values_in image in
    tested_legal (parameters_in vs) (in_size vs) (in_unused vs)
    (both (are_legal (parameters_in vs)) (are_others_legal vs) (sound_of image e).legal).0

op_of_units : (low high : ℤ) (op : ℕ) → low ≤ℤ pos op → pos op ≤ℤ high → op_of (limited_stored low high (stored_units (pos op))) ≡ op
unfolding op_of limited_stored stored_units
op_of_units low high op h k =
    let x = pos op *ℤ pos 65536 in
    let same : limited (low *ℤ pos 65536) (high *ℤ pos 65536) x ≡ x =
    limited_same (low *ℤ pos 65536) (high *ℤ pos 65536) x
    (omega (arith, integers, product low (pos 65536), product (pos op) (pos 65536), h))
    (omega (arith, integers, product high (pos 65536), product (pos op) (pos 65536), k)) in
    rw same (let e : nat_abs x ≡ op * 65536 = refl in omega (arith, e))

module _ (d : Controller) (image : List ℕ) (bytes : Bytes image) (sound : is_sound image ≡ true)
    (off : (switches_of d.core.sw).powerfail ≡ false)
    (least : LO (parameters_in (values_in image)) ≤ℤ pos (get_or (values_in image) 23 0))
    (most : pos (get_or (values_in image) 23 0) ≤ℤ HO (parameters_in (values_in image))) where
  vs : List ℕ
  vs = values_in image

  settings_are : settings_now (controller_restarted d vs) ≡ settings_in vs
  unfolding vs settings_now settings_of controller_restarted controller_after restart_accepted restored_settings settings_in executed
      changed
      limited_to restart_instruction restarted_to stored_arithmetic
  settings_are =
      rw ((sound_of image sound).right, off)
      (rw (op_of_units (LO (parameters_in vs)) (HO (parameters_in vs)) (get_or vs 23 0) least most) refl)

  -- it saves to the same bytes
  pub same_bytes_lem : saved_image (restart d image).next ≡ image
  unfolding saved_image image_of restart restart_core response_from controller_restarted vs is_legal
  same_bytes_lem =
      let s = sound_of image sound in
      rw (sound_accepted image sound)
      (ap image_of settings_are ∙ ap (fields_from 0)
      (values_again vs (values_length 28 0 image) (words_of 28 0 image bytes)
      (others_of vs (both (are_legal (parameters_in vs)) (are_others_legal vs) s.legal).1) s.right) ∙
      saved_again image s.size bytes s.formed)
