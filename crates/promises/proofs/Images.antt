-- The promises of images.
use Rattle.std.specs.Prelude.{if◌then◌else◌}
use mathlib.Core.Path.{◌≡◌, refl, sym, ap, subst, ◌∙◌}
use mathlib.Core.Bool.{Bool, true, false, not, ◌||◌}
use mathlib.Core.List.{List, ◌++◌}
use mathlib.Core.Option.{some, none}
use Prim.Native.Nat.{ℕ, ◌≤◌, ◌<◌}
use native.Mathlib.Omega.{arith}
use lib.Dec.{ltb}
use lib.IntN.{ℤ, pos, ◌-ℤ◌}
use lib.ListN.{length, get_or, take, drop}
use lib.Seq.{drop_at, take_at}
use lib.Signed.{◌≤ℤ◌}
use borrow.Author.Tests.{le-leb, le-ltb, ltb-false}
use Rattle.integers.specs.Choice.{by_cases, never}
use Rattle.integers.specs.Listed.{listed}
use Rattle.integers.specs.Operations.{difference}
use Rattle.integers.specs.Parts.{integers}
use Rattle.integers.specs.TwosComplement.{from_word}
use Rattle.signals.specs.Bits.{bit}
use Rattle.signals.specs.Refusals.{refused_by, Verdict}
use Rattle.signals.specs.Signals.{switches_of}
use Rattle.fields.specs.Fields.{save_tests, saved_in}
use Rattle.fields.specs.RoundTrip.{words_of}
use Rattle.modes.specs.declared.Request.TheVariants.{Manual}
use Rattle.parameters.specs.LegalLaws.{ranges}
use Rattle.parameters.specs.Table.{value, LO, HO}
use Rattle.parameters.specs.declared.Parameters.{Parameters}
use Rattle.settings.specs.Settings.{parameter_in, parameters_in}
use Rattle.settings.specs.declared.Settings.{Settings}
use Rattle.terms.specs.Fraction.{stored_units, limited_stored}
use Rattle.outputs.specs.Instruction.{stored_arithmetic, changed, limited_to, executed}
use Rattle.outputs.specs.Outputs.{minimum_of, restarted_to, restart_instruction}
use Rattle.controller.specs.Answers.{acceptance, reply_by, Response, op_of, electrical_of}
use Rattle.controller.specs.ImageLaws.{saved_size, saved_sound, saved_accepted, saved_sum, saved_taken}
use Rattle.controller.specs.ImageLaws.{sound_size, sound_legal, sound_accepted, same_bytes_lem}
use Rattle.controller.specs.Restart.{values_in, is_sound, restored_settings, restart_accepted, restart_core, restart}
use Rattle.controller.specs.Save.{settings_of, settings_now, saved_image}
use Rattle.controller.specs.Scan.{controller_after, response_from}
use Rattle.controller.specs.Valid.{Valid}
use Rattle.controller.specs.declared.Controller.{Controller}
use Rattle.guarantee.specs.Bytes.{word_at}
use Rattle.promises.specs.Images.{Restored, SavedRestarts, WithinItsLimits, SavesTheSame}
use Rattle.promises.specs.Restarts.{Accepts, RestartState}
use Rattle.guarantee.specs.Linked.{SaveEnsures, MutSlice, Lifetime}
use Rattle.guarantee.proofs.Answers.{own_output}
use Rattle.guarantee.proofs.Brought.{op_at}
use Rattle.guarantee.proofs.Linked.{valid_linked}
use Rattle.promises.proofs.Places.{word_at_lem, sound_is}
use Rattle.promises.proofs.Restarts.{is_acceptance, restart_state}
use Rattle.promises.proofs.Units.{to_output}

-- ---- a saved image

module _ (c d : Controller) (valid : Valid c) where
  vs : List ℕ
  vs = values_in (saved_image c)

  next : Controller
  next = controller_after d (restart_accepted d.core vs)

  restart_is : restart d (saved_image c) ≡ record { next = next; answer = acceptance }
  unfolding vs next restart restart_core response_from restart_accepted
  restart_is = rw (saved_accepted c valid) refl

  taken_is : restored_settings vs ≡ settings_now c
  unfolding vs
  taken_is = saved_taken c valid

  never_off : (b : Bool) → (b || not true) ≡ b
  never_off true = refl
  never_off false = refl

  output_is : next.output ≡ limited_stored (LO (settings_now c).parameters) (HO (settings_now c).parameters)
      (stored_units (if bit d.core.sw 11 then (if bit d.core.sw 14 then HO (settings_now c).parameters else
      LO (settings_now c).parameters) else pos (settings_now c).op))
  unfolding vs next controller_after restart_accepted executed changed limited_to restart_instruction restarted_to minimum_of
      stored_arithmetic
      switches_of
  output_is = rw (taken_is, saved_sum c valid, never_off (bit d.core.sw 11)) refl

  restored : Restored c d next
  unfolding vs next controller_after restart_accepted switches_of settings_now settings_of
  restored =
      record {
        state =
            subst (λ (n : Controller). RestartState d n) (ap (λ (h : Response). h.next) restart_is)
            (restart_state d (saved_image c) (ap (λ (h : Response). h.answer) restart_is));
        parameters = ap (λ (s : Settings). s.parameters) taken_is;
        fault = ap (λ (s : Settings). s.fault) taken_is;
        userbits = ap (λ (s : Settings). s.userbits) taken_is;
        request = ap (λ (s : Settings). if bit d.core.sw 11 then Manual else s.request) taken_is;
        op = op_of c.output;
        electrical = electrical_of c.core.sw c.output;
        own = own_output c valid.stored;
        output =
            output_is ∙ to_output c.core.parameters valid.legal (bit d.core.sw 11) (bit d.core.sw 14) (op_of c.output);
      }

-- the bytes that an accepted save leaves in front
taken_save : (image buffer : List ℕ) → length image ≡ 137 → reply_by (refused_by (save_tests buffer)) ≡ acceptance →
    saved_in image buffer ≡ image ++ drop 137 buffer
unfolding save_tests refused_by saved_in
taken_save image buffer size = go (ltb (length buffer) 137) refl
  where
    go : (t : Bool) → ltb (length buffer) 137 ≡ t → reply_by (if t then some 15 else none) ≡ acceptance →
        saved_in image buffer ≡ image ++ drop 137 buffer
    go true e a = never (ap is_acceptance a)
    go false e a = rw (le-leb 137 (length buffer) (ltb-false (length buffer) 137 e)) refl

module _ (c : Controller) (valid : Valid c) (life : Lifetime) (buffer : MutSlice) (r : Verdict) (after : List ℕ)
    (saves : SaveEnsures life c buffer r after) (took : Accepts r) where
  after_is : after ≡ saved_image c ++ drop 137 buffer.now
  after_is = saves.1 ∙ taken_save (saved_image c) buffer.now (saved_size c valid) (sym saves.0 ∙ took)

  -- the front of the buffer is the image
  pub taken_front : take 137 after ≡ saved_image c
  taken_front = ap (take 137) after_is ∙ take_at (saved_image c) (drop 137 buffer.now) 137 (saved_size c valid)

  -- and the bytes behind it stay
  pub bytes_behind : drop 137 after ≡ drop 137 buffer.now
  bytes_behind = ap (drop 137) after_is ∙ drop_at (saved_image c) (drop 137 buffer.now) 137 (saved_size c valid)

pub saved_restarts : SavedRestarts
saved_restarts word calls rs c l life buffer r after saves took later d image j same restarts =
    let valid = valid_linked l in
    let bytes : image.now ≡ saved_image c = same ∙ taken_front c valid life buffer r after saves took in
    let response-is = restarts.0 ∙ ap (restart d) bytes ∙ restart_is c d valid in (
      sym (sound_is image.now) ∙ ap is_sound bytes ∙ saved_sound c valid,
      ap (λ (h : Response). h.answer) response-is,
      subst (λ (n : Controller). Restored c d n) (sym (ap (λ (h : Response). h.next) response-is)) (restored c d valid),
    )

-- ---- a sound image

signed_word : (w : ℕ) → pos 0 ≤ℤ from_word w → w < 65536 → from_word w ≡ pos w
unfolding from_word
signed_word w h l =
    by_cases (λ (z : ℤ). pos 0 ≤ℤ z → z ≡ pos w) (ltb w 32768) (pos w) (pos w -ℤ pos 65536) (λ e k. refl)
    (λ e k. absurd (omega (arith, integers, k, difference (pos w) (pos 65536)))) h

module _ (image : List ℕ) (bytes : (k : ℕ) → get_or image k 0 < 256) (sound : is_sound image ≡ true) where
  p : Parameters
  p = parameters_in (values_in image)

  word_most : (n : ℕ) → get_or (values_in image) n 0 < 65536
  word_most = words_of 28 0 image bytes

  low_is : LO p ≡ pos (word_at image 78)
  unfolding p parameters_in parameter_in listed value
  low_is =
      signed_word (get_or (values_in image) 15 0) (ranges p (sound_legal image sound)).outputs.not_below (word_most 15) ∙
      ap pos (word_at_lem image 15 (omega arith))

  high_is : HO p ≡ pos (word_at image 73)
  unfolding p parameters_in parameter_in listed value
  high_is =
      let limits = (ranges p (sound_legal image sound)).outputs in
      signed_word (get_or (values_in image) 14 0) (omega (arith, integers, limits.not_below, limits.order)) (word_most 14) ∙
      ap pos (word_at_lem image 14 (omega arith))

  same_again : (d : Controller) → bit d.core.sw 11 ≡ false → WithinItsLimits image → saved_image (restart d image).next ≡ image
  unfolding p switches_of
  same_again d off within =
      same_bytes_lem d image bytes sound off (rw (low_is, op_at image) (omega (arith, integers, within.least)))
      (rw (high_is, op_at image) (omega (arith, integers, within.most)))

-- an accepted save, of enough bytes
enough : (buffer : List ℕ) → 137 ≤ length buffer → reply_by (refused_by (save_tests buffer)) ≡ acceptance
unfolding save_tests refused_by
enough buffer h = rw (le-ltb (length buffer) 137 h) refl

accepts_sound : (d : Controller) (image : List ℕ) → is_sound image ≡ true → (restart d image).answer ≡ acceptance
unfolding restart restart_core response_from restart_accepted
accepts_sound d image sound = rw (sound_accepted image sound) refl

pub saves_the_same : SavesTheSame
saves_the_same life d image j bytes effects within off restarts =
    let sound = sound_is image.now ∙ effects in
    let again : saved_image j.controller ≡ image.now =
    ap (λ (h : Response). saved_image h.next) restarts.0 ∙ same_again image.now bytes sound d off within in
    let size : length (saved_image j.controller) ≡ 137 = ap length again ∙ sound_size image.now sound in (
      ap (λ (h : Response). h.answer) restarts.0 ∙ accepts_sound d image.now sound,
      λ later buffer r after h saves.
          let took = enough buffer.now h in (
            saves.0 ∙ took,
            saves.1 ∙ taken_save (saved_image j.controller) buffer.now size took ∙
                ap (λ (b : List ℕ). b ++ drop 137 buffer.now) again,
          ),
    )
