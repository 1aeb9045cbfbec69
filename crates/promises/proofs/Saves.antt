-- The bytes of a saved image, by their places.
use mathlib.Core.Path.{◌≡◌, refl, sym, ap, subst, ◌∙◌}
use mathlib.Core.List.{List}
use Prim.Native.Nat.{ℕ, ◌<◌}
use native.Mathlib.Omega.{arith}
use lib.ListN.{get_or}
use borrow.Author.Tests.{lt-ltb}
use Rattle.integers.specs.TwosComplement.{as_word}
use Rattle.modes.specs.declared.Request.{Request}
use Rattle.modes.specs.declared.Request.TheVariants.{Manual, Auto, Remote}
use Rattle.settings.specs.Settings.{request_number, user_bits_number, value_at}
use Rattle.settings.specs.SettingsLaws.{saved_at}
use Rattle.controller.specs.Answers.{electrical_of}
use Rattle.controller.specs.ImageLaws.{values_are, saved_header, saved_size, saved_sum}
use Rattle.controller.specs.Restart.{values_in}
use Rattle.controller.specs.Save.{settings_of, settings_now, saved_image}
use Rattle.controller.specs.Valid.{Valid}
use Rattle.controller.specs.declared.Controller.{Controller}
use Rattle.guarantee.specs.Claim.{OwnOutput}
use Rattle.promises.specs.Images.{code_for, SavedBytes, SaveEncodes}
use Rattle.guarantee.proofs.Answers.{own_output}
use Rattle.guarantee.proofs.Brought.{fault_at, sum_is}
use Rattle.guarantee.proofs.Linked.{valid_linked}
use Rattle.promises.proofs.Images.{taken_front, bytes_behind}
use Rattle.promises.proofs.Places.{well_formed_is, word_at_lem, request_at, user_bits_at}

code_is : (r : Request) → request_number r ≡ code_for r
code_is Manual = refl
code_is Auto = refl
code_is Remote = refl

module _ (c : Controller) (valid : Valid c) where
  image : List ℕ
  image = saved_image c

  -- a value of the saved image
  value_of : (n : ℕ) → n < 27 → get_or (values_in image) n 0 ≡ value_at (settings_now c) n
  unfolding image
  value_of n h = ap (λ (vs : List ℕ). get_or vs n 0) (values_are c valid) ∙ saved_at (settings_now c) n h

  encoded : SavedBytes c image
  unfolding image value_at settings_now settings_of as_word user_bits_number
  encoded =
      record {
        size = saved_size c valid;
        headers = sym (well_formed_is image) ∙ saved_header c valid;
        parameters = λ n h. sym (word_at_lem image n (omega arith)) ∙ value_of n (omega arith) ∙ rw (lt-ltb n 23 h) refl;
        electrical = electrical_of c.core.sw c.output;
        own =
            subst (λ (op : ℕ). OwnOutput c op (electrical_of c.core.sw c.output))
            (sym (sym (word_at_lem image 23 (omega arith)) ∙ value_of 23 (omega arith))) (own_output c valid.stored);
        request = sym (request_at image) ∙ value_of 24 (omega arith) ∙ code_is c.core.conditions.request;
        fault = sym (fault_at image) ∙ value_of 25 (omega arith);
        userbits = sym (user_bits_at image) ∙ value_of 26 (omega arith);
        sum = sym (sum_is image) ∙ saved_sum c valid;
      }

pub save_encodes : SaveEncodes
unfolding image
save_encodes word calls rs c l life buffer r after saves took =
    let valid = valid_linked l in (
      subst (λ (bytes : List ℕ). SavedBytes c bytes) (sym (taken_front c valid life buffer r after saves took)) (encoded c valid),
      bytes_behind c valid life buffer r after saves took,
    )
