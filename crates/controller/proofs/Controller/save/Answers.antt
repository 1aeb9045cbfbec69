-- `controller::Controller::save` meets its contract.
use mathlib.Core.Path.{ap, ◌∙◌}
use Rattle.fields.specs.Fields.{saved_in}
use Rattle.settings.specs.Settings.{image_of}
use Rattle.settings.specs.declared.Settings.{Settings}
use Rattle.controller.specs.Answers.{reply_by, reply_by_lem}
use Rattle.controller.specs.Save.{saved_image}
use Rattle.controller.proofs.Controller.save.Goals as goal

pub returns : goal.returns
unfolding saved_image
returns c = let e = c.save.ensures in (
  reply_by_lem c.save.result ∙ ap reply_by e.0,
  e.1 ∙ ap (λ (s : Settings). saved_in (image_of s) c.args.buffer.now) c.settings.ensures.0,
)
