-- `controller::Controller::answer` meets its contract.
use Rattle.std.specs.Prelude.{Ok}
use mathlib.Core.Path.{◌≡◌, refl, ap, ◌∙◌}
use Rattle.outputs.specs.OutputLaws.{stored_back}
use Rattle.answers.specs.declared.ScanValues.{ScanValues}
use Rattle.controller.specs.Answers.{op_of, electrical_of, reply_of}
use Rattle.controller.specs.Scan.{mode_now, md_now, ds_now, status_of, with_output}
use Rattle.controller.specs.declared.Controller.{Controller}
use Rattle.controller.specs.ValidLaws.{reading_narrowed}
use Rattle.controller.proofs.Controller.answer.Goals as goal

-- values that are those of a controller make its answer
answered : (c : Controller) (v : ScanValues) → v.md ≡ md_now c.core → v.ds ≡ ds_now c.core → v.op ≡ op_of c.output →
    v.electrical ≡ electrical_of c.core.sw c.output → v.mode ≡ mode_now c.core → v.pv ≡ c.core.readings.pv →
    reply_of (Ok v) ≡ with_output (status_of c.core) c.core.sw c.output
unfolding status_of
answered c v md ds op electrical mode pv = rw (md, ds, op, electrical, mode, pv) refl

pub returns : goal.returns
returns c =
    let stored = stored_back c.self.invariant.stored in
    rw (← c.self.view_is)
    (answered (record { core = c.self.inside.core; output = c.self.inside.output }) _
    c.md.ensures
    c.ds.ensures
    (c.op_of.ensures.0 ∙ ap op_of stored)
    (c.electrical_of.ensures ∙ ap (electrical_of c.self.inside.core.sw) stored)
    c.mode.ensures
    (reading_narrowed c.self.inside.core.readings.pv c.self.invariant.readable.pv_most))
