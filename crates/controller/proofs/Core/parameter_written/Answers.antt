-- `controller::Core::parameter_written` meets its contract.
use mir.Facts.{to_z-of_z}
use Rattle.controller.specs.WriteLaws.{accepted_write}
use Rattle.controller.specs.Write.{parameter_written, core_with}
use Rattle.controller.proofs.Core.parameter_written.Goals as goal

pub after_write-requires : goal.after_write-requires
after_write-requires c =
    let t = accepted_write c.args.self.now c.args.number c.args.v c.requires.2 in
    rw (to_z-of_z c.ranges.v) (c.requires.0, c.requires.1, t.range, t.order)

pub returns : goal.returns
unfolding parameter_written core_with
returns c = simp (c.after_write.ensures, to_z-of_z c.ranges.v)
