-- `terminal::reply::write` meets its contract.
use mir.Facts.{to_z-of_z}
use Rattle.std.proofs.Common.{◌∙◌, refl}
use Rattle.terminal.proofs.reply.write.Goals as goal

pub returns : goal.returns
returns c =
    let text = rw (to_z-of_z c.ranges.value) at (c.as_slice-bytes.ensures ∙ c.whole-text.ensures.0) in
    rw (c.copy_from_slice.ensures.after, text) (refl, refl)
