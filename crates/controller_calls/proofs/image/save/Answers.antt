-- `controller_calls::image::save` meets its contract.
use mathlib.Core.List.{◌++◌}
use mathlib.Core.Path.{◌≡◌, refl, ap, ◌∙◌}
use Prim.Native.Nat.{◌-◌, ◌≤◌, ◌<◌}
use native.Mathlib.Nat.{sub-zero}
use lib.ListN.{length, take, drop, length-replicate}
use borrow.Author.Tests.{le-leb, lt-leb}
use Rattle.fields.specs.Fields.{saved_in}
use Rattle.controller.specs.Save.{saved_image}
use Rattle.controller_calls.specs.CallLaws.{filled_replicate, filled_take, filled_drop, checked_save}
use Rattle.controller_calls.specs.Calls.{filled, checked_reply, reply_to_save, saved_buffer}
use Rattle.controller_calls.proofs.image.save.Goals as goal

pub returns-then-count-buffer : goal.returns-then-count-buffer
unfolding reply_to_save saved_buffer
returns-then-count-buffer c =
    let count = c.args.count in
    let bytes = c.args.buffer.now in
    let part = take count (filled bytes) in
    let rest = drop count (filled bytes) in
    let h : count ≤ length bytes = rw (c.fill.ensures, length-replicate) at c.if-count-buffer.true in
    let e = rw (sub-zero, c.fill.ensures) at c.save-verdict.ensures in
    let after : c.save-verdict.new.buffer ++ drop (count - 0) c.fill.new.buffer ≡ saved_in (saved_image c.args.controller) part ++ rest =
    rw (sub-zero, c.fill.ensures, e.1) refl in
    let whole = filled_replicate (length bytes) in
    let checked =
    checked_save c.args.controller c.valid.ensures part rest (filled_take count (filled bytes) whole)
    (filled_drop count (filled bytes) whole)
    c.save-verdict.result e.0 in (
      rw (le-leb _ _ h) (c.reply_to_save.ensures ∙ ap (checked_reply c.save-verdict.result) after ∙ checked),
      rw (le-leb _ _ h) after,
    )

pub returns : goal.returns
unfolding reply_to_save saved_buffer
returns c =
    let h : length c.args.buffer.now < c.args.count = rw (c.fill.ensures, length-replicate) at c.if-count-buffer.false in
    (rw (lt-leb _ _ h) refl, rw (lt-leb _ _ h) c.fill.ensures)
