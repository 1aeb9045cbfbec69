-- `fields::save` meets its contract.
use Rattle.std.proofs.Common.{le-ltb, lt-ltb, le-leb}
use borrow.Author.Tests.{lt-leb}
use Rattle.signals.specs.Refusals.{refused_by}
use Rattle.fields.specs.Fields.{save_tests, saved_in}
use Rattle.fields.proofs.save.Goals as goal

pub returns-then-buffer-lt-IMAGE_LENGTH : goal.returns-then-buffer-lt-IMAGE_LENGTH
unfolding refused_by save_tests saved_in
returns-then-buffer-lt-IMAGE_LENGTH c =
    (simp (lt-ltb _ _ c.if-buffer-lt-IMAGE_LENGTH.true), simp (lt-leb _ _ c.if-buffer-lt-IMAGE_LENGTH.true))

pub returns : goal.returns
unfolding refused_by save_tests saved_in
returns c = (
  simp (le-ltb _ _ c.if-buffer-lt-IMAGE_LENGTH.false),
  simp (le-leb _ _ c.if-buffer-lt-IMAGE_LENGTH.false) c.encode.ensures,
)
