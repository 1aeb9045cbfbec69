-- `formatting::Text::push_signed` meets its contract.
use Rattle.std.proofs.Common.{◌∙◌}
use mir.Facts.{to_z-of_z}
use Rattle.numerals.specs.Numerals.{decimal}
use Rattle.formatting.specs.Laws.{then}
use Rattle.formatting.proofs.Text.push_signed.Goals as goal
use Rattle.formatting.proofs.Text.push_signed.Goals.{then-number-lt0, else-number-lt0}

pub returns : goal.returns
unfolding decimal
returns g c =
    let size = rw (c.unsigned_abs.ensures.value, to_z-of_z c.ranges.number) at c.push_decimal.ensures in
    elim c.if-number-lt0.branch [
      | then-number-lt0 w ↦
          let sign = rw (to_z-of_z c.ranges.number) at (w.if-number-lt0.true) in
          simp sign (then c.args.self.now _ _ (w.self-is ∙ w.push.ensures) size)
      | else-number-lt0 w ↦
          let sign = rw (to_z-of_z c.ranges.number) at (w.if-number-lt0.false) in
          simp sign (rw w.self-is at size)
    ]
