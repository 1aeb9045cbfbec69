-- `scaling::ratio` meets its contract.
use mathlib.Core.Path.{◌∙◌}
use mir.Facts.{to_z-of_z}
use mir.Syntax.{w64}
use Rattle.integers.specs.Machine.{back}
use Rattle.scaling.specs.Ratio.{ratio_factor}
use Rattle.scaling.proofs.ratio.Goals as goal

pub returns : goal.returns
returns c =
    back w64 _ c.quotient.type_inv ∙ c.quotient.ensures ∙ simp (to_z-of_z c.ranges.q) (ratio_factor c.args.q c.args.s)
